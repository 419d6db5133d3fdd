-- What the blocks must hold at the close is what the words of 1 say.
use mathlib.Core.Path.{◌≡◌, refl, sym, subst}
use mathlib.Core.Logic.Iff
use mathlib.Core.Logic.{◌↔◌, ◌⊎◌, inl, inr}
use mathlib.Core.Bool.{Bool, true, false, ◌&&◌, ◌||◌}
use mathlib.Core.List.{List, ◌∷◌}
use Prim.Native.Nat.{ℕ, zero, suc, ◌+◌, ◌-◌, ◌*◌, ◌/◌, ◌%◌, ◌≤◌, ◌<◌}
use native.Mathlib.Omega.{arith}
use lib.Dec.{T, eqb, leb, ltb}
use lib.ListN.{get_or}
use Rattle.lists.specs.Lists.{all, tab, neighbours, Each, each_nil, each_cons}
use Rattle.lists.proofs.Reflect.{of_eq, of_all}
use Rattle.lists.proofs.RestatedLists.{each_parts, each_tab}
use Rattle.calendar.specs.declared.Years.{Years}
use Rattle.calendar.specs.Places.{has_date, has_winter_date}
use Rattle.calendar.specs.Spans.{among, year_at, place_at}
use Rattle.calendar.proofs.Tables.{tri}
use Rattle.calendar.proofs.Laws.Days.{date_day, day_place}
use Rattle.calendar.proofs.Laws.Positions.{among_words}
use Rattle.meaning.specs.Filing.{Reading, Kind, real, corrected, estimated, no_kind}
use Rattle.meaning.specs.Line.{most_power, most_index, most_profile, most_daily, is_kind}
use Rattle.meaning.specs.Blocks.{Blocks, missing_point, fresh_reading, readings_of}
use Rattle.meaning.specs.Record.{Rec, history_of_rec, axis_of_rec, is_dated, point_fits, points_fit, slots_fit, daily_fits, reading_fits, readings_fit, contents_fit}
use Rattle.meaning.specs.Restated.Ranges.{FileYear, YearAt, DateAt, WinterDateAt, PointsFit, SlotsFit, OnAxis, DailyFits, CountedFits, HeldFits, RangeWords}
use Rattle.meaning.proofs.Pins.Says.{Says, say, reworded, either, both, equal, at_most, below}
use Rattle.meaning.proofs.Pins.Dates.{date_words}
use Rattle.meaning.proofs.Pins.Spans.{of_file_year, of_axis_year, of_year_at, of_date_at, of_winter_date_at, of_each_at, of_rows, of_days}
use Rattle.meaning.proofs.Pins.Fields.{of_sizes, of_record}

-- a year of a span at a place, with what holds of it
with_year : {Is P : ℕ → Type 0} (b : Bool) (span : Years) → ((y : ℕ) → T (among span y) ↔ Is y) → (k : ℕ) → T b ↔ P (span.first + k)
    → Says (among span (span.first + k) && b) ((y : ℕ) × YearAt Is k y × P y)
with_year {Is} {P} b span f k g = reworded (both (say (among span (span.first + k)) (among_words span (span.first + k))) (say b g)) (
  λ t. (span.first + k, (of_year_at span f k (span.first + k)).1 (omega (arith, t.0), refl), t.1),
  λ q. let at = (of_year_at span f k q.0).0 q.1 in ((omega arith, omega (arith, at.0)), subst P at.1 q.2),
)

-- each two neighbours of a table
each_pair : {A : Type 0} {P : A × A → Type 0} (n i : ℕ) (f : ℕ → A) → Each P (neighbours (tab n i f)) ↔ ((k : ℕ) → i ≤ k → k + 1 < i + n → P (f k, f (k + 1)))
unfolding neighbours tab
each_pair zero i f = (λ e k a b. absurd (omega arith), λ g. each_nil)
each_pair (suc zero) i f = (λ e k a b. absurd (omega arith), λ g. each_nil)
each_pair {A} {P} (suc (suc n)) i f = go (each_pair {P = P} (suc n) (suc i) f)
  where
    next : (m : ℕ) → m + 1 ≡ suc m
    next m = omega arith

    at : P (f i, f (suc i)) → ((k : ℕ) → suc i ≤ k → k + 1 < suc i + suc n → P (f k, f (k + 1))) → (k : ℕ) → i ≤ k → k + 1 < i + suc (suc n) → P (f k, f (k + 1))
    at q r k a b = by (eqb k i) (of_eq k i)
      where
        by : (c : Bool) → T c ↔ (k ≡ i) → P (f k, f (k + 1))
        by true e = let z : k ≡ i = e.0 tt in rw (z, next i) q
        by false e = r k (omega (arith, above)) (omega arith)
          where
            above : i < k
            above = elim (tri i k) [ inl h ↦ h | inr h ↦ elim h [ inl z ↦ absurd (e.1 (sym z)) | inr z ↦ absurd (omega arith) ] ]

    go : Each P (neighbours (f (suc i) ∷ tab n (suc (suc i)) f)) ↔ ((k : ℕ) → suc i ≤ k → k + 1 < suc i + suc n → P (f k, f (k + 1)))
        → Each P ((f i, f (suc i)) ∷ neighbours (f (suc i) ∷ tab n (suc (suc i)) f)) ↔ ((k : ℕ) → i ≤ k → k + 1 < i + suc (suc n) → P (f k, f (k + 1)))
    go r = (
      λ e. let q = each_parts e in at q.0 (r.0 q.1),
      λ g. each_cons (rw (next i) at (g i (omega arith) (omega arith))) (r.1 (λ k a b. g k (omega arith) (omega arith))),
    )

of_kind : (k : Kind) → T (is_kind k) ↔ ((k ≡ real) ⊎ (k ≡ corrected) ⊎ (k ≡ estimated))
of_kind real = (λ t. inl refl, λ q. tt)
of_kind corrected = (λ t. inr (inl refl), λ q. tt)
of_kind estimated = (λ t. inr (inr refl), λ q. tt)
of_kind no_kind = (λ t. absurd t, λ q. elim q [ inl e ↦ (let z : ◌≡◌ {A = ℕ} 0 1 = cc in absurd (omega arith)) | inr r ↦ elim r [ inl e ↦ (let z : ◌≡◌ {A = ℕ} 0 1 = cc in absurd (omega arith)) | inr e ↦ (let z : ◌≡◌ {A = ℕ} 0 1 = cc in absurd (omega arith)) ] ])

module _ (s : Rec) where
  -- ---- points
  point : (y w v : ℕ) → w < 152 → Says (point_fits (is_dated (history_of_rec s) y w) v) ((v ≡ 4294967295) ⊎ (FileYear s y × WinterDateAt y w × (v ≤ 100000000)))
  unfolding point_fits is_dated
  point y w v h =
      either (equal v missing_point)
      (reworded (both (both (say (among (history_of_rec s) y) (of_file_year s y)) (say (has_winter_date y w) (of_winter_date_at y w h))) (at_most v most_power))
      (λ q. (q.0.0, q.0.1, q.1), λ q. ((q.0, q.1), q.2)))

  points : (first : ℕ) (b : List ℕ) → Says (points_fit (history_of_rec s) first b) (PointsFit s first b)
  unfolding points_fit
  points first b =
      say (points_fit (history_of_rec s) first b)
      (Iff.trans (of_each_at (λ i v. point_fits (is_dated (history_of_rec s) (first + i / 3040) (i % 3040 / 20)) v) b missing_point)
      (Iff.trans (of_rows (λ k w v. T (point_fits (is_dated (history_of_rec s) (first + k) w) v)) b missing_point)
      (λ f k w h a c l. (point (first + k) w _ a).iff.0 (f k w h a c l), λ f k w h a c l. (point (first + k) w _ a).iff.1 (f k w h a c l))))

  -- ---- profiles
  slot : (k w v : ℕ) → w < 152 → Says (eqb v 0 || (is_dated (history_of_rec s) ((history_of_rec s).first + k) w && leb v most_profile)) ((v ≡ 0) ⊎ (((y : ℕ) × YearAt (FileYear s) k y × WinterDateAt y w) × (v ≤ 65535)))
  unfolding is_dated
  slot k w v h =
      either (equal v 0)
      (both (with_year {P = λ y. WinterDateAt y w} (has_winter_date ((history_of_rec s).first + k) w) (history_of_rec s) (of_file_year s) k (of_winter_date_at ((history_of_rec s).first + k) w h)) (at_most v most_profile))

  slots : (b : List ℕ) → Says (slots_fit (history_of_rec s) b) (SlotsFit s b)
  unfolding slots_fit
  slots b =
      say (slots_fit (history_of_rec s) b)
      (Iff.trans (of_each_at (λ i v. eqb v 0 || (is_dated (history_of_rec s) ((history_of_rec s).first + i / 3040) (i % 3040 / 20) && leb v most_profile)) b 0)
      (Iff.trans (of_rows (λ k w v. T (eqb v 0 || (is_dated (history_of_rec s) ((history_of_rec s).first + k) w && leb v most_profile))) b 0)
      (λ f k w h a c l. (slot k w _ a).iff.0 (f k w h a c l), λ f k w h a c l. (slot k w _ a).iff.1 (f k w h a c l))))

  -- ---- daily sums
  on_axis : (k p : ℕ) → p < 366 → Says (among (axis_of_rec s) ((axis_of_rec s).first + k) && has_date ((axis_of_rec s).first + k) p) (OnAxis s k p)
  unfolding axis_of_rec
  on_axis k p h = with_year {P = λ y. DateAt y p} (has_date ((axis_of_rec s).first + k) p) (axis_of_rec s) (of_axis_year s) k (of_date_at ((axis_of_rec s).first + k) p h)

  day : (k p v : ℕ) → p < 366 → Says (eqb v 0 || (among (axis_of_rec s) ((axis_of_rec s).first + k) && has_date ((axis_of_rec s).first + k) p && leb v most_daily)) ((v ≡ 0) ⊎ (OnAxis s k p × (v ≤ 3145680)))
  day k p v h = either (equal v 0) (both (on_axis k p h) (at_most v most_daily))

  daily : (b : List ℕ) → Says (daily_fits (axis_of_rec s) b) (DailyFits s b)
  unfolding daily_fits year_at place_at
  daily b =
      say (daily_fits (axis_of_rec s) b)
      (Iff.trans (of_each_at (λ i v. eqb v 0 || (among (axis_of_rec s) (year_at (axis_of_rec s) i) && has_date (year_at (axis_of_rec s) i) (place_at i) && leb v most_daily)) b 0)
      (Iff.trans (of_days (λ k p v. T (eqb v 0 || (among (axis_of_rec s) ((axis_of_rec s).first + k) && has_date ((axis_of_rec s).first + k) p && leb v most_daily))) b 0)
      (λ f k p h l. (day k p _ h).iff.0 (f k p h l), λ f k p h l. (day k p _ h).iff.1 (f k p h l))))

  -- ---- readings
  position : (q : ℕ) → Says (among (axis_of_rec s) (year_at (axis_of_rec s) q) && has_date (year_at (axis_of_rec s) q) (place_at q)) ((k : ℕ) × (p : ℕ) × (q ≡ 366 * k + p) × OnAxis s k p)
  unfolding year_at place_at
  position q = say (among (axis_of_rec s) (year_at (axis_of_rec s) q) && has_date (year_at (axis_of_rec s) q) (place_at q)) (
    λ t. (q / 366, q % 366, omega arith, (on_axis (q / 366) (q % 366) (omega arith)).iff.0 t),
    λ f. back f.0 f.1 f.2 f.3,
  )
    where
      back : (k p : ℕ) → q ≡ 366 * k + p → OnAxis s k p → T (among (axis_of_rec s) ((axis_of_rec s).first + q / 366) && has_date ((axis_of_rec s).first + q / 366) (q % 366))
      back k p e o =
          let h : p < 366 = place p o.2 in
          let row : q / 366 ≡ k = omega arith in
          let day : q % 366 ≡ p = omega arith in
          rw (row, day) ((on_axis k p h).iff.1 o)
        where
          place : (p : ℕ) → DateAt o.0 p → p < 366
          place p d = subst (λ (n : ℕ). n < 366) d.3 (day_place d.0 d.1 (date_day o.0 d.0 d.1 ((date_words.date o.0 d.0 d.1).1 d.2))).below

  of_reading : (r : Reading) → T (reading_fits (axis_of_rec s) r) ↔ CountedFits s r
  unfolding reading_fits
  of_reading r =
      Iff.trans (both (position r.position) (both (at_most r.index most_index) (say (is_kind r.kind) (of_kind r.kind)))).iff
      (λ q. record { position = q.0; index = q.1.0; kind = q.1.1 }, λ c. (c.position, (c.index, c.kind)))

  abbrev CountedWords : Blocks → Type 0
  CountedWords w =
      ((i : ℕ) → i < s.readings → CountedFits s (get_or w.readings i fresh_reading))
      × ((i : ℕ) → i + 1 < s.readings → ((get_or w.readings i fresh_reading).position < (get_or w.readings (i + 1) fresh_reading).position) × ((get_or w.readings i fresh_reading).index ≤ (get_or w.readings (i + 1) fresh_reading).index))

  readings : (w : Blocks) → Says (readings_fit (axis_of_rec s) (readings_of w s.readings)) (CountedWords w)
  unfolding readings_fit readings_of
  readings w = both
      (say (all (reading_fits (axis_of_rec s)) (tab s.readings 0 held))
      (Iff.trans (of_all (reading_fits (axis_of_rec s)) of_reading (tab s.readings 0 held)) (Iff.trans (each_tab s.readings 0 held) (λ f i l. f i (omega arith) (omega arith), λ f i a l. f i (omega arith)))))
      (say (all rises (neighbours (tab s.readings 0 held)))
      (Iff.trans (of_all rises (λ p. (of_rises p).iff) (neighbours (tab s.readings 0 held))) (Iff.trans (each_pair s.readings 0 held) (λ f i l. f i (omega arith) (omega arith), λ f i a l. f i (omega arith)))))
    where
      held : ℕ → Reading
      held i = get_or w.readings i fresh_reading

      rises : Reading × Reading → Bool
      rises p = ltb p.0.position p.1.position && leb p.0.index p.1.index

      of_rises : (p : Reading × Reading) → Says (rises p) ((p.0.position < p.1.position) × (p.0.index ≤ p.1.index))
      of_rises p = both (below p.0.position p.1.position) (at_most p.0.index p.1.index)

of_contents : (s : Rec) (w : Blocks) → T (contents_fit s w) ↔ HeldFits s w
unfolding contents_fit
of_contents s w =
    Iff.trans (both (both (points s (s.site.al - 9) w.near) (points s (s.site.al - 14) w.far)) (both (both (slots s w.slots) (daily s w.daily)) (readings s w))).iff (
      λ q. record { near = q.0.0; far = q.0.1; slots = q.1.0.0; daily = q.1.0.1; counted = q.1.1.0; rising = λ i h. (q.1.1.1 i h).0; unfalling = λ i h. (q.1.1.1 i h).1 },
      λ h. ((h.near, h.far), ((h.slots, h.daily), (h.counted, λ i l. (h.rising i l, h.unfalling i l)))),
    )

pub range_words : RangeWords
range_words = record { sizes = of_sizes; fields = of_record; contents = of_contents }
