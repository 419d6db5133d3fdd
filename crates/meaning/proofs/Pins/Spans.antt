-- A record's years and dates are what the words of 1 say, and so are lists by year, by date and by half-hour.
use mathlib.Core.Path.{◌≡◌, refl, subst}
use mathlib.Core.Logic.Iff
use mathlib.Core.Logic.{◌↔◌, ◌⊎◌, inl, inr}
use mathlib.Core.Bool.{Bool, true, false, cond}
use mathlib.Core.List.{List, [], ◌∷◌}
use Prim.Native.Nat.{ℕ, suc, ◌+◌, ◌*◌, ◌/◌, ◌%◌, ◌≤◌, ◌<◌}
use native.Mathlib.Omega.{arith}
use lib.Dec.{T, eqb, ltb, leb}
use lib.ListN.{length, get_or}
use borrow.Author.Tests.{ltb-true, ltb-false}
use Rattle.lists.specs.Lists.{all_at}
use Rattle.lists.proofs.Reflect.{of_eq, of_le, of_not}
use Rattle.lists.proofs.Snoc.{all_at_at}
use Rattle.lists.proofs.Tests.{and_made}
use Rattle.calendar.specs.declared.Years.{Years}
use Rattle.calendar.specs.Dates.{leap}
use Rattle.calendar.specs.Places.{date_place, month_of, day_of, has_date, has_winter_date, date_of_winter}
use Rattle.calendar.specs.Spans.{among, axis_years}
use Rattle.calendar.proofs.Laws.Days.{leap_words, date_day, date_at_place, day_place, place_day}
use Rattle.calendar.proofs.Laws.Winter.{winter_day_place, winter_place_day}
use Rattle.calendar.proofs.Laws.Positions.{among_words}
use Rattle.meaning.specs.Filing.{no_site}
use Rattle.meaning.specs.Record.{Rec, is_taken, site_of_rec, history_of_site, history_of_rec, each_year}
use Rattle.meaning.specs.Restated.Dates.{Leap}
use Rattle.meaning.specs.Restated.Ranges.{Taken, FileYear, FileAxisYear, YearAt, SomeDate, DateAt, WinterDateAt, ByYear, UpTo}
use Rattle.meaning.proofs.Pins.Says.{Says, say}
use Rattle.meaning.proofs.Pins.Dates.{date_words}

-- ---- the file's years
pub of_taken : (s : Rec) → T (is_taken s) ↔ Taken s
unfolding is_taken
of_taken s = of_not (eqb s.last 0) (of_eq s.last 0)

pub of_file_year : (s : Rec) (y : ℕ) → T (among (history_of_rec s) y) ↔ FileYear s y
unfolding history_of_rec site_of_rec history_of_site no_site
of_file_year s y = go (is_taken s) (of_taken s)
  where
    go : (b : Bool) → T b ↔ Taken s → T (among (history_of_site (cond b s.site no_site)) y) ↔ FileYear s y
    go true r = let q = date_words.history s.site.al s.site.filiere y in (λ t. (r.0 tt, q.0 t), λ f. q.1 f.1)
    go false r = (λ t. absurd (omega (arith, ((date_words.history 0 0 y).0 t).0)), λ f. absurd (r.1 f.0))

pub of_axis_year : (s : Rec) (y : ℕ) → T (among (axis_years (history_of_rec s)) y) ↔ FileAxisYear s y
unfolding history_of_rec site_of_rec history_of_site no_site
of_axis_year s y = go (is_taken s) (of_taken s)
  where
    go : (b : Bool) → T b ↔ Taken s → T (among (axis_years (history_of_site (cond b s.site no_site))) y) ↔ FileAxisYear s y
    go true r = let q = date_words.axis s.site.al s.site.filiere y in (λ t. (r.0 tt, q.0 t), λ f. q.1 f.1)
    go false r = (
      λ t. elim ((date_words.axis 0 0 y).0 t) [ inl h ↦ absurd (omega (arith, h.0)) | inr k ↦ elim k [ inl h ↦ absurd (omega (arith, h.0)) | inr h ↦ absurd (omega (arith, h.2.0)) ] ],
      λ f. absurd (r.1 f.0),
    )

-- the year at a place of a span, counted from its first
pub of_year_at : {Is : ℕ → Type 0} (span : Years) → ((y : ℕ) → T (among span y) ↔ Is y) → (i y : ℕ) → YearAt Is i y ↔ ((i < span.count) × (y ≡ span.first + i))
of_year_at {Is} span f i y = (forth, back)
  where
    bounds : (z : ℕ) → Is z → (span.first ≤ z) × (z < span.first + span.count)
    bounds z h = (among_words span z).0 ((f z).1 h)

    is : (z : ℕ) → span.first ≤ z → z < span.first + span.count → Is z
    is z a b = (f z).0 ((among_words span z).1 (a, b))

    forth : YearAt Is i y → (i < span.count) × (y ≡ span.first + i)
    forth q =
        let a = bounds y q.0 in
        let o = bounds q.1.0 q.1.1 in
        let least : q.1.0 ≤ span.first = q.1.2 span.first (is span.first (omega arith) (omega arith)) in
        (omega (arith, q.1.3), omega (arith, q.1.3))

    back : (i < span.count) × (y ≡ span.first + i) → YearAt Is i y
    back q = (is y (omega (arith, q)) (omega (arith, q)), (span.first, is span.first (omega arith) (omega (arith, q)), λ z h. (bounds z h).0, q.1))

-- ---- dates
pub of_date_at : (y p : ℕ) → p < 366 → T (has_date y p) ↔ DateAt y p
unfolding has_date
of_date_at y p h = (
  λ t. (month_of p, day_of p, (date_words.date y (month_of p) (day_of p)).0 t, (place_day p h).back),
  λ s. let t = (date_words.date y s.0 s.1).1 s.2 in
      unfold has_date in (subst (λ (q : ℕ). T (has_date y q)) s.3 (rw (date_at_place y s.0 s.1 (date_day y s.0 s.1 t)) at t)),
)

pub of_winter_date_at : (y w : ℕ) → w < 152 → T (has_winter_date y w) ↔ WinterDateAt y w
unfolding has_winter_date has_date
of_winter_date_at y w h = (
  λ t. let q = winter_place_day w h in
      (month_of (date_of_winter w), day_of (date_of_winter w), (date_words.date y _ _).0 t, (date_words.winter _).0 q.is_winter_lem, q.back),
  λ s. let t = (date_words.date y s.0 s.1).1 s.2 in
      let day = date_day y s.0 s.1 t in
      let place = (winter_day_place s.0 s.1 day ((date_words.winter s.0).1 s.3)).date_place_lem in
      subst (λ (q : ℕ). T (has_date y (date_of_winter q))) s.4 (rw (place, ← (date_at_place y s.0 s.1 day)) t),
)

-- a number of 366 a year and a date place
pub of_some_date : {Is : ℕ → Type 0} (span : Years) → ((y : ℕ) → T (among span y) ↔ Is y) → (k : ℕ) → (T (among span (k / 366)) × T (has_date (k / 366) (k % 366))) ↔ SomeDate Is k
of_some_date {Is} span f k = (
  λ t. let q = (of_date_at (k / 366) (k % 366) (omega arith)).0 t.1 in
      (k / 366, q.0, q.1, (f (k / 366)).0 t.0, q.2, omega (arith, q.3)),
  λ s. let day = (day_place s.1 s.2 (date_day s.0 s.1 s.2 ((date_words.date s.0 s.1 s.2).1 s.4))).below in
      let year : k / 366 ≡ s.0 = omega (arith, s.5, day) in
      let place : k % 366 ≡ date_place s.1 s.2 = omega (arith, s.5, day) in
      (rw year ((f s.0).1 s.3), rw (year, place) ((of_date_at s.0 (date_place s.1 s.2) day).1 (s.1, s.2, s.4, refl))),
)

-- ---- lists
pub of_each_at : {A : Type 0} (p : ℕ → A → Bool) (xs : List A) (d : A) → T (all_at p 0 xs) ↔ ((i : ℕ) → i < length xs → T (p i (get_or xs i d)))
unfolding all_at
of_each_at {A} p xs d = (λ t i h. rw (none i) at (all_at_at p 0 xs t i d h), λ f. made 0 xs (λ k h. rw (none k) (f k h)))
  where
    none : (n : ℕ) → 0 + n ≡ n
    none n = omega arith

    made : (i : ℕ) (xs : List A) → ((k : ℕ) → k < length xs → T (p (i + k) (get_or xs k d))) → T (all_at p i xs)
    made i [] f = tt
    made i (x ∷ xs) f = and_made (p i x) (all_at p (suc i) xs) (rw (here i) at (f 0 (omega arith))) (made (suc i) xs (λ k h. rw (next i k) at (f (suc k) (omega arith))))
      where
        here : (n : ℕ) → n + 0 ≡ n
        here n = omega arith

        next : (n m : ℕ) → n + suc m ≡ suc n + m
        next n m = omega arith

-- by year
pub by_year_lem : {Is : ℕ → Type 0} {Fits : ℕ → ℕ → Type 0} (span : Years) → ((y : ℕ) → T (among span y) ↔ Is y) → (fits : ℕ → ℕ → Bool) → ((y n : ℕ) → T (fits y n) ↔ Fits y n)
    → (ns : List ℕ) → Says (each_year span fits ns) (ByYear Is Fits ns)
unfolding each_year
by_year_lem {Is} {Fits} span f fits g ns =
    say (each_year span fits ns)
    (Iff.trans (of_each_at (λ k n. cond (ltb k span.count) (fits (span.first + k) n) (eqb n 0)) ns 0) (λ h i l. (one i (get_or ns i 0)).0 (h i l), λ h i l. (one i (get_or ns i 0)).1 (h i l)))
  where
    one : (i n : ℕ) → T (cond (ltb i span.count) (fits (span.first + i) n) (eqb n 0)) ↔ (((y : ℕ) × YearAt Is i y × Fits y n) ⊎ ((¬ ((y : ℕ) × YearAt Is i y)) × (n ≡ 0)))
    one i n = go (ltb i span.count) refl
      where
        go : (b : Bool) → ltb i span.count ≡ b → T (cond b (fits (span.first + i) n) (eqb n 0)) ↔ (((y : ℕ) × YearAt Is i y × Fits y n) ⊎ ((¬ ((y : ℕ) × YearAt Is i y)) × (n ≡ 0)))
        go true e = (
          λ t. inl (span.first + i, at, (g (span.first + i) n).0 t),
          λ s. elim s [ inl q ↦ (g (span.first + i) n).1 (subst (λ (z : ℕ). Fits z n) ((of_year_at span f i q.0).0 q.1).1 q.2) | inr q ↦ absurd (q.0 (span.first + i, at)) ],
        )
          where
            at : YearAt Is i (span.first + i)
            at = (of_year_at span f i (span.first + i)).1 (ltb-true i span.count e, refl)
        go false e = (
          λ t. inr (λ q. none q.0 q.1, (of_eq n 0).0 t),
          λ s. elim s [ inl q ↦ absurd (none q.0 q.1) | inr q ↦ (of_eq n 0).1 q.1 ],
        )
          where
            none : (y : ℕ) → YearAt Is i y → ⊥
            none y q = omega (arith, ((of_year_at span f i y).0 q).0, ltb-false i span.count e)

pub of_up_to : (a b y n : ℕ) → T (leb n (cond (leap y) a b)) ↔ UpTo a b y n
of_up_to a b y n = go (leap y) (leap_words y)
  where
    go : (l : Bool) → T l ↔ Leap y → T (leb n (cond l a b)) ↔ UpTo a b y n
    go true r = Iff.trans (of_le n a) (λ h. inl (r.0 tt, h), λ s. elim s [ inl q ↦ q.1 | inr q ↦ absurd (q.0 (r.0 tt)) ])
    go false r = Iff.trans (of_le n b) (λ h. inr (λ l. r.1 l, h), λ s. elim s [ inl q ↦ absurd (r.1 q.0) | inr q ↦ q.1 ])

-- by date and half-hour: row, winter place, and the value there
pub of_rows : (Q : ℕ → ℕ → ℕ → Type 0) (b : List ℕ) (d : ℕ) → ((i : ℕ) → i < length b → Q (i / 3040) (i % 3040 / 20) (get_or b i d))
    ↔ ((k w h : ℕ) → w < 152 → h < 20 → 3040 * k + (20 * w + h) < length b → Q k w (get_or b (3040 * k + (20 * w + h)) d))
of_rows Q b d = (forth, back)
  where
    forth : ((i : ℕ) → i < length b → Q (i / 3040) (i % 3040 / 20) (get_or b i d)) → (k w h : ℕ) → w < 152 → h < 20 → 3040 * k + (20 * w + h) < length b → Q k w (get_or b (3040 * k + (20 * w + h)) d)
    forth f k w h a c l =
        let row : (3040 * k + (20 * w + h)) / 3040 ≡ k = omega arith in
        let place : (3040 * k + (20 * w + h)) % 3040 / 20 ≡ w = omega arith in
        rw (row, place) at (f (3040 * k + (20 * w + h)) l)

    back : ((k w h : ℕ) → w < 152 → h < 20 → 3040 * k + (20 * w + h) < length b → Q k w (get_or b (3040 * k + (20 * w + h)) d)) → (i : ℕ) → i < length b → Q (i / 3040) (i % 3040 / 20) (get_or b i d)
    back g i l =
        let whole : 3040 * (i / 3040) + (20 * (i % 3040 / 20) + i % 3040 % 20) ≡ i = omega arith in
        subst (λ (j : ℕ). Q (i / 3040) (i % 3040 / 20) (get_or b j d)) whole (g (i / 3040) (i % 3040 / 20) (i % 3040 % 20) (omega arith) (omega arith) (omega arith))

-- by date: row, date place, and the value there
pub of_days : (Q : ℕ → ℕ → ℕ → Type 0) (b : List ℕ) (d : ℕ) → ((i : ℕ) → i < length b → Q (i / 366) (i % 366) (get_or b i d))
    ↔ ((k p : ℕ) → p < 366 → 366 * k + p < length b → Q k p (get_or b (366 * k + p) d))
of_days Q b d = (forth, back)
  where
    forth : ((i : ℕ) → i < length b → Q (i / 366) (i % 366) (get_or b i d)) → (k p : ℕ) → p < 366 → 366 * k + p < length b → Q k p (get_or b (366 * k + p) d)
    forth f k p a l =
        let row : (366 * k + p) / 366 ≡ k = omega arith in
        let place : (366 * k + p) % 366 ≡ p = omega arith in
        rw (row, place) at (f (366 * k + p) l)

    back : ((k p : ℕ) → p < 366 → 366 * k + p < length b → Q k p (get_or b (366 * k + p) d)) → (i : ℕ) → i < length b → Q (i / 366) (i % 366) (get_or b i d)
    back g i l =
        let whole : 366 * (i / 366) + i % 366 ≡ i = omega arith in
        subst (λ (j : ℕ). Q (i / 366) (i % 366) (get_or b j d)) whole (g (i / 366) (i % 366) (omega arith) (omega arith))
