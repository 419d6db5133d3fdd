-- The years of a history one after the other: their places, the points present by year, and the curve's 440 entries a year.
use mathlib.Core.Path.{◌≡◌, refl, ap, sym, ◌∙◌}
use mathlib.Core.Bool.{Bool, true, false, cond}
use mathlib.Core.List.{List, [], ◌∷◌, map}
use Prim.Native.Nat.{ℕ, ◌+◌, ◌-◌, ◌*◌, ◌/◌, ◌%◌, ◌≤◌, ◌<◌}
use native.Mathlib.Omega.{arith}
use lib.Dec.{eqb, ltb}
use lib.ListN.{length, get_or, set, replicate, length-append, length-map, length-replicate, get_or-replicate, get_or-eq_default}
use lib.Seq.{sets, length-sets, ext_get_or}
use borrow.Author.Tests.{lt-ltb, le-ltb, ltb-true, ltb-false, eqb-true, eqb-false}
use Rattle.lists.specs.Lists.{tab, flat}
use Rattle.lists.proofs.Laws.{length_tab, get_d_tab0}
use Rattle.lists.proofs.Tables.{get_d_sets_same, get_d_sets_other}
use Rattle.lists.proofs.FilledTables.{tab_on, tab_end, set_tab}
use Rattle.note.specs.Peaks.{peak_days}
use Rattle.note.proofs.PeakDays.{days_length, most_days}
use Rattle.meaning.specs.Cases.{Case}
use Rattle.meaning.specs.Points.{CurvePlace}
use Rattle.meaning.specs.Level.{missing_entry}
use Rattle.points.specs.declared.own.SiteFactors.{SiteFactors}
use Rattle.curve.specs.declared.place_sums.PlaceSum.{PlaceSum}
use Rattle.curve.specs.PlaceSums.{place_sum_of, entry_in, entries_of, nothing, plus}
use Rattle.curve.specs.YearPlaces.{FileData, day_in, places_on, places_in}
use Rattle.curve.specs.PlaceSumFits.{PlaceSumFits}
use Rattle.curve.specs.PlaceFits.{Entered}
use Rattle.curve.proofs.PlaceSums.{nothing_plus, plus_nothing, tally_on, plus_fits, nothing_fits}
use Rattle.curve.proofs.Walking.{hours_length}

-- ---- the number of places of a year
flat_length : {A : Type 0} (f : ℕ → List A) (n : ℕ) → ((w : ℕ) → length (f w) ≡ n) → (ws : List ℕ) → length (flat (map f ws)) ≡ n * length ws
unfolding flat
flat_length f n h [] = omega arith
flat_length f n h (w ∷ ws) = omega (arith, length-append (f w) (flat (map f ws)), h w, flat_length f n h ws)

pub year_length : (b : SiteFactors) (l : FileData) (x : Case) (rate k : ℕ) → length (places_in b l x rate k) ≤ 440
unfolding places_in
year_length b l x rate k =
    let y = b.first + k in
    omega (arith, flat_length (λ w. places_on b (day_in b.first l w) x rate k w) 20 (λ w. hours_length b (day_in b.first l w) x rate k w) (peak_days y), days_length y, most_days y)

-- ---- after the first k years, with the places of each from qs
abbrev present_at : (ℕ → List CurvePlace) → ℕ → ℕ → ℕ
present_at qs k j = cond (ltb j k) (place_sum_of (qs j)).counted 0

abbrev entry_year : (ℕ → List CurvePlace) → ℕ → ℕ → ℕ → ℕ
entry_year qs k y r = cond (ltb y k) (get_or (map entry_in (qs y)) r missing_entry) missing_entry

abbrev entry_at : (ℕ → List CurvePlace) → ℕ → ℕ → ℕ
entry_at qs k i = entry_year qs k (i / 440) (i % 440)

other_below : (j k : ℕ) → (j ≡ k → ⊥) → ltb j k ≡ ltb j (k + 1)
other_below j k d = go (ltb j k) refl
  where
    go : (b : Bool) → ltb j k ≡ b → ltb j k ≡ ltb j (k + 1)
    go true q = q ∙ sym (lt-ltb j (k + 1) (omega (arith, ltb-true j k q)))
    go false q = q ∙ sym (le-ltb j (k + 1) (omega (arith, ltb-false j k q, d)))

-- ---- points present by year
present_on : (qs : ℕ → List CurvePlace) (k v : ℕ) → k < 10 → v ≡ (place_sum_of (qs k)).counted → set (tab 10 0 (present_at qs k)) k v ≡ tab 10 0 (present_at qs (k + 1))
present_on qs k v h e =
    set_tab 10 (present_at qs k) (present_at qs (k + 1)) k v 0 h (rw (lt-ltb k (k + 1) (omega arith)) e)
    (λ j d. ap (λ (b : Bool). cond b (place_sum_of (qs j)).counted 0) (other_below j k d))

-- ---- the curve
fresh_curve : (qs : ℕ → List CurvePlace) → replicate 4400 missing_entry ≡ tab 4400 0 (entry_at qs 0)
fresh_curve qs =
    ext_get_or missing_entry (replicate 4400 missing_entry) (tab 4400 0 (entry_at qs 0))
    (length-replicate 4400 missing_entry ∙ sym (length_tab 4400 0 (entry_at qs 0)))
    (λ i h. let j : i < 4400 = omega (arith, h, length-replicate 4400 missing_entry) in
    get_or-replicate 4400 i missing_entry missing_entry j ∙ none i ∙ sym (get_d_tab0 4400 (entry_at qs 0) i missing_entry j))
  where
    none : (i : ℕ) → missing_entry ≡ entry_at qs 0 i
    none i = rw (le-ltb (i / 440) 0 (omega arith))

this_year : (qs : ℕ → List CurvePlace) (k y r : ℕ) → y ≡ k → entry_year qs (k + 1) y r ≡ get_or (map entry_in (qs k)) r missing_entry
this_year qs k y r e = ap (λ (z : ℕ). entry_year qs (k + 1) z r) e ∙ now
  where
    now : entry_year qs (k + 1) k r ≡ get_or (map entry_in (qs k)) r missing_entry
    now = rw (lt-ltb k (k + 1) (omega arith))

not_yet : (qs : ℕ → List CurvePlace) (k y r : ℕ) → k ≤ y → entry_year qs k y r ≡ missing_entry
not_yet qs k y r h = rw (le-ltb y k h)

module _ (qs : ℕ → List CurvePlace) (k : ℕ) (small : k < 10) (short : length (qs k) ≤ 440) where
  abbrev es : List ℕ
  es = map entry_in (qs k)

  abbrev old : List ℕ
  old = tab 4400 0 (entry_at qs k)

  es_length : length es ≡ length (qs k)
  es_length = length-map (qs k) entry_in

  old_length : length old ≡ 4400
  old_length = length_tab 4400 0 (entry_at qs k)

  inside : (i r : ℕ) → i < 4400 → i ≡ 440 * k + r → r < 440 → k ≤ i / 440 → get_or (sets old (440 * k) es) i missing_entry ≡ get_or es r missing_entry
  inside i r h e g y = go (ltb r (length es)) refl
    where
      go : (b : Bool) → ltb r (length es) ≡ b → get_or (sets old (440 * k) es) i missing_entry ≡ get_or es r missing_entry
      go true q =
          ap (λ (m : ℕ). get_or (sets old (440 * k) es) m missing_entry) e
          ∙ get_d_sets_same old (440 * k) es r missing_entry (ltb-true r (length es) q) (omega (arith, es_length, old_length, small, short))
      go false q =
          get_d_sets_other old (440 * k) es i missing_entry (λ m j p. omega (arith, ltb-false r (length es) q, j, p, e))
          ∙ get_d_tab0 4400 (entry_at qs k) i missing_entry h
          ∙ not_yet qs k (i / 440) (i % 440) y
          ∙ sym (get_or-eq_default es missing_entry {n = r} (ltb-false r (length es) q))

  outside : (i : ℕ) → i < 4400 → (i / 440 ≡ k → ⊥) → get_or (sets old (440 * k) es) i missing_entry ≡ entry_at qs (k + 1) i
  outside i h d =
      get_d_sets_other old (440 * k) es i missing_entry (λ m j p. d (omega (arith, j, p, es_length, short)))
      ∙ get_d_tab0 4400 (entry_at qs k) i missing_entry h
      ∙ ap (λ (b : Bool). cond b (get_or (map entry_in (qs (i / 440))) (i % 440) missing_entry) missing_entry) (other_below (i / 440) k d)

  curve_step : sets old (440 * k) es ≡ tab 4400 0 (entry_at qs (k + 1))
  curve_step =
      ext_get_or missing_entry (sets old (440 * k) es) (tab 4400 0 (entry_at qs (k + 1))) (length-sets old (440 * k) es ∙ old_length ∙ sym (length_tab 4400 0 (entry_at qs (k + 1))))
      (λ i h. let j : i < 4400 = omega (arith, h, length-sets old (440 * k) es, old_length) in at i j (eqb (i / 440) k) refl ∙ sym (get_d_tab0 4400 (entry_at qs (k + 1)) i missing_entry j))
    where
      at : (i : ℕ) → i < 4400 → (b : Bool) → eqb (i / 440) k ≡ b → get_or (sets old (440 * k) es) i missing_entry ≡ entry_at qs (k + 1) i
      at i h true q =
          let e = eqb-true (i / 440) k q in
          inside i (i % 440) h (omega (arith, e)) (omega arith) (omega (arith, e)) ∙ sym (this_year qs k (i / 440) (i % 440) e)
      at i h false q = outside i h (eqb-false (i / 440) k q)

-- ---- the curve and its totals, year by year
pub record YearsWalked (n : ℕ) (qs : ℕ → List CurvePlace) (k : ℕ) (t : PlaceSum) (present curve : List ℕ) : Type 0 where
  pub fits : PlaceSumFits (440 * k) t
  pub sums : plus t (place_sum_of (flat (tab (n - k) k qs))) ≡ place_sum_of (flat (tab n 0 qs))
  pub present_is : present ≡ tab 10 0 (λ j. cond (ltb j k) (place_sum_of (qs j)).counted 0)
  pub curve_is : curve ≡ tab 4400 0 (λ i. cond (ltb (i / 440) k) (get_or (map entry_in (qs (i / 440))) (i % 440) missing_entry) missing_entry)

pub no_years_lem : (n : ℕ) (qs : ℕ → List CurvePlace) (present curve : List ℕ) → present ≡ replicate 10 0 → curve ≡ replicate 4400 missing_entry → YearsWalked n qs 0 nothing present curve
unfolding tab
no_years_lem n qs present curve p c =
    let e : n - 0 ≡ n = omega arith in
    record {
      fits = nothing_fits;
      sums = nothing_plus (place_sum_of (flat (tab (n - 0) 0 qs))) ∙ ap (λ (m : ℕ). place_sum_of (flat (tab m 0 qs))) e;
      present_is = p;
      curve_is = c ∙ fresh_curve qs;
    }

pub years_on_lem : (n : ℕ) (qs : ℕ → List CurvePlace) (k : ℕ) (t d : PlaceSum) (present curve later : List ℕ) → k < n → n ≤ 10 → length (qs k) ≤ 440 → YearsWalked n qs k t present curve
    → Entered 440 (440 * k) (qs k) curve later d → YearsWalked n qs (k + 1) (plus t d) (set present k d.counted) later
unfolding entries_of flat
years_on_lem n qs k t d present curve later h g s w e =
    record {
      fits = (let f = plus_fits (440 * k) 440 t d w.fits e.fits in record { sum = f.sum; counted = omega (arith, f.counted) });
      sums =
          ap (λ (x : PlaceSum). plus (plus t x) (place_sum_of (flat (tab (n - (k + 1)) (k + 1) qs)))) e.tally
          ∙ tally_on t (qs k) (flat (tab (n - (k + 1)) (k + 1) qs)) (sym (ap (λ (l : List (List CurvePlace)). plus t (place_sum_of (flat l))) (tab_on qs k n h)) ∙ w.sums);
      present_is = ap (λ (l : List ℕ). set l k d.counted) w.present_is ∙ present_on qs k d.counted (omega (arith, h, g)) (ap (λ (x : PlaceSum). x.counted) e.tally);
      curve_is = e.curve ∙ ap (λ (l : List ℕ). sets l (440 * k) (map entry_in (qs k))) w.curve_is ∙ curve_step qs k (omega (arith, h, g)) s;
    }

pub years_over : (n : ℕ) (qs : ℕ → List CurvePlace) (k : ℕ) (t : PlaceSum) (present curve : List ℕ) → n ≤ k → YearsWalked n qs k t present curve → t ≡ place_sum_of (flat (tab n 0 qs))
unfolding flat
years_over n qs k t present curve h w =
    sym (plus_nothing t) ∙ sym (ap (λ (l : List (List CurvePlace)). plus t (place_sum_of (flat l))) (tab_end qs k n h)) ∙ w.sums
