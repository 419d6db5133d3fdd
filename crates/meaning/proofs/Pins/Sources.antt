-- Where the points come from, and that none has the value that stands for missing.
use mathlib.Core.Path.{◌≡◌, refl, ap, sym, subst, ◌∙◌}
use mathlib.Core.Logic.Iff
use mathlib.Core.Logic.{◌≢◌, ◌↔◌, ◌⊎◌, inl, inr}
use mathlib.Core.Bool.{Bool, true, false, ◌&&◌, cond}
use mathlib.Core.List.{List, [], ◌∷◌, map}
use mathlib.Core.Option.{Option, some, none}
use Prim.Native.Nat.{ℕ, ◌+◌, ◌-◌, ◌*◌, ◌≤◌, ◌<◌}
use native.Mathlib.Omega.{arith}
use lib.Dec.{T, leb, ltb}
use borrow.Author.Tests.{leb-true, leb-false, ne_eqb}
use Rattle.lists.specs.Lists.{first_of, tab, sum, Each, Some}
use Rattle.lists.specs.Restated.{Adjacent, First}
use Rattle.lists.proofs.Laws.{paired}
use Rattle.lists.proofs.Reflect.{of_and, of_le, of_lt}
use Rattle.lists.proofs.RestatedLists.{of_none, of_first_of, of_order_none, first_with, map_some, some_present}
use Rattle.lists.proofs.Blocks.{tab_shift, map_range}
use Rattle.calendar.specs.Places.{has_winter_date}
use Rattle.calendar.specs.Spans.{history_length, is_known, history_years}
use Rattle.calendar.proofs.Laws.Positions.{among_words, known_history, has_history}
use Rattle.note.specs.Peaks.{peak_days}
use Rattle.note.specs.Coefficients.{theta}
use Rattle.rounding.specs.Rounding.{half_up}
use Rattle.rounding.specs.Points.{Fraction, rounded, profiled, rebuilt, by_default, rated}
use Rattle.rounding.proofs.Laws.{half_up_above, half_up_below, half_up_only}
use Rattle.rounding.proofs.Formulas.{rated_most}
use Rattle.meaning.specs.Filing.{Filing, Reading, history_of, years_in, history_list}
use Rattle.meaning.specs.Validity.{Interval, intervals, has_day, energy_of, total_of, curve_valid, index_valid}
use Rattle.meaning.specs.Cases.{Case, case_m, case1, case2, case3, case4, case_p, case5, case6, case_of}
use Rattle.meaning.specs.Points.{Origin, as_read, by_profile, fraction_of, Donor, Source, missing, own, from_donors, from_default, position_at, interval_at, profiled_in, profiled_at, read_by, read_at, donor_of, curve_donor, index_donor, curve_donors, index_donors, own_of, rebuilt_by, history_cas, default_at, source_by, source_at, rounded_origin, donor_cas, donor_points, rounded_point, applied_rate, with_rate, place_of, all_places, rated_by, point_at}
use Rattle.meaning.specs.Level.{missing_entry}
use Rattle.meaning.specs.Closing.{too_high, closing_refusal}
use Rattle.meaning.specs.Restated.Years.{Between, CurveValid, IndexValid, OfHistory, SomeYear}
use Rattle.meaning.specs.Restated.Close.{HighOrigin, High, CloseWords}
use Rattle.meaning.specs.Restated.Points.{Nearest, RoundWords, ByDefault, SourceWords}
use Rattle.meaning.proofs.Pins.Dates.{date_words}
use Rattle.meaning.proofs.Pins.Years.{valid_words, some_intervals}
use Rattle.meaning.proofs.Pins.Cases.{some_history}
use Rattle.meaning.proofs.Pins.Close.{some_places, closing_words}

-- ---- rounding
nearest_is : (q : Fraction) (n : ℕ) → 0 < q.den → (rounded q ≡ n) ↔ Nearest q n
unfolding rounded
nearest_is q n p = (
  λ e. subst (Nearest q) e (omega (arith, half_up_above q.num q.den p), omega (arith, half_up_below q.num q.den p)),
  λ h. half_up_only q.num q.den n (omega (arith, h.0)) (omega (arith, h.1)),
)

pub round_words : RoundWords
unfolding rounded half_up
round_words = record { nearest = nearest_is; half = refl; less = refl }

-- ---- sizes
-- a number that is not more is at most
at_most : (m n : ℕ) → (¬ (m < n)) → n ≤ m
at_most m n h = go (leb n m) refl
  where
    go : (b : Bool) → leb n m ≡ b → n ≤ m
    go true e = leb-true n m e
    go false e = absurd (h (leb-false n m e))

read_whole : (v : ℕ) → rounded_origin (as_read v) ≡ 1000 * v
unfolding rounded_origin fraction_of rounded half_up
read_whole v = omega arith

origin_most : (o : Origin) → (¬ HighOrigin o) → ((v : ℕ) → o ≡ as_read v → v ≤ 100000000) → rounded_origin o ≤ 200000000000
origin_most (as_read v) n r = omega (arith, read_whole v, r v refl)
origin_most (by_profile e p t) n r = unfold rounded_origin fraction_of in (at_most 200000000000 (rounded (profiled e p t)) n)

-- a point that is not high is at most 200,000,000,000 mW
meant_most : (s : Source) → (¬ High s) → ((v : ℕ) → s ≡ own (as_read v) → v ≤ 100000000) → (p : ℕ) → rounded_point s ≡ some p → p ≤ 200000000000
unfolding rounded_point
meant_most missing n r p e = let z : ◌≡◌ {A = ℕ} 0 1 = cc in absurd (omega arith)
meant_most (own o) n r p e = let z : rounded_origin o ≡ p = cc in omega (arith, origin_most o n (λ v q. r v (ap own q)))
meant_most (from_donors ca ds) n r p e = let z : rounded (rebuilt ca (donor_points ds) (donor_cas ds)) ≡ p = cc in omega (arith, at_most 200000000000 (rounded (rebuilt ca (donor_points ds) (donor_cas ds))) (λ h. n (inr h)))
meant_most (from_default ps th q ca m cas) n r p e = let z : rounded (by_default ps th q ca m cas) ≡ p = cc in omega (arith, at_most 200000000000 (rounded (by_default ps th q ca m cas)) n)

-- only a measured year's source is a point as read
read_own : (o : Option ℕ) (v : ℕ) → own_of (read_by o) ≡ own (as_read v) → o ≡ some v
unfolding own_of read_by
read_own none v e = let z : ◌≡◌ {A = ℕ} 0 1 = cc in absurd (omega arith)
read_own (some u) v e = let z : u ≡ v = cc in ap some z

profiled_not_read : (F : Filing) (o : Option Interval) (p v : ℕ) → own (profiled_in F o p) ≡ own (as_read v) → ⊥
unfolding profiled_in
profiled_not_read F none p v e = let z : ◌≡◌ {A = ℕ} 0 1 = cc in omega arith
profiled_not_read F (some u) p v e = let z : ◌≡◌ {A = ℕ} 0 1 = cc in omega arith

rebuilt_not_read : (ca : ℕ) (ds : List Donor) (v : ℕ) → rebuilt_by ca ds ≡ own (as_read v) → ⊥
unfolding rebuilt_by
rebuilt_not_read ca [] v e = let z : ◌≡◌ {A = ℕ} 0 1 = cc in omega arith
rebuilt_not_read ca (d ∷ ds) v e = let z : ◌≡◌ {A = ℕ} 0 1 = cc in omega arith

default_not_read : (F : Filing) (y w h v : ℕ) → default_at F y w h ≡ own (as_read v) → ⊥
unfolding default_at
default_not_read F y w h v e = let z : ◌≡◌ {A = ℕ} 0 1 = cc in omega arith

read_source : (c : Case) (F : Filing) (y w h v : ℕ) → source_by c F y w h ≡ own (as_read v) → F.point y w h ≡ some v
unfolding source_by read_at profiled_at
read_source case_m F y w h v e = read_own (F.point y w h) v e
read_source case1 F y w h v e = absurd (profiled_not_read F (interval_at F y w) (F.profile y w h) v e)
read_source case2 F y w h v e = absurd (rebuilt_not_read (F.ca y) (curve_donors F w h) v e)
read_source case3 F y w h v e = absurd (rebuilt_not_read (F.ca y) (index_donors F w h) v e)
read_source case4 F y w h v e = absurd (default_not_read F y w h v e)
read_source case_p F y w h v e = absurd (profiled_not_read F (interval_at F y w) (F.profile y w h) v e)
read_source case5 F y w h v e = absurd (rebuilt_not_read (F.ca y) (index_donors F w h) v e)
read_source case6 F y w h v e = absurd (default_not_read F y w h v e)

-- after the rate it is still below the value that stands for missing
rated_apart : (r : Option ℕ) → ((n : ℕ) → r ≡ some n → 10 ≤ n) → (o : Option ℕ) → ((p : ℕ) → o ≡ some p → p ≤ 200000000000) → rated_by r o ≢ some missing_entry
unfolding rated_by with_rate
rated_apart r k none m e = let z : ◌≡◌ {A = ℕ} 0 1 = cc in omega arith
rated_apart none k (some p) m e = let z : p ≡ missing_entry = cc in omega (arith, m p refl)
rated_apart (some n) k (some p) m e = let z : rounded (rated p n) ≡ missing_entry = cc in omega (arith, rated_most p n (m p refl) (k n refl))

place_apart : (F : Filing) (y w h : ℕ) → ((n : ℕ) → F.rate y ≡ some n → 10 ≤ n) → ((p : ℕ) → rounded_point (source_at F y w h) ≡ some p → p ≤ 200000000000) → point_at (place_of F y w h) ≢ some missing_entry
unfolding point_at place_of applied_rate
place_apart F y w h r m = rated_apart (F.rate y) r (rounded_point (source_at F y w h)) m

pub points_apart : (F : Filing) → closing_refusal F ≡ none → ((y w h v : ℕ) → F.point y w h ≡ some v → v ≤ 100000000)
    → ((y r : ℕ) → F.rate y ≡ some r → 10 ≤ r) → Each (λ q. point_at q ≢ some missing_entry) (all_places F)
points_apart F e points rates = (of_none {P = λ q. point_at q ≡ some missing_entry} (all_places F)).0 (λ s. refute ((some_places {Q = λ q. point_at q ≡ some missing_entry} F).0 s))
  where
    not_high : (y : ℕ) → OfHistory F y → ¬ Some (λ w. (h : ℕ) × (h < 20) × High (source_at F y w h)) (peak_days y)
    not_high y a s = (closing_words.reported F).0 e too_high (unfold CloseWords in (y, a, s))

    at : (y w h : ℕ) → (¬ High (source_at F y w h)) → point_at (place_of F y w h) ≢ some missing_entry
    at y w h n = place_apart F y w h (rates y) (meant_most (source_at F y w h) n (λ v q. points y w h v (unfold source_at in (read_source (case_of F y) F y w h v q))))

    refute : SomeYear F (λ y. Some (λ w. (h : ℕ) × (h < 20) × (point_at (place_of F y w h) ≡ some missing_entry)) (peak_days y)) → ⊥
    refute s = let q = paired s.2 ((of_none (peak_days s.0)).0 (not_high s.0 s.1)) in at s.0 q.0 q.1.0 (λ g. q.2 (q.1.0, q.1.1, g)) q.1.2

-- ---- measured years
measured_point : (F : Filing) (y w h v : ℕ) → case_of F y ≡ case_m → F.point y w h ≡ some v → point_at (place_of F y w h) ≡ some (with_rate (F.rate y) (1000 * v))
unfolding point_at place_of applied_rate source_at source_by read_at read_by own_of rounded_point rated_by
measured_point F y w h v c e = rw (c, e) (ap (λ (p : ℕ). some (with_rate (F.rate y) p)) (read_whole v))

missing_point_lem : (F : Filing) (y w h : ℕ) → case_of F y ≡ case_m → F.point y w h ≡ none → point_at (place_of F y w h) ≡ none
unfolding point_at place_of applied_rate source_at source_by read_at read_by own_of rounded_point rated_by
missing_point_lem F y w h c e = rw (c, e)

-- ---- one donor
one_donor : (d : Donor) → 0 < d.ca → rounded_point (from_donors d.ca (d ∷ [])) ≡ some (rounded_origin d.origin)
unfolding rounded_point donor_points donor_cas sum rounded rebuilt
one_donor d a =
    ap some (half_up_only (d.ca * (rounded_origin d.origin + 0)) (d.ca + 0) (rounded_origin d.origin) (omega arith) (omega arith))

-- ---- the interval around a day
profiled_point : (F : Filing) (y w h : ℕ) (a b : Reading) → Adjacent a b F.readings → Between a b (position_at F y w)
    → ((c d : Reading) → Adjacent c d F.readings → Between c d (position_at F y w) → (c ≡ a) × (d ≡ b))
    → profiled_at F y w h ≡ by_profile (energy_of (record { from = a; to = b })) (F.profile y w h) (total_of F (record { from = a; to = b }))
unfolding profiled_at interval_at profiled_in
profiled_point F y w h a b n i only = rw found
  where
    test : (u : Interval) → T (has_day u (position_at F y w)) ↔ Between u.from u.to (position_at F y w)
    test u = unfold has_day in (of_and (leb u.from.position (position_at F y w)) (ltb (position_at F y w) u.to.position) (of_le u.from.position (position_at F y w)) (of_lt (position_at F y w) u.to.position))

    same : {u : Interval} (c d : Reading) → (c ≡ a) × (d ≡ b) → record { from = c; to = d } ≡ u → u ≡ record { from = a; to = b }
    same c d p e = sym e ∙ (λ i. record { from = p.0 i; to = p.1 i })

    is : (u : Interval) → First (λ (x : Interval). Between x.from x.to (position_at F y w)) u (intervals F) → u ≡ record { from = a; to = b }
    is u f = let q = (some_intervals F).0 (first_with {Q = λ x. x ≡ u} f refl) in same q.0 q.1 (only q.0 q.1 q.2 q.3.0) q.3.1

    found : first_of (λ v. has_day v (position_at F y w)) (intervals F) ≡ some (record { from = a; to = b })
    found = go (first_of (λ v. has_day v (position_at F y w)) (intervals F)) refl
      where
        go : (o : Option Interval) → first_of (λ v. has_day v (position_at F y w)) (intervals F) ≡ o → first_of (λ v. has_day v (position_at F y w)) (intervals F) ≡ some (record { from = a; to = b })
        go none e = absurd ((of_none (intervals F)).1 ((of_order_none (λ v. has_day v (position_at F y w)) test (intervals F)).0 e) ((some_intervals F).1 (a, b, n, i)))
        go (some u) e = e ∙ ap some (is u ((of_first_of (λ v. has_day v (position_at F y w)) test u (intervals F)).0 e))

-- ---- donors
curve_donor_lem : {Q : Donor → Type 0} (F : Filing) (w h z : ℕ)
    → ((d : Donor) × (curve_donor F w h z ≡ some d) × Q d) ↔ (CurveValid F z × ((v : ℕ) × (F.point z w h ≡ some v) × Q (record { ca = F.ca z; origin = as_read v })))
unfolding curve_donor read_at donor_of read_by
curve_donor_lem {Q} F w h z = go (curve_valid F z) (valid_words.curve F z) (F.point z w h)
  where
    go : (b : Bool) → T b ↔ CurveValid F z → (o : Option ℕ)
        → ((d : Donor) × (cond b (donor_of F z (read_by o)) none ≡ some d) × Q d) ↔ (CurveValid F z × ((v : ℕ) × (o ≡ some v) × Q (record { ca = F.ca z; origin = as_read v })))
    go false r o = (λ s. bare s.1, λ s. absurd (r.1 s.0))
      where
        bare : {A : Type 0} {d : Donor} → none ≡ some d → A
        bare e = let z : ◌≡◌ {A = ℕ} 0 1 = cc in absurd (omega arith)
    go true r none = (λ s. bare s.1, λ s. bare s.1.1)
      where
        bare : {A B : Type 0} {d : B} → none ≡ some d → A
        bare e = let z : ◌≡◌ {A = ℕ} 0 1 = cc in absurd (omega arith)
    go true r (some v) = (λ s. (r.0 tt, (v, refl, donor s.0 s.1 s.2)), λ s. (record { ca = F.ca z; origin = as_read v }, refl, value s.1.0 s.1.1 s.1.2))
      where
        donor : (d : Donor) → some (record { ca = F.ca z; origin = as_read v }) ≡ some d → Q d → Q (record { ca = F.ca z; origin = as_read v })
        donor d e q = let k : record { ca = F.ca z; origin = as_read v } ≡ d = cc in rw k q

        value : (u : ℕ) → some v ≡ some u → Q (record { ca = F.ca z; origin = as_read u }) → Q (record { ca = F.ca z; origin = as_read v })
        value u e q = let k : v ≡ u = cc in rw k q

index_donor_lem : {Q : Donor → Type 0} (F : Filing) (w h z : ℕ)
    → ((d : Donor) × (index_donor F w h z ≡ some d) × Q d) ↔ (IndexValid F z × (T (has_winter_date z w) × Q (record { ca = F.ca z; origin = profiled_at F z w h })))
unfolding index_donor donor_of
index_donor_lem {Q} F w h z = go (index_valid F z) (has_winter_date z w) (valid_words.index F z)
  where
    bare : {A : Type 0} {d : Donor} → none ≡ some d → A
    bare e = let z : ◌≡◌ {A = ℕ} 0 1 = cc in absurd (omega arith)

    donor : (d : Donor) → some (record { ca = F.ca z; origin = profiled_at F z w h }) ≡ some d → Q d → Q (record { ca = F.ca z; origin = profiled_at F z w h })
    donor d e q = let k : record { ca = F.ca z; origin = profiled_at F z w h } ≡ d = cc in rw k q

    go : (b c : Bool) → T b ↔ IndexValid F z
        → ((d : Donor) × (cond (b && c) (some (record { ca = F.ca z; origin = profiled_at F z w h })) none ≡ some d) × Q d) ↔ (IndexValid F z × (T c × Q (record { ca = F.ca z; origin = profiled_at F z w h })))
    go false c r = (λ s. bare s.1, λ s. absurd (r.1 s.0))
    go true false r = (λ s. bare s.1, λ s. absurd s.1.0)
    go true true r = (λ s. (r.0 tt, (tt, donor s.0 s.1 s.2)), λ s. (record { ca = F.ca z; origin = profiled_at F z w h }, refl, s.1.1))

curve_donors_are : {Q : Donor → Type 0} (F : Filing) (w h : ℕ)
    → Some Q (curve_donors F w h) ↔ SomeYear F (λ z. CurveValid F z × ((v : ℕ) × (F.point z w h ≡ some v) × Q (record { ca = F.ca z; origin = as_read v })))
unfolding curve_donors
curve_donors_are {Q} F w h = Iff.trans (some_present {P = Q} (map (curve_donor F w h) (history_list F))) (Iff.trans (map_some (curve_donor F w h) (history_list F)) (Iff.trans (some_history F) (
  λ s. (s.0, s.1, (curve_donor_lem {Q = Q} F w h s.0).0 s.2),
  λ s. (s.0, s.1, (curve_donor_lem {Q = Q} F w h s.0).1 s.2),
)))

index_donors_are : {Q : Donor → Type 0} (F : Filing) (w h : ℕ)
    → Some Q (index_donors F w h) ↔ SomeYear F (λ z. IndexValid F z × (T (has_winter_date z w) × Q (record { ca = F.ca z; origin = profiled_at F z w h })))
unfolding index_donors
index_donors_are {Q} F w h = Iff.trans (some_present {P = Q} (map (index_donor F w h) (history_list F))) (Iff.trans (map_some (index_donor F w h) (history_list F)) (Iff.trans (some_history F) (
  λ s. (s.0, s.1, (index_donor_lem {Q = Q} F w h s.0).0 s.2),
  λ s. (s.0, s.1, (index_donor_lem {Q = Q} F w h s.0).1 s.2),
)))

-- ---- default power
-- CA of the history years of a filière with so many, from the oldest on
history_cas_lem : (F : Filing) (y n oldest : ℕ) → OfHistory F y → history_length F.site.filiere ≡ n → F.site.al ≡ oldest + (n + 4)
    → history_cas F ≡ sum (tab n 0 (λ k. F.ca (oldest + k)))
unfolding history_cas history_list history_of years_in
history_cas_lem F y n oldest k e a =
    let first : F.site.al - (n + 4) ≡ oldest + 0 = omega arith in
    rw (known_history F.site.al F.site.filiere known, e, first) (ap sum (map_range F.ca (oldest + 0) n ∙ tab_shift n oldest 0 F.ca))
  where
    known : T (is_known F.site.al F.site.filiere)
    known = has_history F.site.al F.site.filiere (λ z. let b = (among_words (history_years F.site.al F.site.filiere) y).0 ((date_words.history F.site.al F.site.filiere y).1 k) in omega arith)

default_parts : (F : Filing) (y w h n oldest : ℕ) → OfHistory F y → history_length F.site.filiere ≡ n → F.site.al ≡ oldest + (n + 4)
    → default_at F y w h ≡ from_default F.site.ps (theta F.site.filiere) (F.profile y w h) (F.ca y) n (sum (tab n 0 (λ k. F.ca (oldest + k))))
unfolding default_at
default_parts F y w h n oldest k e a = λ i. from_default F.site.ps (theta F.site.filiere) (F.profile y w h) (F.ca y) (e i) (history_cas_lem F y n oldest k e a i)

default_source : (F : Filing) (y w h n oldest : ℕ) → OfHistory F y → (case_of F y ≡ case4) ⊎ (case_of F y ≡ case6) → history_length F.site.filiere ≡ n → F.site.al ≡ oldest + (n + 4)
    → source_at F y w h ≡ from_default F.site.ps (theta F.site.filiere) (F.profile y w h) (F.ca y) n (sum (tab n 0 (λ k. F.ca (oldest + k))))
unfolding source_at source_by
default_source F y w h n oldest k (inl c) e a = ap (λ (x : Case). source_by x F y w h) c ∙ default_parts F y w h n oldest k e a
default_source F y w h n oldest k (inr c) e a = ap (λ (x : Case). source_by x F y w h) c ∙ default_parts F y w h n oldest k e a

default_5_is : (F : Filing) (y w h oldest : ℕ) → OfHistory F y → (case_of F y ≡ case4) ⊎ (case_of F y ≡ case6) → F.site.filiere ≢ 4 → F.site.filiere ≢ 5
    → F.site.al ≡ oldest + 9 → ByDefault F y w h 5 oldest (0 ∷ 1 ∷ 2 ∷ 3 ∷ 4 ∷ [])
unfolding history_length tab
default_5_is F y w h oldest k c a b e = default_source F y w h 5 oldest k c (rw (ne_eqb F.site.filiere 4 a, ne_eqb F.site.filiere 5 b)) e

default_10_is : (F : Filing) (y w h oldest : ℕ) → OfHistory F y → (case_of F y ≡ case4) ⊎ (case_of F y ≡ case6) → (F.site.filiere ≡ 4) ⊎ (F.site.filiere ≡ 5)
    → F.site.al ≡ oldest + 14 → ByDefault F y w h 10 oldest (0 ∷ 1 ∷ 2 ∷ 3 ∷ 4 ∷ 5 ∷ 6 ∷ 7 ∷ 8 ∷ 9 ∷ [])
unfolding history_length tab
default_10_is F y w h oldest k c (inl a) e = default_source F y w h 10 oldest k c (rw a) e
default_10_is F y w h oldest k c (inr a) e = default_source F y w h 10 oldest k c (rw a) e

pub source_words : SourceWords
source_words = record {
  measured = measured_point;
  stays_missing = missing_point_lem;
  same_ca = one_donor;
  profiled = profiled_point;
  curve_donors_lem = curve_donors_are;
  index_donors_lem = index_donors_are;
  default_5 = default_5_is;
  default_10 = default_10_is;
}
