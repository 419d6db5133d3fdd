-- How far a point lies from its fraction before its rate, by the case of its year, in halves of a mW.
use mathlib.Core.Path.{◌≡◌}
use mathlib.Core.Bool.{Bool, true, false, ◌&&◌, cond}
use mathlib.Core.List.{List, [], ◌∷◌, map}
use mathlib.Core.Option.{Option, some, none}
use Prim.Native.Nat.{ℕ, ◌+◌, ◌*◌, ◌≤◌, ◌<◌}
use native.Mathlib.Omega.{arith}
use lib.Dec.{T}
use lib.ListN.{length, length-map}
use Rattle.lists.specs.Lists.{any, sum, Each, each_nil, each_cons}
use Rattle.lists.proofs.Laws.{each_map}
use Rattle.lists.proofs.Sums.{Held, each_picture, each_present, some_picture, sum_positive}
use Rattle.lists.proofs.Tests.{and_left, and_right}
use Rattle.calendar.specs.Places.{has_winter_date}
use Rattle.rounding.specs.Points.{Fraction, rounded, profiled, rebuilt, by_default}
use Rattle.rounding.proofs.Laws.{half_up_whole}
use Rattle.meaning.specs.Filing.{Filing, Meter, no_meter, curve_meter, index_meter, history_of}
use Rattle.meaning.specs.Validity.{energy_of, total_of, curve_valid, index_valid}
use Rattle.meaning.specs.Cases.{Case, case_m, case1, case2, case3, case4, case_p, case5, case6, Mark, curve_case, index_case, case_by, case_of, mark_of, marks_of}
use Rattle.meaning.specs.Points.{Origin, as_read, by_profile, fraction_of, Donor, profiled_in, profiled_at, read_by, read_at, donor_place, donor_of, curve_donor, index_donor, curve_donors, index_donors, own_of, rebuilt_by, history_cas, default_at, source_by, source_at, rounded_origin, donor_cas, donor_points, rounded_point}
use Rattle.demands.specs.Exact.{total, exactly}
use Rattle.meaning.specs.Closing.{closing_refusal}
use Rattle.demands.proofs.Bound.Near.{Near, both_map, near_rounded, near_whole, near_total, near_rebuilt, Agree}
use Rattle.demands.proofs.Bound.Sane.{Sane}
use Rattle.demands.proofs.Bound.Years.{InHistory, each_year_lem, some_year, first_year}
use Rattle.demands.proofs.Bound.Intervals.{no_zero_total, total_positive}

-- ---- a year's own points
-- as read: no rounding
read_near : (v : ℕ) → Near 0 2 (rounded_origin (as_read v)) (fraction_of (as_read v))
unfolding rounded_origin rounded fraction_of
read_near v =
    let e : 1000 * v * 1 ≡ 1000 * v = omega arith in
    rw (rw e at (half_up_whole (1000 * v) 1 (omega arith))) (near_whole (1000 * v))

read_agrees : (o : Option ℕ) → Agree 0 2 (rounded_point (own_of (read_by o))) (exactly (own_of (read_by o)))
unfolding read_by own_of rounded_point exactly
read_agrees none = tt
read_agrees (some v) = read_near v

-- profiled: one half, the daily sums not being all 0
profiled_near : (e p t : ℕ) → 0 < t → Near 1 2 (rounded_origin (by_profile e p t)) (fraction_of (by_profile e p t))
unfolding rounded_origin rounded fraction_of profiled
profiled_near e p t h = near_rounded (2000 * e * p) t h

-- ---- donors: each with its CA, which is not below half the target's, and its point h halves off
record Fine (h ca : ℕ) (d : Donor) : Type 0 where
  some_ca : 0 < d.ca
  half : ca ≤ 2 * d.ca
  near : Near h 2 (rounded_origin d.origin) (fraction_of d.origin)

-- CA of the target, once for each donor, is at most twice the donors' CA
donors_weigh : {h ca : ℕ} {ds : List Donor} → Each (Fine h ca) ds → ca * length ds ≤ 2 * donor_cas ds
unfolding donor_cas sum
donors_weigh each_nil = omega arith
donors_weigh (each_cons f r) = omega (arith, donors_weigh r, f.half)

donors_positive : {h ca : ℕ} {d : Donor} {ds : List Donor} → Each (Fine h ca) (d ∷ ds) → 0 < donor_cas (d ∷ ds)
unfolding donor_cas sum
donors_positive (each_cons f r) = omega (arith, f.some_ca)

donors_near : {h ca : ℕ} {ds : List Donor} → Each (Fine h ca) ds → Near (length ds * h) 2 (donor_points ds) (total (map (λ (d : Donor). fraction_of d.origin) ds))
unfolding donor_points
donors_near {h} {ca} {ds} r =
    let got : Donor → ℕ = λ d. rounded_origin d.origin in
    let exact : Donor → Fraction = λ d. fraction_of d.origin in
    rw (length-map ds got) at (near_total (both_map got exact (each_map (λ d f. f.near) r)))

-- a rebuilt point
rebuilt_agrees : (h ca : ℕ) (ds : List Donor) → Each (Fine h ca) ds → Agree (1 + 2 * h) 2 (rounded_point (rebuilt_by ca ds)) (exactly (rebuilt_by ca ds))
unfolding rebuilt_by rounded_point exactly rebuilt rounded
rebuilt_agrees h ca [] r = tt
rebuilt_agrees h ca (d ∷ ds) r =
    near_rebuilt h (length (d ∷ ds)) ca (donor_cas (d ∷ ds)) (donor_points (d ∷ ds)) (total (map (λ (e : Donor). fraction_of e.origin) (d ∷ ds)))
    (donors_positive r) (donors_weigh r) (donors_near r)

-- ---- by case
-- the halves of a mW that a point may be off before its rate
unfoldable pub halves_of : Case → ℕ
halves_of case_m = 0
halves_of case1 = 1
halves_of case2 = 1
halves_of case3 = 3
halves_of case4 = 1
halves_of case_p = 1
halves_of case5 = 3
halves_of case6 = 1

-- a year of case 1 or P has a valid index
abbrev Fits : Case → Bool → Type 0
Fits case_m b = Unit {0}
Fits case1 b = T b
Fits case2 b = Unit {0}
Fits case3 b = Unit {0}
Fits case4 b = Unit {0}
Fits case_p b = T b
Fits case5 b = Unit {0}
Fits case6 b = Unit {0}

curve_fits : (a b c d : Bool) → Fits (cond a case_m (cond b case1 (cond c case2 (cond d case3 case4)))) b
curve_fits true b c d = tt
curve_fits false true c d = tt
curve_fits false false true d = tt
curve_fits false false false true = tt
curve_fits false false false false = tt

index_fits : (b c : Bool) → Fits (cond b case_p (cond c case5 case6)) b
index_fits true c = tt
index_fits false true = tt
index_fits false false = tt

by_fits : (m : Meter) (ks : List Mark) (k : Mark) → Fits (case_by m ks k) k.index
unfolding case_by curve_case index_case
by_fits curve_meter ks k = curve_fits k.curve k.index (any (λ j. j.curve) ks) (any (λ j. j.index) ks)
by_fits index_meter ks k = index_fits k.index (any (λ j. j.index) ks)
by_fits no_meter ks k = index_fits k.index (any (λ j. j.index) ks)

case_fits : (F : Filing) (y : ℕ) → Fits (case_of F y) (index_valid F y)
unfolding case_of mark_of
case_fits F y = by_fits F.site.meter (marks_of F) (mark_of F y)

-- what is present only where a test passes
held_where : {A : Type 0} (P : A → Type 0) (b : Bool) (o : Option A) → (T b → Held P o) → Held P (cond b o none)
held_where P true o h = h tt
held_where P false o h = tt

-- ---- the sources of a filing
module _ (F : Filing) (s : Sane F) (ok : closing_refusal F ≡ none) where
  -- a point of a valid index year
  profiled_close : (y w h : ℕ) → InHistory F y → T (has_winter_date y w) → T (index_valid F y)
      → Near 1 2 (rounded_origin (profiled_at F y w h)) (fraction_of (profiled_at F y w h))
  unfolding profiled_at profiled_in
  profiled_close y w h t dated valid =
      let v = total_positive F s.known y w t dated (no_zero_total F ok) valid in
      rw v.1 (profiled_near (energy_of v.0) (F.profile y w h) (total_of F v.0) v.2)

  -- a donor year's CA, for a target year
  donor_fine : {h : ℕ} {o : Origin} (y z : ℕ) → InHistory F y → InHistory F z → Near h 2 (rounded_origin o) (fraction_of o) → Fine h (F.ca y) (record { ca = F.ca z; origin = o })
  donor_fine y z t u n = record { some_ca = s.some_ca z u; half = s.twofold y z t u; near = n }

  -- curve donors are as read
  curve_fine : (y w h : ℕ) → InHistory F y → Each (Fine 0 (F.ca y)) (curve_donors F w h)
  unfolding curve_donors curve_donor read_at read_by donor_of
  curve_fine y w h t =
      each_present (each_picture (curve_donor F w h) (each_year_lem F (λ z u.
      held_where (Fine 0 (F.ca y)) (curve_valid F z) (donor_of F z (read_at F z (donor_place z w) h)) (λ k. read z u (F.point z (donor_place z w) h)))))
    where
      read : (z : ℕ) → InHistory F z → (o : Option ℕ) → Held (Fine 0 (F.ca y)) (donor_of F z (read_by o))
      read z u none = tt
      read z u (some v) = donor_fine y z t u (read_near v)

  -- index donors are profiled
  index_fine : (y w h : ℕ) → InHistory F y → Each (Fine 1 (F.ca y)) (index_donors F w h)
  unfolding index_donors index_donor donor_of
  index_fine y w h t =
      each_present (each_picture (index_donor F w h) (each_year_lem F (λ z u.
      held_where (Fine 1 (F.ca y)) (index_valid F z && has_winter_date z (donor_place z w)) (donor_of F z (some (profiled_at F z (donor_place z w) h))) (λ k.
      donor_fine y z t u (profiled_close z (donor_place z w) h u
      (and_right (index_valid F z) (has_winter_date z (donor_place z w)) k) (and_left (index_valid F z) (has_winter_date z (donor_place z w)) k))))))

  -- default power: one half
  some_cas : 0 < history_cas F
  unfolding history_cas
  some_cas = sum_positive (some_picture F.ca (some_year F (history_of F).first (first_year F s.known) (s.some_ca (history_of F).first (first_year F s.known))))

  default_agrees : (y w h : ℕ) → Agree 1 2 (rounded_point (default_at F y w h)) (exactly (default_at F y w h))
  unfolding default_at rounded_point exactly rounded by_default
  default_agrees y w h = near_rounded _ (1000000 * history_cas F) (omega (arith, some_cas))

  -- ---- a point, by the case of its year
  source_agrees : (k : Case) (y w h : ℕ) → InHistory F y → T (has_winter_date y w) → Fits k (index_valid F y)
      → Agree (halves_of k) 2 (rounded_point (source_by k F y w h)) (exactly (source_by k F y w h))
  unfolding source_by read_at halves_of rounded_point exactly
  source_agrees case_m y w h t dated f = read_agrees (F.point y w h)
  source_agrees case1 y w h t dated f = profiled_close y w h t dated f
  source_agrees case2 y w h t dated f = rebuilt_agrees 0 (F.ca y) (curve_donors F w h) (curve_fine y w h t)
  source_agrees case3 y w h t dated f = rebuilt_agrees 1 (F.ca y) (index_donors F w h) (index_fine y w h t)
  source_agrees case4 y w h t dated f = default_agrees y w h
  source_agrees case_p y w h t dated f = profiled_close y w h t dated f
  source_agrees case5 y w h t dated f = rebuilt_agrees 1 (F.ca y) (index_donors F w h) (index_fine y w h t)
  source_agrees case6 y w h t dated f = default_agrees y w h

  pub case_agrees : (y w h : ℕ) → InHistory F y → T (has_winter_date y w) → Agree (halves_of (case_of F y)) 2 (rounded_point (source_at F y w h)) (exactly (source_at F y w h))
  unfolding source_at
  case_agrees y w h t dated = source_agrees (case_of F y) y w h t dated (case_fits F y)
