-- The points that are counted: rounded and exact points are missing at the same places, and no file that document 01 knows is without points.
use mathlib.Core.Path.{◌≡◌, refl}
use mathlib.Core.Bool.{Bool, true, false, not, cond}
use mathlib.Core.List.{List, map}
use mathlib.Core.Option.{Option, some, none}
use Prim.Native.Nat.{ℕ, ◌*◌, ◌<◌}
use native.Mathlib.Omega.{arith}
use lib.Dec.{T, leb, leb→le}
use lib.ListN.{length, length-map}
use Rattle.lists.specs.Lists.{any, is_some, range, count, Some}
use Rattle.lists.proofs.Laws.{some_map, any_some}
use Rattle.lists.proofs.Sums.{some_first, some_picture, pictured, some_present, same_present, some_counted, some_summed}
use Rattle.lists.proofs.Tests.{and_right}
use Rattle.calendar.specs.Spans.{is_known}
use Rattle.note.specs.Peaks.{peak_days, peak_count}
use Rattle.note.proofs.PeakDays.{fewest_days}
use Rattle.meaning.specs.Filing.{Filing, Meter, no_meter, curve_meter, index_meter, history_list}
use Rattle.meaning.specs.Validity.{half_hours, expected_points, present_points, enough, curve_valid}
use Rattle.meaning.specs.Cases.{Case, case_m, case1, case2, case3, case4, case_p, case5, case6, Mark, curve_case, index_case, case_by, case_of, mark_of, marks_of}
use Rattle.meaning.specs.Points.{Source, missing, own, from_donors, from_default, CurvePlace, place_of, point_at, rated_by, applied_rate, rounded_point, source_by, source_at, read_at, read_by, own_of, default_at}
use Rattle.meaning.specs.Level.{points_in, counted}
use Rattle.demands.specs.Exact.{exactly, exact_by, exact_at, exact_points}
use Rattle.demands.proofs.Bound.Years.{InHistory, year_some, some_years, year_peaks}
use Rattle.demands.proofs.Bound.Places.{some_place, some_time}

-- ---- rounded and exact points are missing at the same places
same_there : (s : Source) (r : Option ℕ) → is_some (exact_by r (exactly s)) ≡ is_some (rated_by r (rounded_point s))
unfolding rounded_point exactly rated_by exact_by
same_there missing r = refl
same_there (own o) r = refl
same_there (from_donors ca ds) r = refl
same_there (from_default ps th p ca n cas) r = refl

pub exact_counted : (qs : List CurvePlace) → length (exact_points qs) ≡ length (points_in qs)
unfolding exact_points points_in exact_at point_at
exact_counted qs = same_present exact_at point_at (λ q. same_there q.source q.rate) qs

-- ---- a year that has points: one that is measured with a valid curve, profiled or default
abbrev Shows : Case → Bool → Type 0
Shows case_m c = T c
Shows case1 c = Unit {0}
Shows case2 c = ⊥
Shows case3 c = ⊥
Shows case4 c = Unit {0}
Shows case_p c = Unit {0}
Shows case5 c = ⊥
Shows case6 c = Unit {0}

curve_shows : (c i : Bool) (k : Case) → T c → Shows (cond c case_m (cond i case1 k)) c
curve_shows true i k t = tt
curve_shows false i k t = absurd t

index_shows : (c i : Bool) (k : Case) → T i → Shows (cond c case_m (cond i case1 k)) c
index_shows true i k t = tt
index_shows false true k t = tt
index_shows false false k t = absurd t

default_shows : (c i : Bool) → Shows (cond c case_m (cond i case1 case4)) c
default_shows true i = tt
default_shows false true = tt
default_shows false false = tt

profiled_shows : (c i : Bool) (k : Case) → T i → Shows (cond i case_p k) c
profiled_shows c true k t = tt
profiled_shows c false k t = absurd t

six_shows : (c i : Bool) → Shows (cond i case_p case6) c
six_shows c true = tt
six_shows c false = tt

-- among some years there is one: a valid curve, else a valid index, else any
in_curves : (ks : List Mark) → 0 < length ks → (a b : Bool) → any (λ k. k.curve) ks ≡ a → any (λ k. k.index) ks ≡ b
    → Some (λ k. Shows (cond k.curve case_m (cond k.index case1 (cond a case2 (cond b case3 case4)))) k.curve) ks
in_curves ks n true b e f = some_map (λ k t. curve_shows k.curve k.index case2 t) (any_some (λ k. k.curve) ks (rw e tt))
in_curves ks n false true e f = some_map (λ k t. index_shows k.curve k.index case3 t) (any_some (λ k. k.index) ks (rw f tt))
in_curves ks n false false e f = some_first ks n (λ k. default_shows k.curve k.index)

in_indexes : (ks : List Mark) → 0 < length ks → (b : Bool) → any (λ k. k.index) ks ≡ b
    → Some (λ k. Shows (cond k.index case_p (cond b case5 case6)) k.curve) ks
in_indexes ks n true f = some_map (λ k t. profiled_shows k.curve k.index case5 t) (any_some (λ k. k.index) ks (rw f tt))
in_indexes ks n false f = some_first ks n (λ k. six_shows k.curve k.index)

some_shows : (m : Meter) (ks : List Mark) → 0 < length ks → Some (λ k. Shows (case_by m ks k) k.curve) ks
unfolding case_by curve_case index_case
some_shows curve_meter ks n = in_curves ks n (any (λ k. k.curve) ks) (any (λ k. k.index) ks) refl refl
some_shows index_meter ks n = in_indexes ks n (any (λ k. k.index) ks) refl
some_shows no_meter ks n = in_indexes ks n (any (λ k. k.index) ks) refl

-- ---- its points
-- a place with a point
abbrev Seen : Filing → Case → ℕ → Type 0
Seen F k y = Some (λ w. Some (λ h. T (is_some (rounded_point (source_by k F y w h)))) (range 0 half_hours)) (peak_days y)

-- 80% of the points of 11 days or more are at least one
some_read : (F : Filing) (y : ℕ) → InHistory F y → T (curve_valid F y) → 0 < present_points F y
unfolding curve_valid enough expected_points
some_read F y t v =
    let h = leb→le (80 * (20 * peak_count y)) (100 * present_points F y) (and_right (not (F.broken y)) (leb (80 * (20 * peak_count y)) (100 * present_points F y)) v) in
    omega (arith, fewest_days y (year_peaks F y t))

read_there : (o : Option ℕ) → T (is_some o) → T (is_some (rounded_point (own_of (read_by o))))
unfolding read_by own_of rounded_point
read_there none t = t
read_there (some v) t = tt

measured : (F : Filing) (y : ℕ) → InHistory F y → T (curve_valid F y) → Seen F case_m y
unfolding present_points source_by read_at
measured F y t v =
    some_map (λ w r. some_map (λ h p. read_there (F.point y w h) p) (some_counted (λ h. is_some (F.point y w h)) (range 0 half_hours) r))
    (pictured (λ w. count (λ h. is_some (F.point y w h)) (range 0 half_hours)) (peak_days y)
    (some_summed (map (λ w. count (λ h. is_some (F.point y w h)) (range 0 half_hours)) (peak_days y)) (some_read F y t v)))

seen : (F : Filing) (y : ℕ) → InHistory F y → (k : Case) → Shows k (curve_valid F y) → Seen F k y
unfolding source_by default_at rounded_point
seen F y t case_m s = measured F y t s
seen F y t case1 s = some_time F y t (λ w h. tt)
seen F y t case2 s = absurd s
seen F y t case3 s = absurd s
seen F y t case4 s = some_time F y t (λ w h. tt)
seen F y t case_p s = some_time F y t (λ w h. tt)
seen F y t case5 s = absurd s
seen F y t case6 s = some_time F y t (λ w h. tt)

-- ---- the count is never 0
rated_there : (r o : Option ℕ) → T (is_some o) → T (is_some (rated_by r o))
unfolding rated_by
rated_there r none t = t
rated_there r (some p) t = tt

some_year_shows : (F : Filing) → T (is_known F.site.al F.site.filiere) → Some (λ y. Shows (case_of F y) (curve_valid F y)) (history_list F)
unfolding case_of marks_of mark_of
some_year_shows F k = pictured (mark_of F) (history_list F) (some_shows F.site.meter (marks_of F) (rw (length-map (history_list F) (mark_of F)) (some_years F k)))

pub some_point : (F : Filing) → T (is_known F.site.al F.site.filiere) → 0 < counted F
unfolding counted points_in point_at place_of source_at
some_point F k =
    let y = year_some F (some_year_shows F k) in
    some_present (some_picture point_at (some_place F y.0 y.2
    (some_map (λ w r. some_map (λ h t. rated_there (applied_rate F y.0) (rounded_point (source_at F y.0 w h)) t) r) (seen F y.0 y.2 (case_of F y.0) y.1))))
