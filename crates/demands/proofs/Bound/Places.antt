-- The places of the curve: what holds of each, and of some.
use Prim.Native.Nat.{ℕ}
use native.Mathlib.Omega.{arith}
use lib.Dec.{T}
use Rattle.lists.specs.Lists.{tab, range, Each, Some}
use Rattle.lists.proofs.Laws.{each_map, some_map}
use Rattle.lists.proofs.Sums.{some_first, some_in_lem, in_range_lem, each_tab, some_ranged, each_picture, some_picture, each_flat, some_flat}
use Rattle.calendar.specs.Places.{has_winter_date}
use Rattle.note.specs.Peaks.{peak_days}
use Rattle.note.proofs.PeakDays.{each_dated, days_length, fewest_days}
use Rattle.meaning.specs.Filing.{Filing}
use Rattle.meaning.specs.Validity.{half_hours}
use Rattle.meaning.specs.Points.{CurvePlace, place_of, year_places, all_places}
use Rattle.demands.proofs.Bound.Years.{InHistory, each_year_lem, some_year, year_peaks}

-- what holds at each half-hour of a dated winter place of a history year holds at each place of the curve
pub each_place : {P : CurvePlace → Type 0} (F : Filing) → ((y w h : ℕ) → InHistory F y → T (has_winter_date y w) → P (place_of F y w h)) → Each P (all_places F)
unfolding all_places year_places
each_place F k =
    each_flat (each_picture (year_places F) (each_year_lem F (λ y t.
    each_flat (each_picture (λ w. tab half_hours 0 (place_of F y w)) (each_map (λ w d. each_tab half_hours 0 (place_of F y w) (λ h a b. k y w h t d)) (each_dated y))))))

-- what holds at a peak day and half-hour of a history year holds at some place of the curve
pub some_place : {P : CurvePlace → Type 0} (F : Filing) (y : ℕ) → InHistory F y
    → Some (λ w. Some (λ h. P (place_of F y w h)) (range 0 half_hours)) (peak_days y)
    → Some P (all_places F)
unfolding all_places year_places
some_place F y t s =
    some_flat (some_picture (year_places F) (some_year F y t
    (some_flat (some_picture (λ w. tab half_hours 0 (place_of F y w)) (some_map (λ w r. some_ranged half_hours 0 (place_of F y w) r) s)))))

-- a history year has peak days, and a day has half-hours
pub some_time : {P : ℕ → ℕ → Type 0} (F : Filing) (y : ℕ) → InHistory F y → ((w h : ℕ) → P w h) → Some (λ w. Some (P w) (range 0 half_hours)) (peak_days y)
some_time F y t p =
    some_first (peak_days y) (omega (arith, days_length y, fewest_days y (year_peaks F y t)))
    (λ w. some_in_lem (in_range_lem 0 half_hours 0 (omega arith) (omega arith)) (p w 0))
