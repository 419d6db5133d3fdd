-- Bounds on the numbers of ten years.
use Rattle.std.specs.Prelude.{◌≡◌, Bool, false, ◌&&◌, List, ℕ, ◌+◌, ◌*◌, ◌≤◌, ◌<◌, T, get_or}
use Rattle.calendar.specs.Places.{has_winter_date, date_of_winter}
use Rattle.rounding.specs.declared.Energy.{Energy}
use Rattle.rounding.specs.Units.{in_wh}
use Rattle.history.specs.Years.{position_in, cas_sum}

abbrev pub AtMost : ℕ → List ℕ → Type 0
AtMost m xs = (i : ℕ) → get_or xs i 0 ≤ m

-- the same of energies, in Wh
abbrev pub EnergiesAtMost : ℕ → List Energy → Type 0
EnergiesAtMost m es = (i : ℕ) → (get_or es i (in_wh 0)).0 ≤ m

-- where 17 does not hold: the daily sums around a winter day that a valid index year has do not total 0
abbrev pub NonzeroTotals : ℕ → List Bool → List ℕ → Type 0
NonzeroTotals first indexes totals = (k w : ℕ) → T (get_or indexes k false && has_winter_date (first + k) w) → 0 < get_or totals (position_in k w) 0

pub record DatePlaceIs (w r : ℕ) : Type 0 where
  pub is : r ≡ date_of_winter w
  pub fits : r < 366

pub record CasSumIs (n : ℕ) (cas : List ℕ) (r : ℕ) : Type 0 where
  pub is : r ≡ cas_sum n cas
  pub fits : r ≤ n * 9999
