-- The largest number of points of a day and of a year.
use mathlib.Core.List.{List}
use Prim.Native.Nat.{ℕ, ◌≤◌}
use native.Mathlib.Omega.{arith}
use Rattle.lists.specs.Lists.{range}
use Rattle.lists.proofs.Laws.{length_tab}
use Rattle.lists.proofs.Sums.{count_most, sum_most}
use Rattle.validity.specs.Availability.{is_present, present_on_day, present_in_row}
use Rattle.note.specs.Peaks.{peak_days}
use Rattle.note.proofs.PeakDays.{days_length, most_days}
use Rattle.meaning.specs.Validity.{expected_points}

-- a day has at most 20 points
pub day_most : (row : List ℕ) (w : ℕ) → present_on_day row w ≤ 20
unfolding present_on_day range
day_most row w = omega (arith, count_most (is_present row w) (range 0 20), length_tab 20 0 (λ k. k))

-- a year has at most 440
pub year_most : (row : List ℕ) (y : ℕ) → present_in_row row y ≤ 440
unfolding present_in_row
year_most row y = omega (arith, sum_most (present_on_day row) 20 (day_most row) (peak_days y), days_length y, most_days y)

pub expected_most : (y : ℕ) → expected_points y ≤ 440
unfolding expected_points
expected_most y = omega (arith, most_days y)
