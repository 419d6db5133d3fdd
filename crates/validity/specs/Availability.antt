-- The peak points present in a year's row, and whether its curve is valid (document 01, Validity).
use Rattle.std.specs.Prelude.{Bool, ◌&&◌, not, List, map, ℕ, eqb, get_or}
use Rattle.lists.specs.Lists.{sum, count, range}
use Rattle.note.specs.Peaks.{peak_days}
use Rattle.meaning.specs.Blocks.{missing_point, slot_at}
use Rattle.meaning.specs.Validity.{half_hours, expected_points, enough}
use Rattle.validity.specs.declared.curves.Counts.{Counts}

-- a point is present
unfoldable pub is_present : List ℕ → ℕ → ℕ → Bool
is_present row w h = not (eqb (get_or row (slot_at w h) missing_point) missing_point)

unfoldable pub present_on_day : List ℕ → ℕ → ℕ
present_on_day row w = count (is_present row w) (range 0 half_hours)

unfoldable pub present_in_row : List ℕ → ℕ → ℕ
present_in_row row y = sum (map (present_on_day row) (peak_days y))

-- both counts of a year
unfoldable pub availability_of : List ℕ → ℕ → Counts
availability_of row y = record { present = present_in_row row y; expected = expected_points y }

unfoldable pub valid_row : List ℕ → ℕ → Bool → Bool
valid_row row y broken = not broken && enough (present_in_row row y) (expected_points y)
