-- A year's own point at a place, from the lists of a site (document 01, Cases; Calls and the lines of a file).
use Rattle.std.specs.Prelude.{List, ℕ, ◌+◌, ◌*◌, get_or}
use Rattle.std.proofs.Math.Option.{Option}
use Rattle.meaning.specs.Points.{Origin, by_profile, read_by}
use Rattle.meaning.specs.Blocks.{missing_point, row_size, slot_at, point_of_code}
use Rattle.blocks.specs.Rows.{row_of}
use Rattle.history.specs.declared.YearOnDay.{YearOnDay}
use Rattle.history.specs.Years.{no_year}

-- ---- look-ups: y is a year, k its number from the oldest history year, w a winter place, h a half-hour
-- the code of a point, from the year's row
unfoldable pub code_in : ℕ → List ℕ → List ℕ → ℕ → ℕ → ℕ → ℕ
code_in al near far y w h = get_or (row_of al near far y) (slot_at w h) missing_point

unfoldable pub read_in : ℕ → List ℕ → List ℕ → ℕ → ℕ → ℕ → Option Origin
read_in al near far y w h = read_by (point_of_code (code_in al near far y w h))

-- the profile value
unfoldable pub profile_in : List ℕ → ℕ → ℕ → ℕ → ℕ
profile_in slots k w h = get_or slots (row_size * k + slot_at w h) 0

-- the profiled point, from what was looked up of each year for the day
unfoldable pub profiled_on : List ℕ → List YearOnDay → ℕ → ℕ → ℕ → Origin
profiled_on slots years k w h = by_profile (get_or years k no_year).energy.0 (profile_in slots k w h) (get_or years k no_year).total
