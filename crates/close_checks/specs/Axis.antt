-- Refusal 1 at the close: one position of the axis (document 01, Stops that come from the input).
use Rattle.std.specs.Prelude.{Bool, ◌&&◌, ◌||◌, ℕ, eqb, leb}
use Rattle.calendar.specs.declared.Years.{Years}
use Rattle.calendar.specs.Places.{has_date}
use Rattle.calendar.specs.Spans.{among, year_at, place_at}
use Rattle.meaning.specs.Line.{most_daily}

-- a position has a date of an axis year
unfoldable pub placed_at : Years → ℕ → Bool
placed_at axis p = among axis (year_at axis p) && has_date (year_at axis p) (place_at p)

-- a daily sum that D can give at a position with a date, or 0
unfoldable pub day_fits : Years → ℕ → ℕ → Bool
day_fits axis p v = eqb v 0 || (placed_at axis p && leb v most_daily)
