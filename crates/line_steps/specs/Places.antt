-- 4 for C lines.
use Rattle.std.specs.Prelude.{Bool, ◌||◌, ℕ}
use Rattle.meaning.specs.Filing.{Meter}
use Rattle.meaning.specs.Line.{C}
use Rattle.meaning.specs.File.{is_index_meter}
use Rattle.line_checks.specs.Order.{is_misplaced}

-- out of order, or in an I file
unfoldable pub points_misplaced : ℕ → Meter → Bool
points_misplaced last m = is_misplaced last C || is_index_meter m
