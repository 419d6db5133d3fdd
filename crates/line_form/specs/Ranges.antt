-- 6 and 7 on the numbers read from a line, which are capped at 10^18.
use Rattle.std.specs.Prelude.{Bool, ◌&&◌, ◌||◌, not, ℕ, ltb}
use Rattle.calendar.specs.declared.Years.{Years}
use Rattle.calendar.specs.Dates.{is_date, is_winter}
use Rattle.calendar.specs.Spans.{among, axis_years}
use Rattle.meaning.specs.Line.{most_power, most_index, most_daily}
use Rattle.meaning.specs.Record.{is_within}
use Rattle.line_form.specs.declared.Site.{Site}
use Rattle.line_form.specs.declared.axis_fields.ReadingRead.{ReadingRead}
use Rattle.line_form.specs.declared.axis_fields.DailyRead.{DailyRead}
use Rattle.line_form.specs.declared.year_fields.RateRead.{RateRead}

-- ---- 6: numbers outside their ranges, years outside the span of the tag
-- S
unfoldable pub is_site_outside : Site → Bool
is_site_outside s = not (is_within 2021 2026 s.al) || (not (is_within 1 11 s.filiere) || not (is_within 1 most_power s.ps.0))

-- X
unfoldable pub is_reading_outside : Years → ReadingRead → Bool
is_reading_outside h r = not (among (axis_years h) r.date.year) || ltb most_index r.index.0

-- D
unfoldable pub is_daily_outside : Years → DailyRead → Bool
is_daily_outside h r = not (among (axis_years h) r.date.year) || ltb most_daily r.sum

-- B
unfoldable pub is_year_outside : Years → ℕ → Bool
is_year_outside h y = not (among h y)

-- R
unfoldable pub is_rate_outside : Years → RateRead → Bool
is_rate_outside h r = not (among h r.year) || not (is_within 10 1000 r.rate)

-- E
unfoldable pub is_count_outside : ℕ → Bool
is_count_outside n = ltb 9999 n

-- ---- 7: no such date, or not winter where the tag takes winter dates only
unfoldable pub no_date_for : Bool → ℕ → ℕ → ℕ → Bool
no_date_for winter y m d = not (is_date y m d) || (winter && not (is_winter m))
