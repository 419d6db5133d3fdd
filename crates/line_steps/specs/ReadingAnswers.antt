-- What an X or D line says where it is accepted, on the axis around the history years h, and the checks of the code that find its date.
use Rattle.std.specs.Prelude.{Bool, false, ◌||◌, not, ℕ, Result, Ok}
use Rattle.calendar.specs.declared.Years.{Years}
use Rattle.calendar.specs.Spans.{among, axis_years, position_of}
use Rattle.calendar.specs.Answers.{position_in}
use Rattle.text.specs.Fields.{field_at}
use Rattle.meaning.specs.Line.{Line, X, D, number_at, year_on, month_on, day_on, kind_of, key_of}
use Rattle.rounding.specs.Units.{in_wh}
use Rattle.readings.specs.Readings.{kind_repr}
use Rattle.refusals.specs.declared.Refusal.{Refusal}
use Rattle.calendar.specs.declared.Date.{Date}
use Rattle.line_checks.specs.Order.{and_then}
use Rattle.line_checks.specs.Places.{place_or, dated_checks}
use Rattle.line_steps.specs.declared.readings_and_sums.checks.AxisChecked.{AxisChecked}
use Rattle.line_steps.specs.declared.readings_and_sums.checks.ReadingChecked.{ReadingChecked}
use Rattle.line_steps.specs.declared.readings_and_sums.checks.DailyChecked.{DailyChecked}

-- X
unfoldable pub reading_on : Years → Line → ReadingChecked
reading_on h l = record {
  position = position_of (axis_years h) (year_on l) (month_on l) (day_on l);
  index = in_wh (number_at l 4);
  kind = kind_repr (kind_of (field_at l 5));
  key = key_of X l;
}

-- D
unfoldable pub daily_on : Years → Line → DailyChecked
daily_on h l = record { year = year_on l; position = position_of (axis_years h) (year_on l) (month_on l) (day_on l); sum = number_at l 4; key = key_of D l }

-- the date of either, by the history years, whether its number is above its range, and the last date of its tag
unfoldable pub axis_checked : Years → Date → Bool → ℕ → Result AxisChecked Refusal
axis_checked h d above latest =
    and_then (dated_checks (not (among (axis_years h) d.year) || above) false d latest)
    (λ k. Ok (record { position = place_or (position_in (axis_years h) d.year d.month d.day); key = k }))
