-- What a C or P line says where it is accepted, and the checks of the code that find it.
use Rattle.std.specs.Prelude.{Bool, true, ◌||◌, not, ℕ, Result, Ok}
use Rattle.calendar.specs.declared.Years.{Years}
use Rattle.calendar.specs.Spans.{among}
use Rattle.calendar.specs.Answers.{winter_place_of}
use Rattle.meaning.specs.Line.{Line, Tag, C, P, year_on, winter_on, key_of}
use Rattle.refusals.specs.declared.Refusal.{Refusal}
use Rattle.calendar.specs.declared.Date.{Date}
use Rattle.line_checks.specs.Order.{and_then}
use Rattle.line_checks.specs.Places.{place_or, dated_checks}
use Rattle.line_form.specs.Codes.{point_row, profile_row}
use Rattle.line_steps.specs.declared.points_and_profiles.checks.DateChecked.{DateChecked}
use Rattle.line_steps.specs.declared.points_and_profiles.checks.PointsChecked.{PointsChecked}
use Rattle.line_steps.specs.declared.points_and_profiles.checks.ProfilesChecked.{ProfilesChecked}

-- its date
unfoldable pub date_on : Tag → Line → DateChecked
date_on t l = record { year = year_on l; place = winter_on l; key = key_of t l }

-- its date, and its points or its profile values
unfoldable pub points_on : Line → PointsChecked
points_on l = record { date = date_on C l; points = point_row l }

unfoldable pub profiles_on : Line → ProfilesChecked
profiles_on l = record { date = date_on P l; values = profile_row l }

-- by the history years, the date that it says, whether a value is above its range, and the last date of its tag
unfoldable pub winter_checked : Years → Date → Bool → ℕ → Result DateChecked Refusal
winter_checked h d above latest =
    and_then (dated_checks (not (among h d.year) || above) true d latest)
    (λ k. Ok (record { year = d.year; place = place_or (winter_place_of d.month d.day); key = k }))
