-- 6 on what is read from a C or P line: a year outside the history, or a value outside its range.
use Rattle.std.specs.Prelude.{Bool, ◌||◌, not, List, ℕ, Option}
use Rattle.lists.specs.Lists.{any}
use Rattle.calendar.specs.declared.Years.{Years}
use Rattle.calendar.specs.Spans.{among}
use Rattle.line_form.specs.Codes.{is_point_outside, is_profile_outside}
use Rattle.calendar.specs.declared.Date.{Date}
use Rattle.rounding.specs.declared.Watts.{Watts}

unfoldable pub is_points_outside : Years → Date → List (Option Watts) → Bool
is_points_outside h r points = not (among h r.year) || any is_point_outside points

unfoldable pub is_profiles_outside : Years → Date → List ℕ → Bool
is_profiles_outside h r values = not (among h r.year) || any is_profile_outside values
