use mathlib.Core.Path.{◌≡◌, sym, ◌∙◌}
use mathlib.Core.Bool.{true}
use native.Mathlib.Omega.{arith}
use Rattle.lists.proofs.Tests.{passed}
use Rattle.calendar.specs.Dates.{is_day}
use Rattle.calendar.specs.Places.{date_place}
use Rattle.calendar.specs.Answers.{date_place_of}
use Rattle.calendar.proofs.Laws.{day_parts, day_place}
use Rattle.calendar.proofs.places.date_place.Goals as goal
use Rattle.calendar.proofs.places.date_place.Goals.{Else-not-is_day}

pub returns-then-not-is_day : goal.returns-then-not-is_day
unfolding date_place_of
returns-then-not-is_day c = simp (sym c.is_day.ensures ∙ c.if-not-is_day.true)

a-day : (c : Else-not-is_day) → is_day c.args.month c.args.day ≡ true
a-day c = sym c.is_day.ensures ∙ c.if-not-is_day.false

pub overflow_sub-days : goal.overflow_sub-days
overflow_sub-days c = (day_parts _ _ (passed _ (a-day c))).first_day

pub overflow_add-result : goal.overflow_add-result
unfolding date_place
overflow_add-result c = omega (arith, c.start.ensures, (day_place _ _ (passed _ (a-day c.before))).below)

pub returns : goal.returns
unfolding date_place_of date_place
returns c = simp (a-day c.before, c.start.ensures)
