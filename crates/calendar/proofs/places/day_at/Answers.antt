use mathlib.Core.Path.{◌≡◌, ◌∙◌, ap}
use native.Mathlib.Omega.{arith}
use borrow.Author.Tests.{lt-ltb, le-ltb}
use Rattle.calendar.specs.Places.{before, month_of, day_of, date_place}
use Rattle.calendar.specs.Answers.{day_at}
use Rattle.calendar.proofs.Laws.{place_day}
use Rattle.calendar.proofs.places.day_at.Goals as goal
use Rattle.calendar.proofs.places.day_at.Goals.{After-start}

pub returns-then-place-ge366 : goal.returns-then-place-ge366
unfolding day_at
returns-then-place-ge366 c = simp (le-ltb _ _ c.if-place-ge366.true)

-- the first day of the place's month
first : (c : After-start) → c.start.result ≡ before (month_of c.args.place)
first c = c.start.ensures ∙ ap before c.month_at-month.ensures

pub overflow_sub-day : goal.overflow_sub-day
unfolding date_place
overflow_sub-day c = omega (arith, first c, (place_day _ c.if-place-ge366.false).back)

pub returns : goal.returns
unfolding day_at day_of
returns c = simp (lt-ltb _ _ c.if-place-ge366.false, c.month_at-month.ensures, first c)
