use mathlib.Core.Path.{sym}
use native.Mathlib.Omega.{arith}
use Rattle.calendar.proofs.Laws.Months.{december, next_month, this_month}
use Rattle.calendar.proofs.rows.month_at.Goals as goal

pub returns-then-place-ge335 : goal.returns-then-place-ge335
returns-then-place-ge335 c = sym (december c.args.place c.if-place-ge335.true)

pub returns-then-start-place : goal.returns-then-start-place
returns-then-start-place c = sym (next_month _ c.if-place-ge335.false (omega (arith, c.start.ensures)))

pub returns-else-start-place : goal.returns-else-start-place
returns-else-start-place c = sym (this_month _ c.if-place-ge335.false (omega (arith, c.start.ensures)))
