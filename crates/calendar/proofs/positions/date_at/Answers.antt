use mathlib.Core.Path.{sym, ◌∙◌, ap}
use native.Mathlib.Omega.{arith}
use Rattle.calendar.specs.declared.Years.{Years}
use Rattle.calendar.proofs.Laws.{axis_range}
use Rattle.calendar.proofs.Laws.Answers.{day_nowhere, date_past, date_missing, date_by}
use Rattle.calendar.proofs.positions.date_at.Goals as goal

pub returns-then-years-row : goal.returns-then-years-row
returns-then-years-row c = rw (← c.axis-years.ensures) (sym (date_past c.axis-years.result c.args.position c.if-years-row.true))

pub overflow_add-year : goal.overflow_add-year
overflow_add-year c =
    let s = c.args in
    let e = ap (λ (s : Years). s.count) c.axis-years.ensures in
    let f = ap (λ (s : Years). s.first) c.axis-years.ensures in
    omega (arith, (axis_range s.al s.filiere).to)

pub returns-then-not-has_date : goal.returns-then-not-has_date
returns-then-not-has_date c =
    rw (← c.axis-years.ensures) (sym (date_missing c.axis-years.result c.args.position (sym c.has_date.ensures ∙ c.if-not-has_date.true)))

pub returns-in_err-month : goal.returns-in_err-month
returns-in_err-month c =
    absurd (omega (arith, day_nowhere _ (sym c.day_at.ensures ∙ c.in_err-month.was)))

pub returns : goal.returns
returns c =
    rw (← c.axis-years.ensures)
    (sym (date_by c.axis-years.result c.args.position _ _ c.if-years-row.false (sym c.has_date.ensures ∙ c.if-not-has_date.false) (sym c.day_at.ensures ∙ c.in_ok-month.was)))
