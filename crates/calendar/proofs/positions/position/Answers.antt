use mathlib.Core.Path.{◌≡◌, sym, ◌∙◌, ap}
use mathlib.Core.Bool.{true}
use Prim.Native.Nat.{ℕ, ◌≤◌, ◌<◌, ◌+◌}
use native.Mathlib.Omega.{arith}
use Rattle.lists.proofs.Tests.{passed}
use Rattle.calendar.specs.Spans.{among, history_years, axis_years}
use Rattle.calendar.specs.Answers.{position_in}
use Rattle.calendar.specs.declared.Years.{Years}
use Rattle.calendar.proofs.Laws.{among_words, axis_range}
use Rattle.calendar.proofs.Laws.Answers.{place_below, position_by, date_has_place}
use Rattle.calendar.proofs.positions.position.Goals as goal
use Rattle.calendar.proofs.positions.position.Goals.{Else-not-is_date, then-not-contains-via-then-not-contains, then-not-contains-via-else-not-contains+then-not-is_date}

pub returns-then-not-contains : goal.returns-then-not-contains
unfolding position_in
returns-then-not-contains c =
    elim c.then-not-contains.branch [
      | then-not-contains-via-then-not-contains w ↦ rw (← c.axis-years.ensures, sym c.contains.ensures ∙ w.if-not-contains.true)
      | then-not-contains-via-else-not-contains+then-not-is_date w ↦
          rw (← c.axis-years.ensures, sym c.contains.ensures ∙ w.if-not-contains.false, sym w.is_date.ensures ∙ w.if-not-is_date.true)
    ]

-- the year's row is one of the axis
row : (al filiere year : ℕ) (axis : Years) → axis ≡ axis_years (history_years al filiere) → among axis year ≡ true → (axis.first ≤ year) × (year < axis.first + 12)
row al filiere year axis e a =
    let span = (among_words axis year).0 (passed _ a) in
    let n = ap (λ (s : Years). s.count) e in
    (span.0, omega (arith, (axis_range al filiere).short))

on_axis : (c : Else-not-is_date) → (c.axis-years.result.first ≤ c.args.date.year) × (c.args.date.year < c.axis-years.result.first + 12)
on_axis c = row _ _ _ _ c.axis-years.ensures (sym c.contains.ensures ∙ c.if-not-contains.false)

pub row-row-requires : goal.row-row-requires
row-row-requires c = (on_axis c).0

pub overflow_mul-result : goal.overflow_mul-result
overflow_mul-result c = omega (arith, (on_axis c.before).0, (on_axis c.before).1)

pub overflow_add-result : goal.overflow_add-result
overflow_add-result c =
    omega (arith, (on_axis c.before.before.before.before).0, (on_axis c.before.before.before.before).1, place_below _ _ _ (sym c.date_place.ensures ∙ c.in_ok-date_place.was))

pub returns-in_err-date_place : goal.returns-in_err-date_place
returns-in_err-date_place c =
    absurd (date_has_place _ _ _ (sym c.is_date.ensures ∙ c.if-not-is_date.false) (sym c.date_place.ensures ∙ c.in_err-date_place.was))

pub returns : goal.returns
returns c =
    rw (← c.axis-years.ensures, c.row-row.ensures)
    (sym (position_by _ _ _ _ _ (sym c.contains.ensures ∙ c.if-not-contains.false) (sym c.is_date.ensures ∙ c.if-not-is_date.false) (sym c.date_place.ensures ∙ c.in_ok-date_place.was)))
