use mathlib.Core.Path.{◌≡◌, sym, ◌∙◌}
use mathlib.Core.Bool.{true}
use mathlib.Core.Logic.{⊎_elim}
use native.Mathlib.Omega.{arith}
use Rattle.lists.proofs.Tests.{passed}
use Rattle.calendar.specs.Spans.{is_known, history_years}
use Rattle.calendar.proofs.Laws.{known_parts, length_5_10}
use Rattle.calendar.proofs.spans.history.Goals as goal
use Rattle.calendar.proofs.spans.history.Goals.{Else-not-is_known}

pub returns-then-not-is_known : goal.returns-then-not-is_known
unfolding history_years
returns-then-not-is_known c = simp (sym c.is_known.ensures ∙ c.if-not-is_known.true)

known : (c : Else-not-is_known) → is_known c.args.al c.args.filiere ≡ true
known c = sym c.is_known.ensures ∙ c.if-not-is_known.false

pub overflow_add-result : goal.overflow_add-result
overflow_add-result c =
    let e = c.history_length-count.ensures in
    ⊎_elim (λ k. omega arith) (λ k. omega arith) (length_5_10 c.args.filiere)

pub overflow_sub-result : goal.overflow_sub-result
overflow_sub-result c =
    let e = c.history_length-count.ensures in
    let parts = known_parts _ _ (passed _ (known c.before)) in
    ⊎_elim (λ k. omega arith) (λ k. omega arith) (length_5_10 c.args.filiere)

pub returns : goal.returns
unfolding history_years
returns c = simp (known c.before, c.history_length-count.ensures)
