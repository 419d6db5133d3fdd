use mathlib.Core.Path.{◌≡◌, ◌∙◌, ap}
use Prim.Native.Nat.{ℕ}
use native.Mathlib.Omega.{arith}
use lib.Dec.{T}
use borrow.Author.Tests.{eq-eqb, ne_eqb}
use Rattle.calendar.specs.Spans.{is_known, history_years, axis_years}
use Rattle.calendar.specs.declared.Years.{Years}
use Rattle.calendar.proofs.Laws.{has_history, history_bounds, history_short}
use Rattle.calendar.proofs.spans.axis.Goals as goal

pub returns-then-h-eq0 : goal.returns-then-h-eq0
unfolding axis_years
returns-then-h-eq0 c = rw (← c.history-h.ensures, eq-eqb _ _ c.if-h-eq0.true)

-- where the history has a year, AL and filière are known
known : (al filiere : ℕ) (h : Years) → h ≡ history_years al filiere → (h.count ≡ 0 → ⊥) → T (is_known al filiere)
known al filiere h e n = has_history _ _ (λ z. n (ap (λ (s : Years). s.count) e ∙ z))

pub overflow_sub-result : goal.overflow_sub-result
overflow_sub-result c =
    let e = ap (λ (s : Years). s.first) c.history-h.ensures in
    omega (arith, (history_bounds _ _ (known _ _ _ c.history-h.ensures c.if-h-eq0.false)).from)

pub overflow_add-result : goal.overflow_add-result
overflow_add-result c =
    let e = ap (λ (s : Years). s.count) c.history-h.ensures in
    omega (arith, history_short _ _ (known _ _ _ c.history-h.ensures c.if-h-eq0.false))

pub returns : goal.returns
unfolding axis_years
returns c = rw (← c.history-h.ensures, ne_eqb _ _ c.if-h-eq0.false)
