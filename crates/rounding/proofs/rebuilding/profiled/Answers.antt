-- `profiled` meets its contract: the formula is split by the total, and the parts fit. Assumes nothing.
use mathlib.Core.Path.{ap, sym, ◌∙◌}
use native.Mathlib.Omega.{arith}
use Prim.Native.Nat.{ℕ, ◌+◌, ◌*◌, ◌/◌}
use Rattle.rounding.specs.Points.{rounded, profiled}
use Rattle.rounding.specs.Answers.{limited_point}
use Rattle.rounding.proofs.Formulas.{profiled_sizes, profiled_parted, profiled_large}
use Rattle.rounding.specs.Units.{in_mw}
use Rattle.rounding.proofs.Answers.{point_exceeds}
use Rattle.rounding.proofs.rebuilding.profiled.Goals as goal

pub returns-then-whole-gt100000000 : goal.returns-then-whole-gt100000000
returns-then-whole-gt100000000 c =
    let a = c.args in
    point_exceeds (in_mw (rounded (profiled a.e.0 a.profile a.total))) (profiled_large a.e.0 a.profile a.total c.requires.2 c.if-whole-gt100000000.true)

pub returns : goal.returns
returns c =
    let a = c.args in
    c.limited.ensures
    ∙ ap limited_point
    (ap (λ (x : ℕ). 2000 * (a.e.0 / a.total * a.profile) + x) c.half_up.ensures ∙ sym (profiled_parted a.e.0 a.profile a.total c.requires.2))

pub overflow_add-whole : goal.overflow_add-whole
overflow_add-whole c =
    let a = c.args in
    let h = c.requires in
    omega (arith, profiled_sizes a.e.0 a.profile a.total h.0 h.1 h.2 h.3, c.half_up.ensures)
