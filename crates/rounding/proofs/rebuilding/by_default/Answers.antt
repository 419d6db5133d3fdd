-- `by_default` meets its contract: the formula is split by the divisor, and the parts fit. Assumes nothing.
use mathlib.Core.Path.{ap, sym, ◌∙◌}
use native.Mathlib.Nat.{mul-le-mul}
use native.Mathlib.Omega.{arith}
use Prim.Native.Nat.{ℕ, ◌+◌, ◌*◌, ◌/◌}
use Rattle.rounding.specs.Answers.{limited_point}
use Rattle.rounding.proofs.Formulas.{default_sizes, default_parted}
use Rattle.rounding.proofs.rebuilding.by_default.Goals as goal

pub returns : goal.returns
returns c =
    let a = c.args in
    c.limited.ensures
    ∙ ap limited_point
    (ap (λ (x : ℕ). a.ca * a.n * (a.ps.0 * a.theta * a.profile / (1000000 * a.cas)) + x) c.half_up.ensures
    ∙ sym (default_parted a.ps.0 a.theta a.profile a.ca a.n a.cas c.requires.5))

pub overflow_add-k : goal.overflow_add-k
overflow_add-k c =
    let a = c.args in
    let h = c.requires in
    omega (
      arith,
      default_sizes (a.ca * a.n) (a.ps.0 * a.theta * a.profile) (1000000 * a.cas)
          (omega (arith, mul-le-mul h.3 h.4)) (omega (arith, mul-le-mul (mul-le-mul h.0 h.1) h.2)) (omega arith) (omega arith),
      c.half_up.ensures,
    )
