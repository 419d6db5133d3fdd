use mathlib.Core.Path.{◌≡◌, ap, ◌∙◌}
use Prim.Native.Nat.{ℕ}
use native.Mathlib.Omega.{arith}
use lib.ListN.{set}
use Rattle.validity.specs.Steps.{filled}
use Rattle.validity.proofs.Fills.{filled_none, filled_more}
use Rattle.validity.proofs.intervals.days.fill.Goals as goal

pub loop-p-init : goal.loop-p-init
loop-p-init g c = filled_none c.args.places.now c.args.a c.args.v

pub loop-p-preserved : goal.loop-p-preserved
loop-p-preserved g c =
    let a = c.args in
    ap (λ ys. set ys c.loop-p.p a.v) c.loop-p.invariant ∙ filled_more a.places.now a.a a.v c.loop-p.p (omega arith) (omega arith)

pub returns : goal.returns
returns g c =
    let a = c.args in
    let e : c.loop-p.p ≡ a.b = omega arith in
    c.loop-p.invariant ∙ ap (λ (p : ℕ). filled a.places.now a.a p a.v) e
