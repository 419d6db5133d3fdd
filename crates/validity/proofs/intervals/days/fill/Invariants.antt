use mathlib.Core.Path.{◌≡◌}
use Rattle.validity.specs.Steps.{filled}
use Rattle.validity.proofs.intervals.days.fill.Given as goal

abbrev pub invariant-loop-p : goal.invariant-loop-p
invariant-loop-p g l = l.places ≡ filled l.initial.places l.a l.p l.v
