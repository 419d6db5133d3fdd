use mathlib.Core.Path.{◌≡◌}
use Prim.Native.Nat.{◌≤◌}
use Rattle.meaning.specs.Record.{readings_fit}
use Rattle.readings.specs.Columns.{readings_in}
use Rattle.close_checks.proofs.Columns.{left}
use Rattle.close_checks.proofs.contents.axis_blocks.Axis.readings_fit.Given as goal

abbrev pub invariant-loop-k : goal.invariant-loop-k
invariant-loop-k l =
    (l.k ≤ l.readings.n) × (readings_fit l.self.years (readings_in l.readings.positions.now l.readings.indexes.now l.readings.kinds.now l.readings.n) ≡ left l.self.years l.readings.positions.now l.readings.indexes.now l.readings.kinds.now l.readings.n l.least l.index.0 l.k)
