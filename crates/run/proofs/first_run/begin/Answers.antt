use mathlib.Core.Path.{ap}
use mathlib.Core.List.{[]}
use Rattle.meaning.specs.Calls.{Out}
use Rattle.pieces.specs.Run.{run_of, started}
use Rattle.run.proofs.first_run.begin.Goals as goal

pub returns : goal.returns
unfolding started
returns c =
    let o = c.open-call.ensures in
    rw c.of-pending.ensures (ap (λ (x : Out). run_of x []) (rw (c.fresh_readings-readings.ensures, c.never_opened.ensures) at o))
