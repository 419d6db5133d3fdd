use Rattle.std.proofs.Common.{◌≡◌, length}
use Rattle.readings.specs.Readings.{readings_view}
use Rattle.readings.specs.Columns.{lent_blocks}
use Rattle.run.specs.RunViews.{run_view}
use Rattle.file_run.proofs.ReadLoop.{Waiting}
use Rattle.file_run.proofs.reading.read_on.Given as goal

abbrev pub invariant-loop : goal.invariant-loop
invariant-loop g l =
    (length l.buf ≡ 65536)
    × Waiting (g.R.Read.remaining l.initial.reader) (g.R.Read.remaining l.reader) (run_view l.initial.own_run.run (lent_blocks l.initial.near l.initial.far l.initial.slots l.initial.daily (readings_view l.initial.own_run.readings) l.curve))
    (run_view l.own_run.run (lent_blocks l.near l.far l.slots l.daily (readings_view l.own_run.readings) l.curve)) l.counter
