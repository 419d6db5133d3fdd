use Rattle.std.proofs.Common.{◌≡◌, [], length}
use Rattle.pieces.specs.Run.{run_of, fed}
use Rattle.readings.specs.Readings.{readings_view}
use Rattle.readings.specs.Columns.{lent_blocks}
use Rattle.record_calls.specs.Views.{call_view}
use Rattle.piece_lines.proofs.all_lines.apply_lines.Given as goal

abbrev pub invariant-lines : goal.invariant-lines
invariant-lines l =
    fed (run_of (call_view l.call (lent_blocks l.near l.far l.slots l.daily (readings_view l.readings) l.curve)) []) l.rest
    ≡ fed (run_of (call_view l.initial.call (lent_blocks l.initial.near l.initial.far l.initial.slots l.initial.daily (readings_view l.initial.readings) l.curve)) []) l.piece

abbrev pub decreases-lines : goal.decreases-lines
decreases-lines l = length l.rest
