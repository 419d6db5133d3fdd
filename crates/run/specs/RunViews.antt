-- A run as the code has it, and as its definition does (document 01, The printed sheet).
use Rattle.meaning.specs.Blocks.{Blocks}
use Rattle.pieces.specs.Run as meant
use Rattle.pieces.specs.Run.{run_of}
use Rattle.pieces.specs.Joined.{pending_line}
use Rattle.record_calls.specs.Views.{call_view}
use Rattle.run.specs.declared.Run.{Run}

-- with the lists as they are lent
abbrev pub run_view : Run → Blocks → meant.Run
run_view r w = run_of (call_view r.call w) (pending_line r.pending)
