-- The record, the answers and the lent blocks, as the calls have them and as the definitions of document 01 do.
use Rattle.answers.specs.Views.{answer_view}
use Rattle.progress.specs.ProgressViews.{rec_of}
use Rattle.meaning.specs.Blocks.{Blocks}
use Rattle.meaning.specs.Record.{Rec}
use Rattle.meaning.specs.Calls.{Out, out}
use Rattle.record_calls.specs.declared.Record.{Record}
use Rattle.close.specs.Ends.{CloseOut, close_out}
use Rattle.record_calls.specs.declared.CallResult.{CallResult}
use Rattle.record_calls.specs.declared.CloseResult.{CloseResult}

abbrev pub view : Record → Rec
view s = rec_of s.state s.count s.progress

-- what a call hands back, with the lists as it leaves them
abbrev pub call_view : CallResult → Blocks → Out
call_view r w = out (answer_view r.answer) (view r.«record») w

-- what a close hands back
abbrev pub close_view : CloseResult → Blocks → CloseOut
close_view r w = close_out r.answer (view r.«record») r.years w
