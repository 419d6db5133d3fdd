-- Lists of calls: each gets the record that the one before handed back and the blocks as it left them; the file of a close
-- (document 01, What demand 3 compares).
use Rattle.std.specs.Prelude.{List, [], ◌∷◌, ◌++◌}
use Rattle.meaning.specs.Line.{Line}
use Rattle.meaning.specs.Blocks.{Blocks}
use Rattle.meaning.specs.Record.{Rec}
use Rattle.meaning.specs.Calls.{Answer, accepted, refused, reported, Out, opening_of, line_of, close_of}
use Rattle.meaning.specs.Sheet.{Sheet, refused_sheet, level, Outcome}

pub data Call : Type 0 where
  opening : Call
  line : Line → Call
  close : Call

unfoldable pub called : Call → Rec → Blocks → Out
called opening s w = opening_of s w
called (line l) s w = line_of s l w
called close s w = close_of s w

-- the file after a call: the lines accepted since the last opening that was not refused; a refused line is no part of it
unfoldable pub file_after : Call → Answer → List Line → List Line
file_after opening accepted f = []
file_after opening (refused n c) f = f
file_after opening (reported r) f = f
file_after (line l) accepted f = f ++ (l ∷ [])
file_after (line l) (refused n c) f = f
file_after (line l) (reported r) f = f
file_after close a f = f

-- each call's answer, with the file at that call
pub record Answered : Type 0 where
  pub file : List Line
  pub answer : Answer

unfoldable pub answers_from : Rec → Blocks → List Line → List Call → List Answered
answers_from s w f [] = []
answers_from s w f (k ∷ ks) =
    record { file = f; answer = (called k s w).answer }
    ∷ answers_from (called k s w).after (called k s w).blocks (file_after k (called k s w).answer f) ks

-- an opening, then the calls; before the opening there is no file
unfoldable pub answers_of : Rec → Blocks → List Call → List Answered
answers_of s w ks = answers_from s w [] (opening ∷ ks)

-- ---- the run over a file: opening, the lines up to the first that is refused, and the close
unfoldable pub sheet_of_answer : Answer → Sheet
sheet_of_answer accepted = refused_sheet 0 0
sheet_of_answer (refused n c) = refused_sheet n c
sheet_of_answer (reported r) = level r

unfoldable pub outcome_of_out : Out → Outcome
outcome_of_out o = record { sheet = sheet_of_answer o.answer; curve = o.blocks.curve }

-- a refusal ends the run
unfoldable pub onward_by : Answer → Out → Outcome → Outcome
onward_by accepted o later = later
onward_by (refused n c) o later = outcome_of_out o
onward_by (reported r) o later = outcome_of_out o

unfoldable pub onward : Out → Outcome → Outcome
onward o later = onward_by o.answer o later

unfoldable pub run_from : Rec → Blocks → List Line → Outcome
run_from s w [] = outcome_of_out (called close s w)
run_from s w (l ∷ ls) = onward (called (line l) s w) (run_from (called (line l) s w).after (called (line l) s w).blocks ls)

unfoldable pub run : Rec → Blocks → List Line → Outcome
run s w ls = onward (called opening s w) (run_from (called opening s w).after (called opening s w).blocks ls)
