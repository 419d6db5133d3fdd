-- A run over input that comes in pieces: opening, the lines as their ends come, and the close at the input's end (document 01, The printed sheet).
use Rattle.std.specs.Prelude.{Bool, true, false, cond, List, [], ◌∷◌, ◌++◌, ℕ, eqb, ltb, length}
use Rattle.meaning.specs.Line.{Line}
use Rattle.meaning.specs.Text.{end_byte, text_of}
use Rattle.meaning.specs.Blocks.{Blocks}
use Rattle.meaning.specs.Record.{Rec}
use Rattle.meaning.specs.Calls.{Answer, accepted, refused, reported, Out, opening_of, line_of, close_of}
use Rattle.demands.specs.CallLists.{sheet_of_answer}

-- what the last call gave, and the pending bytes: those of a line whose end has not come
pub record Run : Type 0 where
  pub out : Out
  pub pending : Line

abbrev pub run_of : Out → Line → Run
run_of o l = record { out = o; pending = l }

-- a refusal or a report is final: it ends a run
abbrev pub is_final : Answer → Bool
is_final accepted = false
is_final (refused n c) = true
is_final (reported r) = true

abbrev pub most_bytes : ℕ
most_bytes = 320

-- ---- opening
unfoldable pub started : Rec → Blocks → Run
started s w = run_of (opening_of s w) []

-- ---- one byte more
-- a line is applied, and nothing is pending
unfoldable pub applied : Out → Line → Run
applied o l = run_of (line_of o.after l o.blocks) []

-- a line is applied at its 321st byte, whatever follows
unfoldable pub longer : Out → Line → Run
longer o l = cond (ltb most_bytes (length l)) (applied o l) (run_of o l)

unfoldable pub fed_byte : Run → ℕ → Run
fed_byte r b =
    cond (is_final r.out.answer) r
    (cond (eqb b end_byte) (applied r.out r.pending) (longer r.out (r.pending ++ (b ∷ []))))

-- ---- a piece, and all pieces
unfoldable pub fed : Run → List ℕ → Run
fed r [] = r
fed r (b ∷ bs) = fed (fed_byte r b) bs

unfoldable pub fed_all : Run → List (List ℕ) → Run
fed_all r [] = r
fed_all r (p ∷ ps) = fed_all (fed r p) ps

-- ---- the input's end
-- a close, unless the run has its final answer
unfoldable pub close_unless_final : Out → Out
close_unless_final o = cond (is_final o.answer) o (close_of o.after o.blocks)

-- pending bytes are the last line, which has no byte 10
unfoldable pub last_line : Out → Line → Out
last_line o [] = o
last_line o (b ∷ l) = line_of o.after (b ∷ l) o.blocks

unfoldable pub finished : Run → Out
finished r = cond (is_final r.out.answer) r.out (close_unless_final (last_line r.out r.pending))

-- ---- what a run over the pieces ps gives
unfoldable pub ran_over : Rec → Blocks → List (List ℕ) → Out
ran_over s w ps = finished (fed_all (started s w) ps)

unfoldable pub text_out : Out → List ℕ
text_out o = text_of (sheet_of_answer o.answer)
