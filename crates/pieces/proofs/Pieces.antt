-- A run over pieces gives what opening, the lines of the pieces put together, and the close give; so, by demand 2, what these lines define.
use mathlib.Core.Path.{◌≡◌, refl, ap, sym, ◌∙◌}
use mathlib.Core.Bool.{Bool, true, false, cond}
use mathlib.Core.List.{List, [], ◌∷◌, ◌++◌, append_assoc, append-nil}
use Prim.Native.Nat.{ℕ, ◌≤◌, ◌<◌}
use native.Mathlib.Omega.{arith}
use lib.Dec.{eqb, ltb}
use lib.ListN.{length}
use borrow.Author.Tests.{eqb-true, eqb-false, ltb-true, ltb-false}
use Rattle.lists.specs.Lists.{each_nil, flat}
use Rattle.meaning.specs.Line.{Line}
use Rattle.meaning.specs.Input.{lines_of}
use Rattle.meaning.specs.Text.{text_of}
use Rattle.meaning.specs.Blocks.{Blocks}
use Rattle.meaning.specs.Record.{Rec}
use Rattle.meaning.specs.Calls.{Out, opening_of, line_of, close_of}
use Rattle.meaning.specs.Sheet.{Outcome, sheet_of}
use Rattle.demands.specs.CallLists.{called, outcome_of_out, onward, run_from, run}
use Rattle.meaning.proofs.Pins.Input.{input_words}
use Rattle.demands.proofs.Demand2.{demand_2}
use Rattle.pieces.specs.Run.{run_of, is_final, started, applied, longer, fed_byte, fed, close_unless_final, last_line, finished, ran_over, text_out}
use Rattle.pieces.specs.Promise.{Pieces, PiecesText}
use Rattle.pieces.proofs.Lines.{Endless, endless_more, joined, lines_begun}
use Rattle.pieces.proofs.LongLines.{long_same, long_refused}
use Rattle.pieces.proofs.Feeding.{fed_flat, kept_all, stops, goes_on}

-- ---- the input's end
shut_outcome : (o : Out) → outcome_of_out (close_unless_final o) ≡ onward o (run_from o.after o.blocks [])
unfolding close_unless_final run_from called
shut_outcome o = go (is_final o.answer) refl
  where
    go : (b : Bool) → is_final o.answer ≡ b → outcome_of_out (cond b o (close_of o.after o.blocks)) ≡ onward o (outcome_of_out (close_of o.after o.blocks))
    go true e = sym (stops o (outcome_of_out (close_of o.after o.blocks)) e)
    go false e = sym (goes_on o (outcome_of_out (close_of o.after o.blocks)) e)

last_outcome : (o : Out) (l : Line) → outcome_of_out (close_unless_final (line_of o.after l o.blocks)) ≡ run_from o.after o.blocks (l ∷ [])
unfolding run_from called
last_outcome o l = shut_outcome (line_of o.after l o.blocks)

end_outcome : (o : Out) (l : Line) → is_final o.answer ≡ false → Endless l → outcome_of_out (finished (run_of o l)) ≡ run_from o.after o.blocks (lines_of l)
unfolding finished last_line
end_outcome o [] h e = rw (h, input_words.none) (shut_outcome o ∙ goes_on o _ h)
end_outcome o (b ∷ l) h e = rw (h, input_words.last b l e) (last_outcome o (b ∷ l))

-- ---- a line that is applied
given_outcome : (o : Out) (l : Line) (bs : List ℕ) (ls : List Line)
    → (is_final (line_of o.after l o.blocks).answer ≡ false
    → outcome_of_out (finished (fed (applied o l) bs)) ≡ run_from (line_of o.after l o.blocks).after (line_of o.after l o.blocks).blocks ls)
    → outcome_of_out (finished (fed (applied o l) bs)) ≡ run_from o.after o.blocks (l ∷ ls)
unfolding applied run_from called
given_outcome o l bs ls later = go (is_final (line_of o.after l o.blocks).answer) refl
  where
    go : (b : Bool) → is_final (line_of o.after l o.blocks).answer ≡ b
        → outcome_of_out (finished (fed (run_of (line_of o.after l o.blocks) []) bs)) ≡ onward (line_of o.after l o.blocks) (run_from (line_of o.after l o.blocks).after (line_of o.after l o.blocks).blocks ls)
    go true e = ap outcome_of_out (kept_all (run_of (line_of o.after l o.blocks) []) bs e) ∙ sym (stops (line_of o.after l o.blocks) _ e)
    go false e = later e ∙ sym (goes_on (line_of o.after l o.blocks) _ e)

-- at its 321st byte
long_outcome : (o : Out) (l : Line) (bs : List ℕ) → 320 < length l → Endless l
    → outcome_of_out (finished (fed (applied o l) bs)) ≡ run_from o.after o.blocks (lines_of (l ++ bs))
unfolding applied run_from called joined
long_outcome o [] bs h e = absurd (omega arith)
long_outcome o (b ∷ c) bs h e = rw (lines_begun b c bs e) (go (lines_of bs))
  where
    refused_by_lem : is_final (line_of o.after (b ∷ c) o.blocks).answer ≡ true
    refused_by_lem = long_refused o.after (b ∷ c) o.blocks h

    shown : (ls : List Line) (m : Line) → line_of o.after m o.blocks ≡ line_of o.after (b ∷ c) o.blocks
        → outcome_of_out (finished (fed (run_of (line_of o.after (b ∷ c) o.blocks) []) bs)) ≡ onward (line_of o.after m o.blocks) (run_from (line_of o.after m o.blocks).after (line_of o.after m o.blocks).blocks ls)
    shown ls m q =
        rw q (ap outcome_of_out (kept_all (run_of (line_of o.after (b ∷ c) o.blocks) []) bs refused_by_lem) ∙ sym (stops (line_of o.after (b ∷ c) o.blocks) _ refused_by_lem))

    go : (ls : List Line) → outcome_of_out (finished (fed (run_of (line_of o.after (b ∷ c) o.blocks) []) bs)) ≡ run_from o.after o.blocks (joined (b ∷ c) ls)
    go [] = shown [] (b ∷ c) refl
    go (m ∷ ls) = shown ls ((b ∷ c) ++ m) (long_same o.after (b ∷ c) m o.blocks h)

-- ---- byte by byte
-- with bytes pending, the run gives what the lines give
Follows : List ℕ → Type 0
Follows bs =
    (l : Line) (o : Out) → is_final o.answer ≡ false → Endless l → length l ≤ 320
    → outcome_of_out (finished (fed (run_of o l) bs)) ≡ run_from o.after o.blocks (lines_of (l ++ bs))

end_follows : (bs : List ℕ) → Follows bs → (l : Line) (o : Out) → Endless l
    → outcome_of_out (finished (fed (applied o l) bs)) ≡ run_from o.after o.blocks (lines_of (l ++ (10 ∷ bs)))
unfolding Follows applied
end_follows bs later l o e = rw (input_words.more l bs e) (given_outcome o l bs (lines_of bs) (λ a. later [] (line_of o.after l o.blocks) a each_nil (omega arith)))

longer_follows : (bs : List ℕ) → Follows bs → (l : Line) (o : Out) → is_final o.answer ≡ false → Endless l
    → outcome_of_out (finished (fed (longer o l) bs)) ≡ run_from o.after o.blocks (lines_of (l ++ bs))
unfolding Follows longer
longer_follows bs later l o h e = go (ltb 320 (length l)) refl
  where
    go : (c : Bool) → ltb 320 (length l) ≡ c → outcome_of_out (finished (fed (cond c (applied o l) (run_of o l)) bs)) ≡ run_from o.after o.blocks (lines_of (l ++ bs))
    go true t = long_outcome o l bs (ltb-true 320 (length l) t) e
    go false t = later l o h e (ltb-false 320 (length l) t)

byte_follows : (b : ℕ) (bs : List ℕ) → Follows bs → (l : Line) (o : Out) → is_final o.answer ≡ false → Endless l
    → outcome_of_out (finished (fed (fed_byte (run_of o l) b) bs)) ≡ run_from o.after o.blocks (lines_of (l ++ (b ∷ bs)))
unfolding fed_byte
byte_follows b bs later l o h e = rw h (go (eqb b 10) refl)
  where
    go : (c : Bool) → eqb b 10 ≡ c
        → outcome_of_out (finished (fed (cond c (applied o l) (longer o (l ++ (b ∷ [])))) bs)) ≡ run_from o.after o.blocks (lines_of (l ++ (b ∷ bs)))
    go true t = rw (eqb-true b 10 t) (end_follows bs later l o e)
    go false t = longer_follows bs later (l ++ (b ∷ [])) o h (endless_more b e (eqb-false b 10 t)) ∙ ap (λ (x : Line). run_from o.after o.blocks (lines_of x)) (append_assoc l (b ∷ []) bs)

follows : (bs : List ℕ) → Follows bs
unfolding Follows fed
follows [] l o h e k = end_outcome o l h e ∙ ap (λ (x : Line). run_from o.after o.blocks (lines_of x)) (sym (append-nil l))
follows (b ∷ bs) l o h e k = byte_follows b bs (follows bs) l o h e

-- ---- whatever record and blocks held
pub over_lines : (s : Rec) (w : Blocks) (ps : List (List ℕ)) → outcome_of_out (ran_over s w ps) ≡ run s w (lines_of (flat ps))
unfolding ran_over started run called Follows
over_lines s w ps = rw (fed_flat (run_of (opening_of s w) []) ps) (go (is_final (opening_of s w).answer) refl)
  where
    go : (b : Bool) → is_final (opening_of s w).answer ≡ b
        → outcome_of_out (finished (fed (run_of (opening_of s w) []) (flat ps))) ≡ onward (opening_of s w) (run_from (opening_of s w).after (opening_of s w).blocks (lines_of (flat ps)))
    go true e = ap outcome_of_out (kept_all (run_of (opening_of s w) []) (flat ps) e) ∙ sym (stops (opening_of s w) _ e)
    go false e = follows (flat ps) [] (opening_of s w) e each_nil (omega arith) ∙ sym (goes_on (opening_of s w) _ e)

pub pieces : Pieces
pieces s w t ps = over_lines s w ps ∙ demand_2 s w t (lines_of (flat ps))

pub pieces_text : PiecesText
unfolding text_out sheet_of outcome_of_out
pieces_text s w t ps = ap (λ (o : Outcome). text_of o.sheet) (pieces s w t ps)
