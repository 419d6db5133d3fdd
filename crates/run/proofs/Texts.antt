-- The text of what a run returns is the text of its sheet.
use mathlib.Core.Path.{◌≡◌, refl, ap, ◌∙◌}
use mathlib.Core.Bool.{Bool, true, false, ◌&&◌, cond}
use mathlib.Core.List.{List, [], ◌∷◌, ◌++◌}
use mathlib.Core.Option.{Option, some, none}
use Prim.Native.Nat.{ℕ}
use lib.Dec.{T, eqb}
use Rattle.lists.specs.Lists.{flat}
use Rattle.meaning.specs.Line.{Line}
use Rattle.meaning.specs.Input.{lines_of}
use Rattle.meaning.specs.Refusals.{Reason, refusal}
use Rattle.meaning.specs.Closing.{CloseReason, closing_refusal}
use Rattle.meaning.specs.Text.{level_line, text_of}
use Rattle.meaning.specs.Sheet.{sheet_of}
use Rattle.meaning.specs.Blocks.{Blocks, sizes_fit}
use Rattle.meaning.specs.Record.{is_open, Rec, rec_fits, contents_fit, before_of, filing_of}
use Rattle.meaning.specs.Calls.{Answer, accepted, refused, reported, Out, leaves, opening_of, line_by, line_of, close_by, close_of}
use Rattle.demands.specs.CallLists.{sheet_of_answer}
use Rattle.pieces.specs.Run.{Run, run_of, is_final, started, applied, longer, fed_byte, fed, fed_all, close_unless_final, last_line, finished, ran_over, text_out}
use Rattle.pieces.proofs.Pieces.{pieces_text}
use Rattle.close.specs.Ends.{answer_repr, years_beside, close_repr}
use Rattle.sheet.specs.SheetTexts.{sheet_text}
use Rattle.sheet.proofs.Years.{Printable, rows_shown, report_printable}

-- the years of a report are printable
unfoldable pub Prints : Answer → Type 0
Prints accepted = Unit {0}
Prints (refused n c) = Unit {0}
Prints (reported r) = Printable r.years

pub shown : (a : Answer) → Prints a → sheet_text (answer_repr a) (years_beside a) ≡ text_of (sheet_of_answer a)
unfolding Prints answer_repr years_beside sheet_text text_of sheet_of_answer level_line
shown accepted p = refl
shown (refused n c) p = refl
shown (reported r) p = ap (λ (l : List ℕ). level_line r ++ l) (rows_shown p)

-- ---- no call reports years that are not
line_prints : (s : Rec) (l : Line) (w : Blocks) → Prints (line_of s l w).answer
unfolding line_of line_by leaves Prints
line_prints s l w = go (sizes_fit w && rec_fits s) (is_open s.state) (refusal (before_of s) l)
  where
    go : (a b : Bool) (o : Option Reason) → Prints (cond a (cond b (line_by o s l w) (leaves 13 s w)) (leaves 1 s w)).answer
    go true true none = tt
    go true true (some y) = tt
    go true false o = tt
    go false b o = tt

close_prints : (s : Rec) (w : Blocks) → Prints (close_of s w).answer
unfolding close_of close_by leaves Prints
close_prints s w = go (sizes_fit w && (rec_fits s && contents_fit s w)) (is_open s.state) (closing_refusal (filing_of s w))
  where
    go : (a b : Bool) (o : Option CloseReason) → Prints (cond a (cond b (close_by o s w) (leaves 13 s w)) (leaves 1 s w)).answer
    go true true none = report_printable (filing_of s w)
    go true true (some k) = tt
    go true false o = tt
    go false b o = tt

opening_prints : (s : Rec) (w : Blocks) → Prints (opening_of s w).answer
unfolding opening_of leaves Prints
opening_prints s w = go (sizes_fit w)
  where
    go : (a : Bool) → Prints (cond a (Rattle.meaning.specs.Calls.out accepted Rattle.meaning.specs.Record.fresh_rec Rattle.meaning.specs.Blocks.fresh_blocks) (leaves 1 s w)).answer
    go true = tt
    go false = tt

-- ---- nor does a run
PrintsIn : Run → Type 0
PrintsIn r = Prints r.out.answer

longer_prints : (o : Out) (l : Line) → Prints o.answer → PrintsIn (longer o l)
unfolding longer applied PrintsIn
longer_prints o l p = go (lib.Dec.ltb 320 (lib.ListN.length l))
  where
    go : (b : Bool) → Prints (cond b (run_of (line_of o.after l o.blocks) []) (run_of o l)).out.answer
    go true = line_prints o.after l o.blocks
    go false = p

byte_prints : (r : Run) (b : ℕ) → PrintsIn r → PrintsIn (fed_byte r b)
unfolding fed_byte applied PrintsIn
byte_prints r b p = go (is_final r.out.answer) (eqb b 10)
  where
    go : (x y : Bool) → Prints (cond x r (cond y (run_of (line_of r.out.after r.pending r.out.blocks) []) (longer r.out (r.pending ++ (b ∷ []))))).out.answer
    go true y = p
    go false true = line_prints r.out.after r.pending r.out.blocks
    go false false = longer_prints r.out (r.pending ++ (b ∷ [])) p

fed_prints : (bs : List ℕ) (r : Run) → PrintsIn r → PrintsIn (fed r bs)
unfolding fed
fed_prints [] r p = p
fed_prints (b ∷ bs) r p = fed_prints bs (fed_byte r b) (byte_prints r b p)

all_prints : (ps : List (List ℕ)) (r : Run) → PrintsIn r → PrintsIn (fed_all r ps)
unfolding fed_all
all_prints [] r p = p
all_prints (b ∷ ps) r p = all_prints ps (fed r b) (fed_prints b r p)

last_prints : (o : Out) (l : Line) → Prints o.answer → Prints (last_line o l).answer
unfolding last_line
last_prints o [] p = p
last_prints o (b ∷ l) p = line_prints o.after (b ∷ l) o.blocks

shut_prints : (o : Out) → Prints o.answer → Prints (close_unless_final o).answer
unfolding close_unless_final
shut_prints o p = go (is_final o.answer)
  where
    go : (b : Bool) → Prints (cond b o (close_of o.after o.blocks)).answer
    go true = p
    go false = close_prints o.after o.blocks

ended_prints : (r : Run) → PrintsIn r → Prints (finished r).answer
unfolding finished PrintsIn
ended_prints r p = go (is_final r.out.answer)
  where
    go : (b : Bool) → Prints (cond b r.out (close_unless_final (last_line r.out r.pending))).answer
    go true = p
    go false = shut_prints (last_line r.out r.pending) (last_prints r.out r.pending p)

-- ---- the text of a run, from whatever record and blocks
pub sheet_text_lem : (s : Rec) (w : Blocks) → T (sizes_fit w) → (ps : List (List ℕ))
    → sheet_text (close_repr (ran_over s w ps)).answer (close_repr (ran_over s w ps)).years ≡ text_of (sheet_of (lines_of (flat ps)))
unfolding close_repr ran_over started text_out PrintsIn
sheet_text_lem s w t ps = shown _ (ended_prints (fed_all (run_of (opening_of s w) []) ps) (all_prints ps (run_of (opening_of s w) []) (opening_prints s w))) ∙ pieces_text s w t ps
