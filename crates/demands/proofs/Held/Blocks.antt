-- Record and blocks say what the lines say: after each accepted line, and so at the close.
use mathlib.Core.Path.{◌≡◌, refl, ap, sym}
use mathlib.Core.Bool.{Bool, true, false, ◌&&◌}
use mathlib.Core.List.{List, [], ◌∷◌, ◌++◌}
use mathlib.Core.Option.{Option, some, none}
use Prim.Native.Nat.{ℕ}
use Rattle.lists.proofs.Tests.{is_true}
use Rattle.meaning.specs.Line.{Line, S, is, tag_of}
use Rattle.meaning.specs.File.{refusal_at, filing_in}
use Rattle.meaning.specs.Blocks.{Blocks, sizes_fit}
use Rattle.meaning.specs.Record.{Rec, rec_fits, contents_fit, filing_of}
use Rattle.meaning.specs.Refusals.{Reason}
use Rattle.meaning.specs.Closing.{CloseReason}
use Rattle.meaning.specs.Level.{curve_of}
use Rattle.meaning.specs.Sheet.{refused_at, closing_by}
use Rattle.meaning.specs.Calls.{rec_after, blocks_after, line_by, with_curve, close_by}
use Rattle.meaning.proofs.Accepted.{is_tag}
use Rattle.demands.proofs.Held.Parts.{HeldRec, HeldBlocks}
use Rattle.demands.proofs.Held.Sites.{first_line, onward}
use Rattle.demands.proofs.Held.Start.{blocks_first}
use Rattle.demands.proofs.Held.Further.{blocks_later}

-- ---- each accepted line
pub blocks_step : (ls : List Line) (l : Line) (s : Rec) (w : Blocks) → HeldRec ls s → HeldBlocks ls s w → refusal_at ls l ≡ none
    → HeldBlocks (ls ++ (l ∷ [])) (rec_after (tag_of l) l s) (blocks_after (tag_of l) l s w)
blocks_step ls l s w r h e = go (is S (tag_of l)) refl
  where
    go : (b : Bool) → is S (tag_of l) ≡ b → HeldBlocks (ls ++ (l ∷ [])) (rec_after (tag_of l) l s) (blocks_after (tag_of l) l s w)
    go true u =
        let t : tag_of l ≡ S = sym (is_tag S (tag_of l) (rw u tt)) in
        let n : ls ≡ [] = first_line ls l e t in
        let f = h.unread n in
        rw (n, f.0, f.1) (blocks_first l t)
    go false u = blocks_later ls l s w r h e (onward ls l s r e (rw u tt))

-- ---- at the close
pub blocks_is : {ls : List Line} {s : Rec} {w : Blocks} → HeldRec ls s → HeldBlocks ls s w → filing_of s w ≡ filing_in ls
blocks_is r h = h.filing

-- no call finds record or blocks out of range
pub line_ready : {ls : List Line} {s : Rec} {w : Blocks} → HeldRec ls s → HeldBlocks ls s w → (sizes_fit w && rec_fits s) ≡ true
line_ready {s = s} {w = w} r h = rw (is_true (sizes_fit w) h.sized, is_true (rec_fits s) r.fits)

pub close_ready : {ls : List Line} {s : Rec} {w : Blocks} → HeldRec ls s → HeldBlocks ls s w → (sizes_fit w && (rec_fits s && contents_fit s w)) ≡ true
close_ready {s = s} {w = w} r h = rw (is_true (sizes_fit w) h.sized, is_true (rec_fits s) r.fits, is_true (contents_fit s w) h.contents)

-- ---- the curve that is left: none where a line or the close is refused, else that of the lines
pub curve_refused : {ls : List Line} {s : Rec} {w : Blocks} → HeldBlocks ls s w → (y : Reason) (l : Line) (n c : ℕ) → (line_by (some y) s l w).blocks.curve ≡ (refused_at n c).curve
unfolding line_by refused_at
curve_refused h y l n c = h.curve

pub curve_closed : {ls : List Line} {s : Rec} {w : Blocks} → HeldBlocks ls s w → (o : Option CloseReason) (n : ℕ) → (close_by o s w).blocks.curve ≡ (closing_by o (filing_in ls) n).curve
unfolding close_by with_curve closing_by refused_at
curve_closed h none n = ap curve_of h.filing
curve_closed h (some k) n = h.curve
