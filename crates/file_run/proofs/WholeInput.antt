-- A run over an input that comes in one piece: the text of its sheet, and the NCC on it.
use mathlib.Core.Path.{◌≡◌, ap, ◌∙◌}
use mathlib.Core.List.{List, [], ◌∷◌, append-nil}
use Prim.Native.Nat.{ℕ}
use lib.Dec.{T}
use Rattle.lists.specs.Lists.{flat}
use Rattle.meaning.specs.Input.{lines_of}
use Rattle.meaning.specs.Text.{text_of}
use Rattle.meaning.specs.Sheet.{sheet_of}
use Rattle.meaning.specs.Blocks.{Blocks, sizes_fit}
use Rattle.meaning.specs.Record.{Rec}
use Rattle.pieces.specs.Run.{Run, started, fed, fed_all, finished, ran_over}
use Rattle.pieces.proofs.Printed.{ncc_shown}
use Rattle.close.specs.declared.outcome.file.YearRow.{YearRow}
use Rattle.answers.specs.declared.Answer.{Answer}
use Rattle.close.specs.Ends.{CloseOut, close_out, close_repr}
use Rattle.sheet.specs.declared.Printed.{Printed}
use Rattle.sheet.specs.SheetTexts.{sheet_text, Holds}
use Rattle.run.proofs.Texts.{sheet_text_lem}
use Rattle.file_run.specs.PrintedSheets.{SheetOf, NccWithin}

one_piece : (bs : List ℕ) → flat (bs ∷ []) ≡ bs
unfolding flat
one_piece bs = append-nil bs

-- what the close returns, as text
pub whole_text : (r : Run) (s : Rec) (w : Blocks) → T (sizes_fit w) → (bs : List ℕ) → r ≡ fed (started s w) bs
    → sheet_text (close_repr (finished r)).answer (close_repr (finished r)).years ≡ text_of (sheet_of (lines_of bs))
unfolding ran_over fed_all
whole_text r s w z bs q = rw q (rw (one_piece bs) at (sheet_text_lem s w z (bs ∷ [])))

-- a run that is started, fed and ended
pub whole_sheet : (s : Rec) (w : Blocks) → T (sizes_fit w) → (o r : Run) (bs : List ℕ) → o ≡ started s w → r ≡ fed o bs
    → (a : Answer) (s' : Rec) (ys : List YearRow) (v : Blocks) → close_out a s' ys v ≡ close_repr (finished r)
    → (p : Printed) → Holds p (sheet_text a ys) → SheetOf p bs
whole_sheet s w z o r bs b q a s' ys v e p h =
    let ea : a ≡ (close_repr (finished r)).answer = ap (λ (x : CloseOut). x.answer) e in
    let ey : ys ≡ (close_repr (finished r)).years = ap (λ (x : CloseOut). x.years) e in
    rw (whole_text r s w z bs (q ∙ ap (λ (x : Run). fed x bs) b)) at (rw (ea, ey) at h)

pub ncc_within : (p : Printed) (bs : List ℕ) → SheetOf p bs → NccWithin p bs
ncc_within p bs h = rw h.bytes (ncc_shown bs)
