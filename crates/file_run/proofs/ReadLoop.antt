-- A run that reads on, and the sheet that it returns: it has its final answer before the reads are used up.
use mathlib.Core.Path.{◌≡◌, refl, ap, sym, ◌∙◌}
use mathlib.Core.Logic.{◌⊎◌, inl, inr}
use mathlib.Core.Bool.{Bool, true, false, true≢false}
use mathlib.Core.List.{List, [], ◌++◌, append_assoc, append-nil}
use Prim.Native.Nat.{ℕ, ◌+◌, ◌≤◌, ◌<◌}
use native.Mathlib.Omega.{arith}
use lib.Dec.{T}
use lib.ListN.{length, length-append}
use Rattle.std.specs.Prelude.{Option, Some, None, IfSome}
use Rattle.std.specs.Io.KnownBytes.{Consumes, IsAtEnd}
use Rattle.meaning.specs.Input.{lines_of}
use Rattle.meaning.specs.Text.{text_of}
use Rattle.meaning.specs.Sheet.{sheet_of}
use Rattle.meaning.specs.Blocks.{Blocks, sizes_fit}
use Rattle.meaning.specs.Record.{Rec}
use Rattle.pieces.specs.Run.{Run, is_final, started, fed, finished}
use Rattle.pieces.specs.Promise.{most_input}
use Rattle.pieces.proofs.Feeding.{fed_append, kept}
use Rattle.pieces.proofs.Answers.{answer_comes}
use Rattle.close.specs.declared.outcome.file.YearRow.{YearRow}
use Rattle.answers.specs.declared.Answer as answers
use Rattle.close.specs.Ends.{CloseOut, close_out, close_repr}
use Rattle.sheet.specs.declared.Printed.{Printed}
use Rattle.sheet.specs.SheetTexts.{sheet_text, Holds}
use Rattle.file_run.specs.declared.ends.End.{End}
use Rattle.file_run.specs.declared.ends.End.TheVariants.{Answer, Input}
use Rattle.file_run.specs.ReadEnds.{Stands, Unanswered, LastPiece, StopsAtAnswer, ReadOn}
use Rattle.file_run.specs.PrintedSheets.{SheetOf, PrintsSheet}
use Rattle.file_run.proofs.WholeInput.{whole_text}

-- ---- bytes taken one part after the other
none_taken : (a : Option (List ℕ)) → Consumes a a []
none_taken None = tt
none_taken (Some xs) = refl

taken_then : (a b c : Option (List ℕ)) (x y : List ℕ) → Consumes a b x → Consumes b c y → Consumes a c (x ++ y)
taken_then None b c x y p q = tt
taken_then (Some xs) None c x y p q = absurd p
taken_then (Some xs) (Some ys) None x y p q = absurd q
taken_then (Some xs) (Some ys) (Some zs) x y p q = p ∙ rw q (sym (append_assoc x y zs))

-- ---- after n reads, each of one byte or more
pub record Going (a b : Option (List ℕ)) (s r : Run) (n : ℕ) : Type 0 where
  pub bytes : List ℕ
  pub so_far : r ≡ fed s bytes
  pub taken : Consumes a b bytes
  pub many : n ≤ length bytes

pub going_first : (a : Option (List ℕ)) (s : Run) → Going a a s s 0
unfolding fed
going_first a s = record { bytes = []; so_far = refl; taken = none_taken a; many = omega arith }

module _ (a b : Option (List ℕ)) (s r : Run) (n : ℕ) (g : Going a b s r n) where
  pub going_next : (c : Option (List ℕ)) (r' : Run) (piece : List ℕ) → r' ≡ fed r piece → Consumes b c piece → 0 < length piece → Going a c s r' (n + 1)
  going_next c r' piece q p some = record {
    bytes = g.bytes ++ piece;
    so_far = q ∙ ap (λ (x : Run). fed x piece) g.so_far ∙ sym (fed_append s g.bytes piece);
    taken = taken_then a b c g.bytes piece g.taken p;
    many = omega (arith, length-append g.bytes piece, g.many);
  }

-- ---- the same, and no read after a final answer
pub record Waiting (a b : Option (List ℕ)) (s r : Run) (n : ℕ) : Type 0 where
  pub going : Going a b s r n
  pub unanswered : Unanswered s going.bytes

pub waiting_first : (a : Option (List ℕ)) (s : Run) → Waiting a a s s 0
unfolding going_first
waiting_first a s = record { going = going_first a s; unanswered = inl refl }

module _ (a b : Option (List ℕ)) (s r : Run) (n : ℕ) (w : Waiting a b s r n) where
  pub waiting_next : (c : Option (List ℕ)) (r' : Run) (piece : List ℕ) → r' ≡ fed r piece → Consumes b c piece → 0 < length piece → is_final r'.out.answer ≡ false
      → Waiting a c s r' (n + 1)
  waiting_next c r' piece q p some h =
      let g : Going a c s r' (n + 1) = going_next a b s r n w.going c r' piece q p some in
      record { going = g; unanswered = inr (sym (ap (λ (x : Run). is_final x.out.answer) g.so_far) ∙ h) }

  pub at_input : (c : Option (List ℕ)) → Consumes b c [] → IsAtEnd c → ReadOn a c s r Input
  unfolding Stands StopsAtAnswer
  at_input c p e = record {
    bytes = w.going.bytes ++ [];
    so_far = rw (append-nil w.going.bytes) w.going.so_far;
    taken = taken_then a b c w.going.bytes [] w.going.taken p;
    stands = e;
    stops = rw (append-nil w.going.bytes) w.unanswered;
  }

  pub at_answer : (c : Option (List ℕ)) (r' : Run) (piece : List ℕ) → r' ≡ fed r piece → Consumes b c piece → length piece ≤ 65536 → is_final r'.out.answer ≡ true
      → ReadOn a c s r' Answer
  unfolding Stands StopsAtAnswer
  at_answer c r' piece q p most h = record {
    bytes = w.going.bytes ++ piece;
    so_far = q ∙ ap (λ (x : Run). fed x piece) w.going.so_far ∙ sym (fed_append s w.going.bytes piece);
    taken = taken_then a b c w.going.bytes piece w.going.taken p;
    stands = inl h;
    stops = record { before = w.going.bytes; piece = piece; parts = refl; size = most; unanswered = w.unanswered };
  }

  pub used_up : most_input ≤ n → ReadOn a b s r Answer
  unfolding Stands StopsAtAnswer
  used_up h = record {
    bytes = w.going.bytes;
    so_far = w.going.so_far;
    taken = w.going.taken;
    stands = inr (omega (arith, w.going.many));
    stops = record { before = w.going.bytes; piece = []; parts = sym (append-nil w.going.bytes); size = omega arith; unanswered = w.unanswered };
  }

-- ---- the end: the reads are never used up before the final answer
module _ (f : Rec) (w : Blocks) (sized : T (sizes_fit w)) (r : Run) (bs : List ℕ) (so_far : r ≡ fed (started f w) bs) where
  has_answer : (is_final r.out.answer ≡ true) ⊎ (most_input ≤ length bs) → is_final r.out.answer ≡ true
  has_answer s = go (is_final r.out.answer) refl s
    where
      go : (b : Bool) → is_final r.out.answer ≡ b → (is_final r.out.answer ≡ true) ⊎ (most_input ≤ length bs) → b ≡ true
      go true e s = refl
      go false e (inl y) = absurd (true≢false (sym y ∙ e))
      go false e (inr y) = absurd (omega (arith, answer_comes f w sized bs (sym (ap (λ (x : Run). is_final x.out.answer) so_far) ∙ e)))

  -- whatever bytes come after the final answer
  by_answer : is_final r.out.answer ≡ true → (cs : List ℕ)
      → sheet_text (close_repr (finished r)).answer (close_repr (finished r)).years ≡ text_of (sheet_of (lines_of (bs ++ cs)))
  by_answer h cs =
      whole_text r f w sized (bs ++ cs)
      (sym (kept r cs h) ∙ ap (λ (x : Run). fed x cs) so_far ∙ sym (fed_append (started f w) bs cs))

  by_input : sheet_text (close_repr (finished r)).answer (close_repr (finished r)).years ≡ text_of (sheet_of (lines_of bs))
  by_input = whole_text r f w sized bs so_far

  module _ (p : Printed) (h : Holds p (sheet_text (close_repr (finished r)).answer (close_repr (finished r)).years)) where
    handed : (e : End) (b : Option (List ℕ)) → Stands e r b bs → PrintsSheet e p
    unfolding PrintsSheet Stands
    handed Answer b s = (bs, λ cs. rw (by_answer (has_answer s) cs) at h)
    handed Input b s = (bs, rw by_input at h)

    known : (e : End) (a b : Option (List ℕ)) → Consumes a b bs → Stands e r b bs → IfSome a (λ xs. SheetOf p xs)
    unfolding Stands
    known e None b t s = tt
    known e (Some xs) None t s = absurd t
    known Answer (Some xs) (Some ys) t s = rw t (rw (by_answer (has_answer s) ys) at h)
    known Input (Some xs) (Some ys) t s = rw (t, s, append-nil bs) (rw by_input at h)

-- what the close returns, as text
pub hands_out : (f : Rec) (w : Blocks) → T (sizes_fit w) → (a b : Option (List ℕ)) (s r : Run) (e : End) → s ≡ started f w → ReadOn a b s r e
    → (an : answers.Answer) (st : Rec) (ys : List YearRow) (v : Blocks) (p : Printed) → close_out an st ys v ≡ close_repr (finished r) → Holds p (sheet_text an ys)
    → PrintsSheet e p × IfSome a (λ xs. SheetOf p xs)
hands_out f w z a b s r e i d an st ys v p q h =
    let qa : an ≡ (close_repr (finished r)).answer = ap (λ (x : CloseOut). x.answer) q in
    let qy : ys ≡ (close_repr (finished r)).years = ap (λ (x : CloseOut). x.years) q in
    let m : r ≡ fed (started f w) d.bytes = d.so_far ∙ ap (λ (x : Run). fed x d.bytes) i in
    let k = rw (qa, qy) at h in
    (handed f w z r d.bytes m p k e b d.stands, known f w z r d.bytes m p k e a b d.taken d.stands)
