-- A run without a final answer holds the lines applied to it, at most 8,031, and at most 320 pending bytes.
use mathlib.Core.Path.{◌≡◌, refl, sym, ◌∙◌}
use mathlib.Core.Bool.{Bool, true, false, cond, true≢false}
use mathlib.Core.List.{List, [], ◌∷◌, ◌++◌}
use mathlib.Core.Option.{Option, some, none}
use Prim.Native.Nat.{ℕ, ◌+◌, ◌*◌, ◌≤◌}
use native.Mathlib.Omega.{arith}
use lib.Dec.{T, eqb, ltb}
use lib.ListN.{length, length-append}
use borrow.Author.Tests.{ltb-true, ltb-false}
use Rattle.lists.proofs.Tests.{is_true}
use Rattle.meaning.specs.Line.{Line}
use Rattle.meaning.specs.Refusals.{Reason}
use Rattle.meaning.specs.File.{refusal_at}
use Rattle.meaning.specs.Blocks.{Blocks, sizes_fit}
use Rattle.meaning.specs.Record.{Rec}
use Rattle.meaning.specs.Calls.{opening_of, line_by, line_of}
use Rattle.demands.proofs.Held.Rec.{rec_step}
use Rattle.demands.proofs.Held.Blocks.{blocks_step}
use Rattle.demands.proofs.Held.Follows.{few_lines}
use Rattle.demands.proofs.Demand2.{Held, held_fresh, line_is}
use Rattle.pieces.specs.Run.{Run, run_of, is_final, started, applied, longer, fed_byte, fed}
use Rattle.pieces.specs.Promise.{AnswerComes}
use Rattle.pieces.proofs.LongLines.{long_refused}

-- ---- a line that is taken is held
judged_held : (es : List Line) (s : Rec) (w : Blocks) (l : Line) → Held es s w → (o : Option Reason) → refusal_at es l ≡ o
    → is_final (line_by o s l w).answer ≡ false → Held (es ++ (l ∷ [])) (line_by o s l w).after (line_by o s l w).blocks
unfolding line_by
judged_held es s w l h none e n = record { rec = rec_step es l s h.rec e; blocks = blocks_step es l s w h.rec h.blocks e }
judged_held es s w l h (some y) e n = absurd (true≢false n)

pub line_held : (es : List Line) (s : Rec) (w : Blocks) (l : Line) → Held es s w
    → is_final (line_of s l w).answer ≡ false → Held (es ++ (l ∷ [])) (line_of s l w).after (line_of s l w).blocks
line_held es s w l h = rw (line_is es s w l h) (judged_held es s w l h (refusal_at es l) refl)

-- ---- after so many bytes
pub record Live (n : ℕ) (r : Run) : Type 0 where
  pub lines : List Line
  pub held : Held lines r.out.after r.out.blocks
  pub few : n ≤ 321 * length lines + length r.pending
  pub short : length r.pending ≤ 320

-- where there is no final answer
abbrev pub IfLive : ℕ → Run → Type 0
IfLive n r = is_final r.out.answer ≡ false → Live n r

given_live : (n : ℕ) (r : Run) → Live n r → IfLive (n + 1) (applied r.out r.pending)
unfolding applied
given_live n r v a = record {
  lines = v.lines ++ (r.pending ∷ []);
  held = line_held v.lines r.out.after r.out.blocks r.pending v.held a;
  few = omega (arith, v.few, v.short, length-append v.lines (r.pending ∷ []));
  short = omega arith;
}

longer_live : (n : ℕ) (r : Run) (b : ℕ) → Live n r → IfLive (n + 1) (longer r.out (r.pending ++ (b ∷ [])))
unfolding longer applied
longer_live n r b v = go (ltb 320 (length (r.pending ++ (b ∷ [])))) refl
  where
    go : (c : Bool) → ltb 320 (length (r.pending ++ (b ∷ []))) ≡ c
        → IfLive (n + 1) (cond c (run_of (line_of r.out.after (r.pending ++ (b ∷ [])) r.out.blocks) []) (run_of r.out (r.pending ++ (b ∷ []))))
    go true t a = absurd (true≢false (sym (long_refused r.out.after (r.pending ++ (b ∷ [])) r.out.blocks (ltb-true 320 (length (r.pending ++ (b ∷ []))) t)) ∙ a))
    go false t a = record {
      lines = v.lines;
      held = v.held;
      few = omega (arith, v.few, length-append r.pending (b ∷ []));
      short = ltb-false 320 (length (r.pending ++ (b ∷ []))) t;
    }

byte_live : (n : ℕ) (r : Run) (b : ℕ) → IfLive n r → IfLive (n + 1) (fed_byte r b)
unfolding fed_byte
byte_live n r b v = go (is_final r.out.answer) (eqb b 10) refl
  where
    go : (a c : Bool) → is_final r.out.answer ≡ a → IfLive (n + 1) (cond a r (cond c (applied r.out r.pending) (longer r.out (r.pending ++ (b ∷ [])))))
    go true c e a = absurd (true≢false (sym e ∙ a))
    go false true e a = given_live n r (v e) a
    go false false e a = longer_live n r b (v e) a

pub fed_live : (bs : List ℕ) (n : ℕ) (r : Run) → IfLive n r → IfLive (n + length bs) (fed r bs)
unfolding fed
fed_live [] n r v a = let q : n + 0 ≡ n = omega arith in rw q (v a)
fed_live (b ∷ bs) n r v a =
    let q : n + length (b ∷ bs) ≡ (n + 1) + length bs = omega arith in
    rw q (fed_live bs (n + 1) (fed_byte r b) (byte_live n r b v) a)

start_live : (s : Rec) (w : Blocks) → T (sizes_fit w) → Live 0 (started s w)
unfolding started opening_of
start_live s w t = rw (is_true (sizes_fit w) t) (record { lines = []; held = held_fresh; few = omega arith; short = omega arith })

pub answer_comes : AnswerComes
answer_comes s w t bs a =
    let v = fed_live bs 0 (started s w) (λ e. start_live s w t) a in
    omega (arith, few_lines v.held.rec, v.few, v.short)
