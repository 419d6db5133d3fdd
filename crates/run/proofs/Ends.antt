-- The end of a run: what is returned where it has its final answer, where nothing is pending, and after a last line.
use mathlib.Core.Path.{◌≡◌, refl, sym, ◌∙◌}
use mathlib.Core.Bool.{true, false}
use mathlib.Core.List.{[], ◌∷◌}
use Prim.Native.Nat.{◌<◌, min}
use native.Mathlib.Omega.{arith}
use lib.ListN.{length, length-take}
use borrow.Author.Tests.{eqb-true, eqb-false}
use Rattle.std.proofs.Common.{◌==◌}
use Rattle.lists.specs.Lists.{tab}
use Rattle.meaning.specs.Line.{Line}
use Rattle.meaning.specs.Blocks.{Blocks}
use Rattle.meaning.specs.Record.{Rec}
use Rattle.meaning.specs.Calls.{Out, out, line_of, close_of}
use Rattle.pieces.specs.Run.{run_of, is_final, close_unless_final, last_line, finished}
use Rattle.pieces.specs.declared.joining.Pending.{Pending}
use Rattle.pieces.specs.Joined.{pending_line}
use Rattle.close.specs.FileOutcomes.{years_repr}
use Rattle.answers.specs.declared.Answer.{Answer}
use Rattle.answers.specs.declared.Answer.TheVariants.{Accepted, Refused, Reported}
use Rattle.answers.specs.Views.{answer_view}
use Rattle.close.specs.Ends.{close_out, no_years, answer_repr, years_beside, close_repr}

-- ---- with a final answer: no years stand beside it
answer_back : (a : Answer) → answer_repr (answer_view a) ≡ a
unfolding answer_repr
answer_back Accepted = refl
answer_back (Refused n c) = refl
answer_back (Reported al f n k) = refl

years_back : (a : Answer) → years_beside (answer_view a) ≡ no_years
unfolding years_beside years_repr no_years tab
years_back Accepted = refl
years_back (Refused n c) = refl
years_back (Reported al f n k) = refl

shut_answered : (o : Out) → is_final o.answer ≡ true → close_unless_final o ≡ o
unfolding close_unless_final
shut_answered o h = rw h

pub shut_open : (o : Out) → is_final o.answer ≡ false → close_unless_final o ≡ close_of o.after o.blocks
unfolding close_unless_final
shut_open o h = rw h

pub back_answered : (a : Answer) (s : Rec) (w : Blocks) → is_final (answer_view a) ≡ true → close_out a s no_years w ≡ close_repr (close_unless_final (out (answer_view a) s w))
unfolding close_repr
back_answered a s w h = rw (shut_answered (out (answer_view a) s w) h, answer_back a, years_back a)

-- ---- nothing is pending
ended_open : (o : Out) (l : Line) → is_final o.answer ≡ false → finished (run_of o l) ≡ close_unless_final (last_line o l)
unfolding finished
ended_open o l h = rw h

pub ended_answered : (o : Out) (l : Line) → is_final o.answer ≡ true → close_unless_final o ≡ finished (run_of o l)
unfolding finished
ended_answered o l e = shut_answered o e ∙ rw e

pub ended_empty : (o : Out) (p : Pending) → is_final o.answer ≡ false → (p.held == 0) ≡ true → close_unless_final o ≡ finished (run_of o (pending_line p))
unfolding last_line
ended_empty o p e z = rw (eqb-true p.held 0 z) (sym (ended_open o [] e))

-- ---- a last line
last_given : (o : Out) (l : Line) → 0 < length l → last_line o l ≡ line_of o.after l o.blocks
unfolding last_line
last_given o [] h = absurd (omega arith)
last_given o (b ∷ l) h = refl

pub ended_last : (o : Out) (p : Pending) (o' : Out) → length p.line ≡ 321 → is_final o.answer ≡ false → (p.held == 0) ≡ false
    → o' ≡ line_of o.after (pending_line p) o.blocks → close_unless_final o' ≡ finished (run_of o (pending_line p))
ended_last o p o' long e z q =
    let some_held : (p.held ≡ 0 → ⊥) = eqb-false p.held 0 z in
    let some_left : 0 < length (pending_line p) = omega (arith, length-take (min p.held 320) p.line) in
    rw (q, ended_open o (pending_line p) e, last_given o (pending_line p) some_left)
