-- Demand 1: every call answers with a level, an acceptance or a number of document 01, and a refusal leaves every lent list.
use mathlib.Core.Path.{◌≡◌, refl}
use mathlib.Core.Logic.{inl, inr}
use mathlib.Core.Bool.{Bool, true, false, ◌&&◌, cond}
use mathlib.Core.List.{List, [], ◌∷◌}
use mathlib.Core.Option.{Option, some, none}
use Prim.Native.Nat.{◌≤◌}
use native.Mathlib.Omega.{arith}
use Rattle.meaning.specs.Line.{Line}
use Rattle.meaning.specs.Refusals.{Reason, illegible, unknown, misplaced, malformed, outside, no_date, not_later, too_soon, falling, too_many, miscounted, number_of, refusal}
use Rattle.meaning.specs.Closing.{CloseReason, no_end, partial, no_data, zero_total, too_high, close_number, closing_refusal}
use Rattle.meaning.specs.Blocks.{Blocks, sizes_fit, fresh_blocks}
use Rattle.meaning.specs.Record.{is_open, Rec, fresh_rec, rec_fits, contents_fit, before_of, filing_of}
use Rattle.meaning.specs.Calls.{Answer, accepted, refused, reported, Out, out, leaves, opening_of, line_by, line_of, close_by, close_of}
use Rattle.meaning.specs.Sheet.{Outcome}
use Rattle.demands.specs.CallLists.{Call, opening, line, close, called, sheet_of_answer, outcome_of_out, onward_by, onward, run_from, run}
use Rattle.demands.specs.Demands.{Number, Unchanged, Answers, Ends, Demand-1}

same : (w : Blocks) → Unchanged w w
same w = record { near = refl; far = refl; slots = refl; daily = refl; readings = refl; curve = refl }

-- ---- the numbers
line_number : (y : Reason) → (1 ≤ number_of y) × (number_of y ≤ 13)
unfolding number_of
line_number illegible = omega arith
line_number unknown = omega arith
line_number misplaced = omega arith
line_number malformed = omega arith
line_number outside = omega arith
line_number no_date = omega arith
line_number not_later = omega arith
line_number too_soon = omega arith
line_number falling = omega arith
line_number too_many = omega arith
line_number miscounted = omega arith

close_number_lem : (k : CloseReason) → (13 ≤ close_number k) × (close_number k ≤ 18)
unfolding close_number
close_number_lem no_end = omega arith
close_number_lem partial = omega arith
close_number_lem no_data = omega arith
close_number_lem zero_total = omega arith
close_number_lem too_high = omega arith

-- ---- each call
opening_answers : (s : Rec) (w : Blocks) → Answers opening w (opening_of s w) (opening_of s w).answer
unfolding opening_of leaves Answers Number
opening_answers s w = go (sizes_fit w)
  where
    pick : Bool → Out
    pick a = cond a (out accepted fresh_rec fresh_blocks) (leaves 1 s w)

    go : (a : Bool) → Answers opening w (pick a) (pick a).answer
    go true = tt
    go false = (refl, same w)

judged_answers : (o : Option Reason) (s : Rec) (l : Line) (w : Blocks) → Answers (line l) w (line_by o s l w) (line_by o s l w).answer
unfolding line_by Answers Number
judged_answers none s l w = tt
judged_answers (some y) s l w = (line_number y, same w)

line_answers : (s : Rec) (l : Line) (w : Blocks) → Answers (line l) w (line_of s l w) (line_of s l w).answer
unfolding line_of leaves Answers Number
line_answers s l w = go (sizes_fit w && rec_fits s) (is_open s.state)
  where
    pick : Bool → Bool → Out
    pick a b = cond a (cond b (line_by (refusal (before_of s) l) s l w) (leaves 13 s w)) (leaves 1 s w)

    go : (a b : Bool) → Answers (line l) w (pick a b) (pick a b).answer
    go true true = judged_answers (refusal (before_of s) l) s l w
    go true false = (omega arith, same w)
    go false b = (omega arith, same w)

closed_answers : (o : Option CloseReason) (s : Rec) (w : Blocks) → Answers close w (close_by o s w) (close_by o s w).answer
unfolding close_by Answers Number
closed_answers none s w = tt
closed_answers (some k) s w = (inr (close_number_lem k), same w)

close_answers : (s : Rec) (w : Blocks) → Answers close w (close_of s w) (close_of s w).answer
unfolding close_of leaves Answers Number
close_answers s w = go (sizes_fit w && (rec_fits s && contents_fit s w)) (is_open s.state)
  where
    pick : Bool → Bool → Out
    pick a b = cond a (cond b (close_by (closing_refusal (filing_of s w)) s w) (leaves 13 s w)) (leaves 1 s w)

    go : (a b : Bool) → Answers close w (pick a b) (pick a b).answer
    go true true = closed_answers (closing_refusal (filing_of s w)) s w
    go true false = (inr (omega arith), same w)
    go false b = (inl refl, same w)

answers : (k : Call) (s : Rec) (w : Blocks) → Answers k w (called k s w) (called k s w).answer
unfolding called
answers opening s w = opening_answers s w
answers (line l) s w = line_answers s l w
answers close s w = close_answers s w

-- ---- a run
opening_ends : (w : Blocks) (o : Out) (a : Answer) → Answers opening w o a → (r : Outcome) → o.answer ≡ a → Ends r.sheet → Ends (onward_by a o r).sheet
unfolding onward_by outcome_of_out Answers Ends sheet_of_answer Number
opening_ends w o accepted h r e n = n
opening_ends w o (refused n c) h r e m = rw e (rw h.0 (omega arith))
opening_ends w o (reported x) h r e m = absurd h

line_ends : (w : Blocks) (l : Line) (o : Out) (a : Answer) → Answers (line l) w o a → (r : Outcome) → o.answer ≡ a → Ends r.sheet → Ends (onward_by a o r).sheet
unfolding onward_by outcome_of_out Answers Ends sheet_of_answer Number
line_ends w l o accepted h r e n = n
line_ends w l o (refused n c) h r e m = rw e (omega (arith, h.0))
line_ends w l o (reported x) h r e m = absurd h

close_ends : (w : Blocks) (a : Answer) (o : Out) → Answers close w o a → Ends (sheet_of_answer a)
unfolding Answers Ends sheet_of_answer Number
close_ends w accepted o h = absurd h
close_ends w (refused n c) o h = elim h.0 [ inl e ↦ omega arith | inr p ↦ omega arith ]
close_ends w (reported x) o h = tt

lines_end : (ls : List Line) (s : Rec) (w : Blocks) → Ends (run_from s w ls).sheet
unfolding run_from called outcome_of_out onward
lines_end [] s w = close_ends w (close_of s w).answer (close_of s w) (close_answers s w)
lines_end (l ∷ ls) s w = line_ends w l (line_of s l w) (line_of s l w).answer (line_answers s l w) _ refl (lines_end ls _ _)

runs : (s : Rec) (w : Blocks) (ls : List Line) → Ends (run s w ls).sheet
unfolding run called onward
runs s w ls = opening_ends w (opening_of s w) (opening_of s w).answer (opening_answers s w) _ refl (lines_end ls _ _)

pub demand_1 : Demand-1
demand_1 = record { calls = answers; runs = runs }
