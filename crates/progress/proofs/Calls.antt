-- A step and the line's call: where the reading is stored, and that the call is the step with the reading stored and the line counted.
use mathlib.Core.Path.{◌≡◌, refl, sym}
use mathlib.Core.Bool.{Bool, true, false, cond}
use mathlib.Core.List.{List}
use mathlib.Core.Option.{Option, some, none}
use Prim.Native.Nat.{ℕ, ◌<◌}
use native.Mathlib.Omega.{arith}
use lib.ListN.{set}
use borrow.Author.Tests.{ne_eqb}
use Rattle.std.specs.Prelude.{Ok, Some}
use Rattle.readings.specs.declared.Reading.{Reading as CodeReading}
use Rattle.readings.specs.Columns.{lent_blocks}
use Rattle.text.specs.Fields.{field_at}
use Rattle.meaning.specs.Filing.{Kind, estimated, Reading, reading}
use Rattle.meaning.specs.Line.{Line, X, is, tag_of, number_at, kind_of}
use Rattle.meaning.specs.Refusals.{Reason, number_of, refusal}
use Rattle.meaning.specs.Blocks.{Blocks}
use Rattle.meaning.specs.Record.{Rec, in_state, axis_of_rec, before_of}
use Rattle.meaning.specs.Calls.{line_by, position_on, reading_at, rec_after, blocks_after}
use Rattle.meaning.proofs.Accepted.{is_tag}
use Rattle.line_checks.proofs.Chain.{number_above}
use Rattle.progress.specs.Steps.{Stepped, line_blocks, stores_after, step_by, step_of, answer_of, out_after}
use Rattle.progress.specs.declared.Progress.{Progress}
use Rattle.progress.specs.ProgressViews.{step_view}
use Rattle.progress.proofs.DatedLines.{reading_place}

-- a reading's position is on the axis; a line without a reading has position 0
pub on_axis : (s : Rec) (l : Line) (w : Blocks) (o : Stepped) → o ≡ step_of s l w → o.position < 4392
unfolding step_of step_by
on_axis s l w o e = rw e (go (refusal (before_of s) l) refl)
  where
    place : refusal (before_of s) l ≡ none → (b : Bool) → is X (tag_of l) ≡ b → cond b (position_on (axis_of_rec s) l) 0 < 4392
    place q true t = (reading_place s l q (sym (is_tag X (tag_of l) (rw t tt)))).0
    place q false t = omega arith

    go : (r : Option Reason) → refusal (before_of s) l ≡ r → (step_by r s l w).position < 4392
    go none q = place q (is X (tag_of l)) refl
    go (some y) q = omega arith

-- so is that of each reading that a step in the code gives
pub reading_on_axis : (s : Rec) (l : Line) (w : Blocks) (n : ℕ) (p : Progress) (r : CodeReading) (v : Blocks) → step_view n p (Ok (Some r)) v ≡ step_of s l w → r.position < 4392
reading_on_axis s l w n p r v e = on_axis s l w (step_view n p (Ok (Some r)) v) e

-- only an X line gives a reading, and only an X line stores one
stored_same : (b : Bool) (rs : List Reading) (k p x : ℕ) (kind : Kind)
    → cond b (set rs k (reading (cond b p 0) (cond b x 0) (cond b kind estimated))) rs ≡ cond b (set rs k (reading p x kind)) rs
stored_same true rs k p x kind = refl
stored_same false rs k p x kind = refl

-- the line's call, from the step, the readings after it and the answer
pub line_out : (s : Rec) (l : Line) (w : Blocks) (o : Stepped) → o ≡ step_of s l (line_blocks w.near w.far w.slots w.daily)
    → (rs : List Reading)
    → rs ≡ cond o.reads (set w.readings s.readings (reading o.position o.index o.kind)) w.readings
    → out_after o.number o.after (lent_blocks o.blocks.near o.blocks.far o.blocks.slots o.blocks.daily rs w.curve)
    ≡ line_by (refusal (before_of s) l) s l w
unfolding step_of step_by out_after answer_of line_by stores_after blocks_after reading_at in_state rec_after
line_out s l w o e rs er = rw (er, e) (go (refusal (before_of s) l))
  where
    v : Blocks
    v = line_blocks w.near w.far w.slots w.daily

    go : (r : Option Reason)
        → out_after (step_by r s l v).number (step_by r s l v).after
        (lent_blocks (step_by r s l v).blocks.near (step_by r s l v).blocks.far (step_by r s l v).blocks.slots (step_by r s l v).blocks.daily
        (cond (step_by r s l v).reads (set w.readings s.readings (reading (step_by r s l v).position (step_by r s l v).index (step_by r s l v).kind)) w.readings) w.curve)
        ≡ line_by r s l w
    go none = rw (stored_same (is X (tag_of l)) w.readings s.readings (position_on (axis_of_rec s) l) (number_at l 4) (kind_of (field_at l 5)))
    go (some y) = rw (ne_eqb (number_of y) 0 (number_above y))
