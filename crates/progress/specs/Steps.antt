-- What a line does to an open record; the reading that it gives is not stored yet (document 01, Calls and Stops that come from the input).
use Rattle.std.specs.Prelude.{Bool, false, cond, List, [], ◌≡◌, ℕ, ◌+◌, ◌≤◌, eqb, length, get_or}
use Rattle.std.proofs.Math.Option.{Option, some, none}
use Rattle.text.specs.Fields.{field_at}
use Rattle.meaning.specs.Filing.{Kind, estimated}
use Rattle.meaning.specs.Line.{Line, Tag, X, is, tag_of, number_at, kind_of}
use Rattle.meaning.specs.Refusals.{Reason, number_of, refusal}
use Rattle.meaning.specs.Blocks.{Blocks, points_size, slots_size, daily_size}
use Rattle.meaning.specs.Record.{refused_state, Rec, in_state, axis_of_rec, before_of}
use Rattle.meaning.specs.Calls.{Answer, Out, out, accepted, refused, position_on, rec_after, blocks_after}
-- the lent blocks
use Rattle.readings.specs.Columns.{lent_blocks}

pub record Stepped : Type 0 where
  -- 0 if taken, else the refusal's number
  pub number : ℕ
  -- state and count unchanged
  pub after : Rec
  -- whether there is a reading to store; its position, index and kind
  pub reads : Bool
  pub position : ℕ
  pub index : ℕ
  pub kind : Kind
  -- readings and curve unchanged
  pub blocks : Blocks

-- a step without a reading: the reading is a fresh one
abbrev pub with_no_reading : ℕ → Rec → Blocks → Stepped
with_no_reading n s w = record { number = n; after = s; reads = false; position = 0; index = 0; kind = estimated; blocks = w }

-- a number of an X line, 0 for any other line
abbrev pub on_x : Line → ℕ → ℕ
on_x l v = cond (is X (tag_of l)) v 0

-- the blocks after the line's points, profiles or daily sum are stored
unfoldable pub stores_after : Tag → Line → Rec → Blocks → Blocks
stores_after t l s w =
    lent_blocks (blocks_after t l s w).near (blocks_after t l s w).far (blocks_after t l s w).slots (blocks_after t l s w).daily
    w.readings w.curve

unfoldable pub step_by : Option Reason → Rec → Line → Blocks → Stepped
step_by none s l w = record {
  number = 0;
  after = in_state s.state s.count (rec_after (tag_of l) l s);
  reads = is X (tag_of l);
  position = on_x l (position_on (axis_of_rec s) l);
  index = on_x l (number_at l 4);
  kind = cond (is X (tag_of l)) (kind_of (field_at l 5)) estimated;
  blocks = stores_after (tag_of l) l s w;
}
step_by (some y) s l w = with_no_reading (number_of y) s w

-- refused by 2 to 12, or taken
unfoldable pub step_of : Rec → Line → Blocks → Stepped
step_of s l w = step_by (refusal (before_of s) l) s l w

-- the answer of a line's call, by the number of its step; a refusal marks the record refused, and either way the line is counted
unfoldable pub answer_of : ℕ → ℕ → Answer
answer_of n c = cond (eqb n 0) accepted (refused n c)

unfoldable pub out_after : ℕ → Rec → Blocks → Out
out_after n s w = out (answer_of n (s.count + 1)) (in_state (cond (eqb n 0) s.state refused_state) (s.count + 1) s) w

-- ---- the blocks that a line may write, and by tag: none for S, X, B, R and E, then C, P and D
abbrev pub line_blocks : List ℕ → List ℕ → List ℕ → List ℕ → Blocks
line_blocks near far slots daily = lent_blocks near far slots daily [] []

abbrev pub no_block : Blocks
no_block = line_blocks [] [] [] []

abbrev pub point_blocks : List ℕ → List ℕ → Blocks
point_blocks near far = line_blocks near far [] []

abbrev pub slot_block : List ℕ → Blocks
slot_block slots = line_blocks [] [] slots []

abbrev pub daily_block : List ℕ → Blocks
daily_block daily = line_blocks [] [] [] daily

-- ---- the sizes of blocks, and at most 366 dates in a year
pub record LineSizes (w : Blocks) : Type 0 where
  pub near : length w.near ≡ points_size
  pub far : length w.far ≡ points_size
  pub slots : length w.slots ≡ slots_size
  pub daily : length w.daily ≡ daily_size

abbrev pub FewDates : List ℕ → Type 0
FewDates dates = (i : ℕ) → get_or dates i 0 ≤ 366
