-- The sizes of the lent blocks: fresh blocks have them, and a line leaves them.
use mathlib.Core.Path.{◌≡◌, refl, ◌∙◌}
use mathlib.Core.Bool.{Bool, true, false, cond}
use mathlib.Core.List.{List}
use Prim.Native.Nat.{ℕ}
use lib.ListN.{length, set, length-set, length-replicate}
use lib.Seq.{sets, length-sets}
use Rattle.meaning.specs.Level.{missing_entry}
use Rattle.meaning.specs.Line.{Line, Tag, X, D, is, number_at}
use Rattle.meaning.specs.Blocks.{Blocks, missing_point, points_size, slots_size, daily_size, readings_size, curve_size, fresh_reading, fresh_blocks}
use Rattle.meaning.specs.Record.{Rec, axis_of_rec}
use Rattle.meaning.specs.Calls.{position_on, reading_at, blocks_after}
use Rattle.meaning.proofs.Sizes.{Sizes}

pub fresh_sizes : Sizes fresh_blocks
unfolding fresh_blocks
fresh_sizes = record {
  near = length-replicate points_size missing_point;
  far = length-replicate points_size missing_point;
  slots = length-replicate {A = ℕ} slots_size 0;
  daily = length-replicate {A = ℕ} daily_size 0;
  readings = length-replicate readings_size fresh_reading;
  curve = length-replicate curve_size missing_entry;
}

row_size_lem : (b : Bool) (xs : List ℕ) (a : ℕ) (vs : List ℕ) → length (cond b (sets xs a vs) xs) ≡ length xs
row_size_lem true xs a vs = length-sets xs a vs
row_size_lem false xs a vs = refl

place_size : {A : Type 0} (b : Bool) (xs : List A) (a : ℕ) (v : A) → length (cond b (set xs a v) xs) ≡ length xs
place_size true xs a v = length-set xs a v
place_size false xs a v = refl

pub sizes_after : (t : Tag) (l : Line) (s : Rec) (w : Blocks) → Sizes w → Sizes (blocks_after t l s w)
unfolding blocks_after
sizes_after t l s w z = record {
  near = rw row_size_lem z.near;
  far = rw row_size_lem z.far;
  slots = rw row_size_lem z.slots;
  daily = place_size (is D t) w.daily (position_on (axis_of_rec s) l) (number_at l 4) ∙ z.daily;
  readings = place_size (is X t) w.readings s.readings (reading_at (axis_of_rec s) l) ∙ z.readings;
  curve = z.curve;
}
