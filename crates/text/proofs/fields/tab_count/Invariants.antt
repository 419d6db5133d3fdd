use mathlib.Core.Path.{◌≡◌}
use Prim.Native.Nat.{◌+◌, ◌≤◌}
use lib.ListN.{length}
use Rattle.std.specs.Slice.Iter.{chunks_rest, chunks_size}
use Rattle.text.specs.Fields.{tabs}
use Rattle.text.proofs.fields.tab_count.Given as goal

abbrev pub invariant-loop-part : goal.invariant-loop-part
invariant-loop-part l = record {
  counted : l.count + tabs (chunks_rest l.part-iterator) ≡ tabs l.line;
  few : l.count + length (chunks_rest l.part-iterator) ≤ length l.line;
  parts : chunks_size l.part-iterator ≡ 255;
}
