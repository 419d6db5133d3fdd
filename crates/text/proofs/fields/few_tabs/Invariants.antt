use mathlib.Core.Path.{◌≡◌}
use Prim.Native.Nat.{◌≤◌}
use lib.ListN.{take}
use Rattle.text.specs.Fields.{tabs}
use Rattle.text.proofs.fields.few_tabs.Given as goal

abbrev pub invariant-loop-byte : goal.invariant-loop-byte
invariant-loop-byte l = record { counted : l.count ≡ tabs (take l.byte-index l.part); few : l.count ≤ l.byte-index }
