use mathlib.Core.Path.{◌≡◌}
use mathlib.Core.Bool.{true}
use Prim.Native.Nat.{◌<◌, ◌^◌}
use lib.ListN.{take}
use Rattle.lists.specs.Lists.{all}
use Rattle.text.specs.Numbers.{is_digit, value_of}
use Rattle.text.proofs.numbers.number.Given as goal

abbrev pub invariant-loop-byte : goal.invariant-loop-byte
invariant-loop-byte l = record {
  digits : all is_digit (take l.byte-index l.field) ≡ true;
  value_here : l.value ≡ value_of (take l.byte-index l.field);
  below : l.value < 10 ^ l.byte-index;
}
