use Rattle.std.proofs.Common.{rules, ◌≤◌, ◌<◌, ◌^◌, slice_index_or, arith}
use Rattle.text.proofs.NumberLaws.{digit_on, value_on, tens_on, tens_few}
use Rattle.text.proofs.numbers.number.Goals as goal

pub overflow_mul-value : goal.overflow_mul-value
overflow_mul-value c = let h : c.loop-byte.value < 10 ^ 17 = tens_few _ _ c.loop-byte.invariant.below (omega arith) in omega arith

pub overflow_add-value : goal.overflow_add-value
overflow_add-value c = let h : c.loop-byte.value < 10 ^ 17 = tens_few _ _ c.loop-byte.invariant.below (omega arith) in search (rules, arith)

pub loop-byte-preserved : goal.loop-byte-preserved
loop-byte-preserved c =
    let inv = c.loop-byte.invariant in
    let b = slice_index_or c.args.field.now c.loop-byte.byte-index 0 in
    let lo : 48 ≤ b = search rules in
    let hi : b ≤ 57 = search rules in
    record {
      digits = digit_on _ _ (omega arith) inv.digits lo hi;
      value_here = value_on _ _ _ _ (omega arith) inv.value_here (search rules);
      below = tens_on _ _ _ inv.below (search (rules, arith));
    }
