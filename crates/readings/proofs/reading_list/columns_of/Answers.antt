use mathlib.Core.Path.{refl, ap, ◌∙◌}
use Rattle.std.proofs.Common.{rules, ◌≡◌, arith, min, length, set}
use Rattle.std.proofs.lemmas.List.{length-take}
use Rattle.readings.proofs.CopiedColumns.{columns_none, columns_more, columns_first}
use Rattle.readings.proofs.reading_list.columns_of.Goals as goal

pub loop-i-init : goal.loop-i-init
loop-i-init c = columns_none _ refl

pub loop-i-preserved : goal.loop-i-preserved
loop-i-preserved c =
    let l = c.loop-i in
    let n : c.min.result ≡ min (length c.args.readings.now) 600 = search rules in
    columns_more _ l.i _ (omega (arith, c.loop-i-test.true, n, length-take c.min.result c.args.readings.now)) c.loop-i-test.true l.columns _ l.invariant refl refl (ap (λ v. set l.columns.kinds l.i v) c.from.ensures)

pub returns : goal.returns
returns c =
    let l = c.loop-i in
    l.invariant ∙ columns_first c.args.readings.now c.min.result l.i (search rules) (omega (arith, l.auto.i-end, c.loop-i-test.false))
