use native.Mathlib.Omega.{arith}
use Rattle.meaning.specs.Text.{tabbed}
use Rattle.sheet.specs.SheetTexts.{line_text}
use Rattle.sheet.proofs.Chains.{adds_none, adds_then}
use Rattle.sheet.proofs.Rows.{texts_none, texts_next, texts_all}
use Rattle.sheet.proofs.Printed.put_line.Goals as goal

pub loop-number-init : goal.loop-number-init
loop-number-init c = rw (texts_none tabbed c.args.numbers.now) (adds_none _)

pub loop-number-preserved : goal.loop-number-preserved
loop-number-preserved c = rw (texts_next tabbed c.args.numbers.now c.loop-number.number-index 0 (omega arith)) (adds_then c.loop-number.invariant c.put_tabbed.ensures)

pub returns : goal.returns
unfolding line_text
returns c =
    let e = texts_all tabbed c.args.numbers.now c.loop-number.number-index (omega arith) in
    adds_then c.put.ensures (adds_then (rw e at c.loop-number.invariant) c.put-2.ensures)
