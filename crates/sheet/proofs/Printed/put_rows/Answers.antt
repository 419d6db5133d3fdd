use mathlib.Core.Path.{◌≡◌}
use native.Mathlib.Omega.{arith}
use lib.ListN.{length}
use borrow.Author.Rules.{rules}
use Rattle.close.specs.FileOutcomes.{no_year}
use Rattle.sheet.proofs.Chains.{adds_none, adds_then}
use Rattle.sheet.proofs.Rows.{rows_none, rows_next, rows_more, rows_all}
use Rattle.sheet.proofs.Printed.put_rows.Goals as goal

pub loop-year-init : goal.loop-year-init
loop-year-init c = rw (rows_none c.args.years) (adds_none c.args.self.now, omega arith, omega arith)

pub loop-year-preserved : goal.loop-year-preserved
loop-year-preserved c =
    let l = c.loop-year in
    let p = c.put_row.ensures in
    let n : length c.args.years ≡ 10 = (let g = c.well_formed in search rules) in
    (rw (rows_next c.args.years l.year-index no_year (omega arith)) (adds_then l.invariant.0 p.row), rows_more c.args.years l.year-index no_year (omega arith) l.invariant.1 p.short, omega (arith, n))

pub returns : goal.returns
returns c =
    let l = c.loop-year in
    let e = rows_all c.args.years l.year-index (omega arith) in
    record { rows = rw e at l.invariant.0; short = omega (arith, l.invariant.2, rw e at l.invariant.1) }
