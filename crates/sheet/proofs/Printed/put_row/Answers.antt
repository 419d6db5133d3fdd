use native.Mathlib.Omega.{arith}
use Rattle.sheet.proofs.Chains.{adds_none}
use Rattle.sheet.proofs.Rows.{row_none, row_some, row_length}
use Rattle.sheet.proofs.Printed.put_row.Goals as goal

pub returns-then-year-ne0 : goal.returns-then-year-ne0
returns-then-year-ne0 c =
    let y = c.args.year in
    record { row = rw (row_some y c.if-year-ne0.true) c.put_year.ensures; short = row_length y (omega arith) (omega arith) }

pub returns-else-year-ne0 : goal.returns-else-year-ne0
returns-else-year-ne0 c =
    let y = c.args.year in
    record { row = rw (row_none y c.if-year-ne0.false) (adds_none c.args.self.now); short = row_length y (omega arith) (omega arith) }
