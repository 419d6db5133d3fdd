use native.Mathlib.Omega.{arith}
use lib.ListN.{length-append}
use Rattle.meaning.specs.Text.{level_text}
use Rattle.sheet.specs.SheetTexts.{rows_text, sheet_text}
use Rattle.sheet.proofs.Chains.{adds_then}
use Rattle.sheet.proofs.Rows.{level_length, refusal_length, refusal_is, level_is}
use Rattle.sheet.proofs.Printed.put_sheet.Goals as goal

pub returns-in-Accepted : goal.returns-in-Accepted
unfolding sheet_text
returns-in-Accepted c = rw c.in-Accepted.is (record { sheet = rw (refusal_is 0 0) at c.put_line.ensures; short = omega (arith, refusal_length 0 0 (omega arith) (omega arith)) })

pub returns-in-Refused : goal.returns-in-Refused
unfolding sheet_text
returns-in-Refused c =
    let v = c.in-Refused in
    rw v.is (record { sheet = rw (refusal_is v.number v.count) at c.put_line-in-Refused.ensures; short = omega (arith, refusal_length v.number v.count (omega arith) (omega arith)) })

pub returns-in-Reported : goal.returns-in-Reported
unfolding sheet_text
returns-in-Reported c =
    let v = c.in-Reported in
    rw v.is (record {
      sheet = adds_then (rw (level_is v.al v.filiere v.level.0 v.points) at c.put_line-in-Reported.ensures) c.put_rows.ensures.rows;
      short = omega (arith, length-append (level_text v.al v.filiere v.level.0 v.points) (rows_text c.args.years), level_length v.al v.filiere v.level.0 v.points (omega arith) (omega arith) (omega arith) (omega arith), c.put_rows.ensures.short);
    })
