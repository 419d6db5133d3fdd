use lib.ListN.{length, take}
use Prim.Native.Nat.{◌*◌, ◌≤◌}
use Rattle.sheet.specs.Adds.{Adds}
use Rattle.sheet.specs.SheetTexts.{rows_text}
use Rattle.sheet.proofs.Printed.put_rows.Given as goal

abbrev pub invariant-loop-year : goal.invariant-loop-year
invariant-loop-year l =
    Adds l.initial.self l.self (rows_text (take l.year-index l.year-items)) × (length (rows_text (take l.year-index l.year-items)) ≤ 46 * l.year-index) × (l.year-index ≤ 10)
