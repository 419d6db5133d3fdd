use lib.ListN.{take}
use mathlib.Core.List.{map}
use Rattle.lists.specs.Lists.{flat}
use Rattle.meaning.specs.Text.{tabbed}
use Rattle.sheet.specs.Adds.{Adds}
use Rattle.sheet.proofs.Printed.put_line.Given as goal

abbrev pub invariant-loop-number : goal.invariant-loop-number
invariant-loop-number l = Adds l.initial.self l.self (flat (map tabbed (take l.number-index l.numbers)))
