use Rattle.std.proofs.Common.{◌≡◌, take}
use Rattle.readings.specs.Readings.{columns_of}
use Rattle.readings.proofs.reading_list.columns_of.Given as goal

-- the columns of the readings copied so far
abbrev pub invariant-loop-i : goal.invariant-loop-i
invariant-loop-i l = l.columns ≡ columns_of (take l.i l.first)
