use mathlib.Core.Path.{sym}
use Prim.Native.Nat.{◌≤◌}
use Rattle.std.proofs.Common.{rules}
use Rattle.note.specs.Peaks.{annex1}
use Rattle.note.proofs.PeakDays.{starts, part_is, no_part}
use Rattle.note.proofs.peaks.peak_days.Goals as goal

pub returns-then-not-contains : goal.returns-then-not-contains
returns-then-not-contains c = sym (no_part c.args.year (λ h g. absurd (search rules)))

pub returns : goal.returns
unfolding starts annex1
returns c =
    let h : 2007 ≤ c.args.year = search rules in
    let g : c.args.year ≤ 2021 = search rules in
    part_is c.args.year h g
