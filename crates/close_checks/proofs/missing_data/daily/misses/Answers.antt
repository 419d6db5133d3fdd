use Prim.Native.Nat.{◌+◌, ◌-◌, ◌/◌}
use lib.Dec.{eqb}
use lib.ListN.{get_or}
use Rattle.std.proofs.Common.{rules, tests}
use Rattle.lists.proofs.Chains.{any_between}
use Rattle.close_checks.specs.Closing.{misses_between}
use Rattle.close_checks.proofs.missing_data.daily.misses.Goals as goal

pub returns : goal.returns
unfolding misses_between
returns c =
    let a = c.args in
    any_between (λ z. eqb (get_or a.dates.now z 0) 0) (a.a / 366) ((a.b - 1) / 366 + 1) _ _ _ c.any.ensures.ran (cc) (λ x b q k. search (rules, tests))
