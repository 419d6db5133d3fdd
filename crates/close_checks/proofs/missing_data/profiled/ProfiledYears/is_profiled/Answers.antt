use mathlib.Core.Bool.{false, ◌&&◌}
use lib.ListN.{get_or}
use Rattle.std.proofs.Common.{rules, tests}
use Rattle.lists.proofs.Chains.{any_below}
use Rattle.validity.specs.Columns.{interval_start, interval_end, year_start, meets_winter}
use Rattle.close_checks.specs.Totals.{is_profiled}
use Rattle.close_checks.proofs.missing_data.profiled.ProfiledYears.is_profiled.Goals as goal

pub returns : goal.returns
unfolding is_profiled
returns c =
    let y = c.args.self.now in let ps = y.readings.positions.now in
    any_below (λ k. get_or y.valid k false && meets_winter (year_start k) (interval_start ps c.args.i) (interval_end ps c.args.i)) y.history.count _ _ _ c.any.ensures.ran (cc) (λ x b q k. search (rules, tests))
