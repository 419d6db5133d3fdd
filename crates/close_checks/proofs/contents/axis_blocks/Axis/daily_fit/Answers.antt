use mathlib.Core.Path.{◌∙◌}
use Rattle.std.proofs.Common.{rules, tests}
use Rattle.std.proofs.lemmas.Iterator.{YieldsList-from_slice}
use Rattle.std.proofs.lemmas.Iterator.Consumers.{YieldsList-from_enumerate}
use Rattle.std.proofs.lemmas.Iterator.Search.{all_from_yields_List}
use Rattle.lists.proofs.Chains.{all_numbered}
use Rattle.meaning.specs.Record.{daily_fits}
use Rattle.close_checks.specs.Axis.{placed_at, day_fits}
use Rattle.close_checks.proofs.contents.axis_blocks.Axis.daily_fit.Goals as goal

pub returns : goal.returns
unfolding daily_fits day_fits placed_at
returns c =
    let a = c.args in
    all_from_yields_List (λ y. day_fits a.self.years y.0 y.1) _ _ _ c.all.ensures.ran (YieldsList-from_enumerate (YieldsList-from_slice a.daily.now (cc)) (cc)) (λ x b q k. search (rules, tests))
    ∙ all_numbered (day_fits a.self.years) 0 a.daily.now
