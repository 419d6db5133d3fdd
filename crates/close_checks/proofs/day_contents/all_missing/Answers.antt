use mathlib.Core.Bool.{false}
use mathlib.Core.Path.{◌∙◌}
use Rattle.std.proofs.Common.{rules, tests}
use Rattle.std.proofs.lemmas.Iterator.{YieldsList-from_slice}
use Rattle.std.proofs.lemmas.Iterator.Search.{all_from_yields_List}
use Rattle.lists.proofs.Chains.{all_listed}
use Rattle.meaning.specs.Record.{point_fits}
use Rattle.close_checks.proofs.day_contents.all_missing.Goals as goal

pub returns : goal.returns
unfolding point_fits
returns c =
    all_from_yields_List (point_fits false) _ _ _ c.all.ensures.ran (YieldsList-from_slice c.args.points.now c.iter.ensures.rest) (λ x b q k. search (rules, tests))
    ∙ all_listed (point_fits false) c.args.points.now
