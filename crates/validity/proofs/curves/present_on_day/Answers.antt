use mathlib.Core.Path.{ap, ◌∙◌}
use native.Mathlib.Omega.{arith}
use Rattle.std.proofs.Common.{rules, tests}
use Rattle.std.specs.List.{range_with_len}
use Rattle.std.proofs.lemmas.Iterator.{YieldsList-from_range}
use Rattle.std.proofs.lemmas.Iterator.Consumers.{count_from_yields_List, YieldsList-from_filter}
use Rattle.lists.specs.Lists.{count}
use Rattle.validity.specs.Availability.{is_present, present_on_day}
use Rattle.lists.proofs.Chains.{count_listed, range_listed}
use Rattle.validity.proofs.curves.present_on_day.Goals as goal

pub returns : goal.returns
unfolding present_on_day
returns c =
    let p = is_present c.args.row.now c.args.w in
    count_from_yields_List _ _ c.count.ensures.ran (YieldsList-from_filter _ p (YieldsList-from_range 0 20 20 (cc) (omega arith)) c.filter.ensures.closure (λ x r q k. search (rules, tests)))
    ∙ count_listed p (range_with_len 0 20) ∙ ap (count p) (range_listed 0 20)
