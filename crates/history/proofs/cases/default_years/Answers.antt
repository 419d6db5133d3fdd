use mathlib.Core.Bool.{false, cond}
use lib.Dec.{ltb}
use lib.ListN.{get_or}
use Rattle.std.proofs.Common.{rules, tests}
use Rattle.meaning.specs.Cases.{is_default}
use Rattle.lists.proofs.Chains.{made_by}
use Rattle.history.specs.declared.cases.Case.TheVariants.{M}
use Rattle.history.specs.Cases.{case_view, default_years}
use Rattle.history.specs.Years.{by_history}
use Rattle.history.proofs.cases.default_years.Goals as goal

pub returns : goal.returns
unfolding default_years by_history
returns c =
    let a = c.args in
    made_by _ (λ k. cond (ltb k a.n) (is_default (case_view (get_or a.cases k M))) false) false _ 10 _ c.from_fn.ensures.items
    (λ x b r q k. search (rules, tests))
