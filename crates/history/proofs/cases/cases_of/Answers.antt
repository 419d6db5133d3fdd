use mathlib.Core.Bool.{cond}
use mathlib.Core.Path.{◌∙◌}
use lib.Dec.{ltb}
use Rattle.std.proofs.Common.{rules, tests}
use Rattle.std.proofs.lemmas.Iterator.{YieldsList-from_slice, YieldsList-from_take}
use Rattle.std.proofs.lemmas.Iterator.Search.{any_from_yields_List}
use Rattle.line_form.specs.Views.{meter_view}
use Rattle.lists.proofs.Chains.{made_by}
use Rattle.history.specs.declared.cases.Case.TheVariants.{M}
use Rattle.history.specs.Cases.{case_with, mark_in}
use Rattle.history.specs.Years.{by_history}
use Rattle.history.proofs.CaseLaws.{some_listed, cases_found}
use Rattle.history.proofs.cases.cases_of.Goals as goal

pub returns : goal.returns
unfolding by_history mark_in
returns c =
    let a = c.args in
    made_by _ (λ k. cond (ltb k a.n) (case_with c.eq-curve_meter.result c.any-some_curve.result c.any-some_index.result (mark_in a.valid.curves a.valid.indexes k)) M) M _ 10 _ c.from_fn.ensures.items
    (λ x b r q k. search (rules, tests))
    ∙ cases_found (meter_view a.meter) a.n a.valid.curves a.valid.indexes _ _ _ (search rules)
    (any_from_yields_List (λ b. b) _ _ _ c.any-some_curve.ensures.ran (YieldsList-from_take a.n (YieldsList-from_slice a.valid.curves (cc)) (cc)) (λ x b q k. search (rules, tests)) ∙ some_listed a.n a.valid.curves)
    (any_from_yields_List (λ b. b) _ _ _ c.any-some_index.ensures.ran (YieldsList-from_take a.n (YieldsList-from_slice a.valid.indexes (cc)) (cc)) (λ x b q k. search (rules, tests)) ∙ some_listed a.n a.valid.indexes)
