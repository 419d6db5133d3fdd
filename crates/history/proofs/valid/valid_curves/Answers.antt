use mathlib.Core.Bool.{false, cond}
use lib.Dec.{ltb}
use Rattle.std.proofs.Common.{rules, tests}
use Rattle.lists.proofs.Chains.{made_by}
use Rattle.history.specs.ValidYears.{is_broken, valid_curve_at, valid_curves}
use Rattle.history.specs.Years.{by_history}
use Rattle.history.proofs.valid.valid_curves.Goals as goal

pub returns : goal.returns
unfolding valid_curves by_history valid_curve_at is_broken
returns c =
    let a = c.args in
    made_by _ (λ k. cond (ltb k a.history.count) (valid_curve_at a.al a.history.first a.blocks.now.near.now a.blocks.now.far.now a.breaks k) false) false _ 10 _ c.from_fn.ensures.items
    (λ x b r q k. search (rules, tests))
