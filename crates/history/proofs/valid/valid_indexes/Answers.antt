use mathlib.Core.Bool.{false, cond}
use lib.Dec.{ltb}
use Rattle.std.proofs.Common.{rules, tests}
use Rattle.lists.proofs.Chains.{made_by}
use Rattle.history.specs.ValidYears.{is_broken, valid_index_at, valid_indexes}
use Rattle.history.specs.Years.{by_history}
use Rattle.history.proofs.valid.valid_indexes.Goals as goal

pub returns : goal.returns
unfolding valid_indexes by_history valid_index_at is_broken
returns c =
    let a = c.args in
    made_by _ (λ k. cond (ltb k a.years) (valid_index_at a.readings.now.positions.now a.readings.now.kinds.now a.readings.now.n a.breaks k) false) false _ 10 _ c.from_fn.ensures.items
    (λ x b r q k. search (rules, tests))
