use Prim.Native.Nat.{◌-◌}
use Rattle.std.proofs.Common.{rules, tests}
use Rattle.validity.specs.Index.{is_sound_at, is_sound_year}
use Rattle.lists.proofs.Chains.{all_below}
use Rattle.validity.proofs.columns.Counted.is_sound_year.Goals as goal

pub returns : goal.returns
unfolding is_sound_year
returns c =
    let a = c.args in
    all_below (is_sound_at a.self.now.positions.now a.self.now.kinds.now a.s) (a.self.now.n - 1) _ _ _ c.all.ensures.ran (cc) (λ x b q k. search (rules, tests))
