use mathlib.Core.Path.{◌≡◌}
use mathlib.Core.List.{map}
use lib.ListN.{get_or}
use Rattle.std.proofs.Common.{rules, tests}
use Rattle.lists.proofs.Chains.{made_by}
use Rattle.meaning.specs.Blocks.{slots_start}
use Rattle.blocks.specs.Stores.{profile_code, slots_put}
use Rattle.blocks.proofs.Runs.{mapped}
use Rattle.blocks.proofs.stores.put_profiles.Goals as goal

pub returns : goal.returns
unfolding slots_put slots_start
returns c =
    let e : c.from_fn-codes.result ≡ map profile_code c.args.values.now =
    mapped 0 profile_code _ _ c.requires.0 (made_by _ (λ k. profile_code (get_or c.args.values.now k 0)) 0 _ 20 _ c.from_fn-codes.ensures.items (λ x b r q k. search (rules, tests))) in
    rw (← e) c.put_day.ensures
