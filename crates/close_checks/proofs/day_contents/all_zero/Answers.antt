use mathlib.Core.Bool.{false}
use mathlib.Core.Path.{◌∙◌}
use Rattle.std.proofs.Common.{rules, tests}
use Rattle.std.proofs.lemmas.Iterator.{YieldsList-from_slice}
use Rattle.std.proofs.lemmas.Iterator.Search.{all_from_yields_List}
use Rattle.lists.proofs.Chains.{all_listed}
use Rattle.close_checks.specs.Slots.{slot_fits}
use Rattle.close_checks.proofs.day_contents.all_zero.Goals as goal

pub returns : goal.returns
unfolding slot_fits
returns c =
    all_from_yields_List (slot_fits false) _ _ _ c.all.ensures.ran (YieldsList-from_slice c.args.slots.now c.iter.ensures.rest) (λ x b q k. search (rules, tests))
    ∙ all_listed (slot_fits false) c.args.slots.now
