use mathlib.Core.Path.{◌∙◌}
use Rattle.std.proofs.Common.{rules, tests}
use Rattle.std.proofs.lemmas.Iterator.{YieldsList-from_slice}
use Rattle.std.proofs.lemmas.Iterator.Search.{any_from_yields_List}
use Rattle.lists.proofs.Chains.{any_listed}
use Rattle.line_form.specs.Codes.{is_profile_outside}
use Rattle.line_checks.proofs.value_ranges.profiles_outside.Goals as goal

pub returns : goal.returns
unfolding is_profile_outside
returns c =
    any_from_yields_List is_profile_outside _ _ _ c.any.ensures.ran (YieldsList-from_slice c.args.values.now c.iter.ensures.rest) (λ x b q k. search (rules, tests))
    ∙ any_listed is_profile_outside c.args.values.now
