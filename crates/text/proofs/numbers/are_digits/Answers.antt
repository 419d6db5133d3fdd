use Rattle.std.proofs.Common.{rules, tests, ◌∙◌}
use Rattle.std.proofs.lemmas.Iterator.{YieldsList-from_slice}
use Rattle.std.proofs.lemmas.Iterator.Search.{all_from_yields_List}
use Rattle.lists.proofs.Chains.{all_listed}
use Rattle.text.specs.Numbers.{is_digit}
use Rattle.text.proofs.numbers.are_digits.Goals as goal

pub returns : goal.returns
unfolding is_digit
returns c =
    let s = c.args.field.now in
    all_from_yields_List is_digit _ _ c.all.result c.all.ensures.ran (YieldsList-from_slice s cc) (λ x b q k. search (rules, tests)) ∙ all_listed is_digit s
