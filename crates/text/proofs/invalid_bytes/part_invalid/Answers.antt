use mathlib.Core.Bool.{false, ◌||◌}
use Rattle.std.proofs.Common.{rules, tests, ◌∙◌}
use Rattle.std.proofs.lemmas.Iterator.{YieldsList-from_slice}
use Rattle.std.proofs.lemmas.Iterator.Consumers.{fold_from_yields_List}
use Rattle.text.specs.Fields.{is_invalid}
use Rattle.text.proofs.Laws.{any_folded}
use Rattle.text.proofs.invalid_bytes.part_invalid.Goals as goal

pub returns : goal.returns
returns c =
    let s = c.args.part.now in
    fold_from_yields_List _ (λ found b. found || is_invalid b) false c.fold.result c.fold.ensures.ran (YieldsList-from_slice s cc) (λ a x b q k. search (rules, tests)) ∙ any_folded s
