use mathlib.Core.Path.{sym, ◌∙◌}
use mathlib.Core.Bool.{false, ◌||◌}
use native.Mathlib.Omega.{arith}
use Rattle.std.proofs.Common.{rules, tests}
use Rattle.std.proofs.lemmas.Iterator.Consumers.{YieldsList-from_enumerate}
use Rattle.std.proofs.lemmas.Iterator.Search.{all_from_yields_List}
use Rattle.lists.specs.Lists.{all}
use Rattle.close_checks.specs.Slots.{slot_fits}
use Rattle.close_checks.specs.Winter.{dated_on}
use Rattle.close_checks.proofs.Days.{chunks_listed, days_fit_lem, slots_all, slots_on_day}
use Rattle.close_checks.proofs.contents.profile_blocks.slots_fit.Goals as goal

pub returns : goal.returns
returns c =
    let a = c.args in let xs = a.slots.now in
    all_from_yields_List (λ y. dated_on a.history a.history.first y.0 || all (slot_fits false) y.1) _ _ _ c.all.ensures.ran (YieldsList-from_enumerate (chunks_listed 20 (omega arith) _ xs (cc) (cc)) (cc)) (λ x b q k. search (rules, tests))
    ∙ days_fit_lem slot_fits 65535 a.history a.history.first (λ d ys. dated_on a.history a.history.first d || all (slot_fits false) ys) (λ d ys l. slots_on_day (dated_on a.history a.history.first d) ys l) xs (λ k. omega (arith, c.type_inv.slots k))
    ∙ sym (slots_all a.history xs)
