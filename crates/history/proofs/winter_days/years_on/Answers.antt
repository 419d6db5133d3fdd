use Rattle.std.proofs.Common.{rules, tests}
use Rattle.lists.proofs.Chains.{made_by}
use Rattle.history.specs.Years.{no_year, year_on, years_on, position_in}
use Rattle.history.proofs.winter_days.years_on.Goals as goal

pub returns : goal.returns
unfolding years_on year_on position_in
returns c =
    let a = c.args in
    let e = c.date_place-place.ensures.is in
    made_by _ (year_on a.energies.now a.totals.now a.indexes.now a.first a.w) no_year _ 10 _ c.from_fn.ensures.items (λ x b r q k. search (rules, tests))
