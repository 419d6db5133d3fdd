use mathlib.Core.Path.{◌∙◌}
use Rattle.std.proofs.Common.{rules, tests}
use Rattle.std.proofs.lemmas.Iterator.{YieldsList-from_slice}
use Rattle.std.proofs.lemmas.Iterator.Consumers.{YieldsList-from_enumerate}
use Rattle.std.proofs.lemmas.Iterator.Search.{all_from_yields_List}
use Rattle.lists.proofs.Chains.{all_numbered}
use Rattle.meaning.specs.Record.{each_year}
use Rattle.progress.specs.YearTests.{fits_at}
use Rattle.progress.proofs.year_range.by_year.each_year.Goals as goal

pub returns : goal.returns
unfolding each_year
returns g c = λ range t e.
    let a = c.args in
    all_from_yields_List (λ y. fits_at a.span range y.0 y.1) _ _ _ c.all.ensures.ran (YieldsList-from_enumerate (YieldsList-from_slice a.ns.now (cc)) (cc)) (λ x b q k. search (rules, tests))
    ∙ all_numbered (fits_at a.span range) 0 a.ns.now
