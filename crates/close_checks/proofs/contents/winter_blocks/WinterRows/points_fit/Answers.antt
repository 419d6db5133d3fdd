use mathlib.Core.Bool.{true, false, cond}
use mathlib.Core.Path.{sym, ◌∙◌}
use native.Mathlib.Omega.{arith}
use Rattle.std.proofs.Common.{rules, tests}
use Rattle.std.proofs.lemmas.Iterator.Consumers.{YieldsList-from_enumerate}
use Rattle.std.proofs.lemmas.Iterator.Search.{all_from_yields_List}
use Rattle.lists.specs.Lists.{all}
use Rattle.meaning.specs.Record.{point_fits}
use Rattle.close_checks.specs.Winter.{dated_on}
use Rattle.close_checks.proofs.Days.{chunks_listed, days_fit_lem, points_all, points_on_day}
use Rattle.close_checks.proofs.contents.winter_blocks.WinterRows.points_fit.Goals as goal

pub returns : goal.returns
returns c =
    let a = c.args in let xs = a.block.now in
    all_from_yields_List (λ y. cond (dated_on a.self.history a.self.first y.0) (all (point_fits true) y.1) (all (point_fits false) y.1)) _ _ _ c.all.ensures.ran (YieldsList-from_enumerate (chunks_listed 20 (omega arith) _ xs (cc) (cc)) (cc)) (λ x b q k. search (rules, tests))
    ∙ days_fit_lem point_fits 4294967295 a.self.history a.self.first (λ d ys. cond (dated_on a.self.history a.self.first d) (all (point_fits true) ys) (all (point_fits false) ys)) (λ d ys l. points_on_day (dated_on a.self.history a.self.first d) ys) xs (λ k. omega (arith, c.type_inv.block k))
    ∙ sym (points_all a.self.history a.self.first xs)
