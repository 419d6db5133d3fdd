use mathlib.Core.Bool.{cond}
use Prim.Native.Nat.{◌+◌}
use lib.Dec.{ltb}
use lib.ListN.{get_or}
use Rattle.std.proofs.Common.{rules, tests}
use Rattle.lists.proofs.Chains.{made_by}
use Rattle.history.specs.declared.cases.Case.TheVariants.{M}
use Rattle.history.specs.Years.{by_history}
use Rattle.close.specs.FileOutcomes.{no_year}
use Rattle.close.specs.ReportRows.{row_in, rows_in}
use Rattle.close.proofs.report.rows.Goals as goal

pub returns : goal.returns
unfolding rows_in by_history row_in
returns c =
    let a = c.args in
    made_by _ (λ k. cond (ltb k a.history.count) (row_in (a.history.first + k) (get_or a.cases k M) (get_or a.present k 0)) no_year) no_year _ 10 _ c.from_fn.ensures.items (λ x b r q k. search (rules, tests))
