use mathlib.Core.Path.{sym, ◌∙◌}
use borrow.Author.Tests.{le-leb, lt-leb}
use native.Mathlib.Omega.{arith}
use Prim.Native.Nat.{◌-◌}
use Rattle.lists.proofs.Tests.{passed}
use Rattle.meaning.specs.Blocks.{is_near, near_start, far_start}
use Rattle.blocks.specs.Rows.{row_of}
use Rattle.blocks.proofs.Parts.{held}
use Rattle.blocks.proofs.year_rows.row.Goals as goal

pub returns-then-not-holds_year : goal.returns-then-not-holds_year
unfolding row_of
returns-then-not-holds_year c = simp (sym c.holds_year.ensures ∙ c.if-not-holds_year.true)

pub overflow_sub-first : goal.overflow_sub-first
overflow_sub-first c =
    let a = c.args in
    omega (arith, held a.al a.year (passed _ (sym c.holds_year.ensures ∙ c.if-not-holds_year.false)))

pub row_part-requires : goal.row_part-requires
row_part-requires c =
    let a = c.args in
    omega (arith, held a.al a.year (passed _ (sym c.holds_year.ensures ∙ c.if-not-holds_year.false)))

pub returns-then-first-year : goal.returns-then-first-year
unfolding row_of is_near near_start
returns-then-first-year c =
    let a = c.args in
    simp (sym c.holds_year.ensures ∙ c.if-not-holds_year.false, le-leb (a.al - 9) a.year c.if-first-year.true) c.row_part.ensures

pub overflow_sub-al : goal.overflow_sub-al
overflow_sub-al c =
    let a = c.args in
    omega (arith, held a.al a.year (passed _ (sym c.holds_year.ensures ∙ c.if-not-holds_year.false)))

pub overflow_sub-year-2 : goal.overflow_sub-year-2
overflow_sub-year-2 c =
    let a = c.args in
    omega (arith, held a.al a.year (passed _ (sym c.holds_year.ensures ∙ c.if-not-holds_year.false)))

pub returns : goal.returns
unfolding row_of is_near far_start
returns c =
    let a = c.args in
    simp (sym c.holds_year.ensures ∙ c.if-not-holds_year.false, lt-leb (a.al - 9) a.year c.if-first-year.false) c.row_part-2.ensures
