use mathlib.Core.Path.{sym, ◌∙◌}
use mathlib.Core.Logic.{inl, inr}
use native.Mathlib.Omega.{arith}
use Rattle.close_checks.proofs.Columns.{left_start, left_end, left_unfit, left_early, left_falls, left_next}
use Rattle.close_checks.proofs.contents.axis_blocks.Axis.readings_fit.Goals as goal

pub loop-k-init : goal.loop-k-init
loop-k-init c =
    let a = c.args in
    (omega arith, left_start a.self.years a.readings.now.positions.now a.readings.now.indexes.now a.readings.now.kinds.now a.readings.now.n)

pub returns-then-not-reading_fits : goal.returns-then-not-reading_fits
returns-then-not-reading_fits c =
    let l = c.loop-k in let a = c.args in
    let read = rw (c.position-p.ensures.is, c.index-x.ensures, c.letter.ensures) at c.reading_fits.ensures in
    left_unfit a.self.years a.readings.now.positions.now a.readings.now.indexes.now a.readings.now.kinds.now a.readings.now.n l.least l.index.0 l.k c.loop-k-test.true (sym read ∙ c.if-not-reading_fits.true)
    ∙ sym l.invariant.1

pub returns-then-p-least : goal.returns-then-p-least
returns-then-p-least c =
    let l = c.loop-k in let a = c.args in
    elim c.then-p-least.either [
      | inl e ↦ left_early a.self.years a.readings.now.positions.now a.readings.now.indexes.now a.readings.now.kinds.now a.readings.now.n l.least l.index.0 l.k c.loop-k-test.true (rw c.position-p.ensures.is at e) ∙ sym l.invariant.1
      | inr e ↦ left_falls a.self.years a.readings.now.positions.now a.readings.now.indexes.now a.readings.now.kinds.now a.readings.now.n l.least l.index.0 l.k c.loop-k-test.true (rw c.index-x.ensures at e.1) ∙ sym l.invariant.1
    ]

pub loop-k-preserved : goal.loop-k-preserved
loop-k-preserved c =
    let l = c.loop-k in let a = c.args in
    let read = rw (c.position-p.ensures.is, c.index-x.ensures, c.letter.ensures) at c.reading_fits.ensures in
    let same = left_next a.self.years a.readings.now.positions.now a.readings.now.indexes.now a.readings.now.kinds.now a.readings.now.n l.least l.index.0 l.k c.loop-k-test.true (sym read ∙ c.if-not-reading_fits.false)
    (rw c.position-p.ensures.is at c.if-p-least.false) (rw c.index-x.ensures at c.if-x-index.false) in
    (omega (arith, c.loop-k-test.true), rw (c.position-p.ensures.is, c.index-x.ensures) (l.invariant.1 ∙ same))

pub returns : goal.returns
returns c =
    let l = c.loop-k in let a = c.args in
    sym (l.invariant.1 ∙ left_end a.self.years a.readings.now.positions.now a.readings.now.indexes.now a.readings.now.kinds.now a.readings.now.n l.least l.index.0 l.k c.loop-k-test.false)
