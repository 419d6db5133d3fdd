use Rattle.open_and_line.proofs.Opened.{unopened, opened}
use Rattle.open_and_line.proofs.opening.open_blocks.Goals as goal

pub returns-then-not-fit : goal.returns-then-not-fit
returns-then-not-fit c =
    let a = c.args in
    unopened a.near.now a.far.now a.slots.now a.daily.now a.readings.now a.curve.now c.fit.result c.fit.ensures c.if-not-fit.true

pub returns : goal.returns
returns c =
    let a = c.args in
    opened a.near.now a.far.now a.slots.now a.daily.now a.readings.now a.curve.now c.fit.result c.fit.ensures c.if-not-fit.false _ _ _ _ _ _
    (c.fill.ensures.after (λ y e. e)) (c.fill-2.ensures.after (λ y e. e)) (c.fill-3.ensures.after (λ y e. e)) (c.fill-4.ensures.after (λ y e. e)) c.set_fresh.ensures (c.fill-5.ensures.after (λ y e. e))
