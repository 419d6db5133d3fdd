use mathlib.Core.Path.{sym, ◌∙◌}
use native.Mathlib.Omega.{arith}
use Rattle.close_checks.proofs.Profiled.{some_found, none_found}
use Rattle.close_checks.proofs.missing_data.profiled.ProfiledYears.some_profiled.Goals as goal

pub returns-then-test : goal.returns-then-test
returns-then-test g c = λ holds told.
    let y = c.args.self.now in let i = c.loop-i.i in
    some_found y.history.count y.valid y.readings.positions.now y.readings.n holds i (omega arith) (sym c.is_profiled.ensures ∙ c.if-is_profiled.true)
    (sym (told i c.test.result (omega arith) (rw (c.position.ensures.is, c.position-then-is_profiled.ensures.is) at c.test.ensures)) ∙ c.if-test.true)

pub returns : goal.returns
returns g c = λ holds told.
    let y = c.args.self.now in
    none_found y.history.count y.valid y.readings.positions.now y.readings.n holds (λ i h. c.loop-i.invariant holds told i (omega arith))
