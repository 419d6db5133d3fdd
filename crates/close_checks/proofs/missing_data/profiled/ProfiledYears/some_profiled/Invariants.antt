use Rattle.std.proofs.Common.{◌≡◌, ℕ, ◌+◌, ◌<◌, Bool, false}
use mathlib.Core.Bool.{◌&&◌}
use Rattle.validity.specs.Columns.{interval_start, interval_end}
use Rattle.close_checks.specs.Totals.{is_profiled}
use Rattle.close_checks.proofs.missing_data.profiled.ProfiledYears.some_profiled.Given as goal

-- no interval before
abbrev pub invariant-loop-i : goal.invariant-loop-i
invariant-loop-i g l =
    let y = l.self in
    (holds : ℕ → Bool) → ((j : ℕ) (r : Bool) → j + 1 < y.readings.n → goal.F-post g l.test (interval_start y.readings.positions.now j) (interval_end y.readings.positions.now j) r → r ≡ holds j)
    → (k : ℕ) → k < l.i → (is_profiled y.history.count y.valid y.readings.positions.now k && holds k) ≡ false
