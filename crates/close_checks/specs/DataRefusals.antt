-- 15, 16 and 17 in order of checking, from the dates by year, the valid-index and default-power years and the columns (document 01, Stops that come
-- from the state).
use Rattle.std.specs.Prelude.{Bool, ◌||◌, cond, List, ℕ, Result, Ok}
use Rattle.refusals.specs.declared.Refusal.{Refusal}
use Rattle.refusals.specs.Refusals.{refused_by}
use Rattle.close_checks.specs.Totals.{some_winter, totals_zero}
use Rattle.validity.specs.Dates.{partial_dates, lacks_profiles}
use Rattle.calendar.specs.declared.Years.{Years}
use Rattle.close_checks.specs.Closing.{misses_days}

-- from whether each holds
unfoldable pub first_refusal : Bool → Bool → Bool → Result (Unit {0}) Refusal
first_refusal partial lacking zero = cond partial (refused_by 15) (cond lacking (refused_by 16) (cond zero (refused_by 17) (Ok tt)))

-- from P and D dates by year, valid indexes and default power by history year, n positions, and the daily total around each day
unfoldable pub data_refusal : Years → List ℕ → List ℕ → List Bool → List Bool → List ℕ → ℕ → List ℕ → Result (Unit {0}) Refusal
data_refusal history profile_dates daily_dates valid default ps n totals =
    first_refusal (partial_dates history.first history.count profile_dates daily_dates)
    (lacks_profiles history.count valid default profile_dates || some_winter history.count valid ps n (misses_days ps daily_dates))
    (some_winter history.count valid ps n (totals_zero ps totals))
