-- 16 on daily sums, from the columns and the D dates by year (document 01, Stops that come from the state).
use Rattle.std.specs.Prelude.{Bool, List, ℕ, ◌+◌, ◌-◌, ◌/◌, eqb, get_or}
use Rattle.lists.specs.Lists.{any, range}
use Rattle.validity.specs.Columns.{interval_start, interval_end}

-- an interval from a to the one before b touches the axis years a / 366 to (b - 1) / 366, and one of them has no D date
unfoldable pub misses_between : List ℕ → ℕ → ℕ → Bool
misses_between ds a b = any (λ z. eqb (get_or ds z 0) 0) (range (a / 366) ((b - 1) / 366 + 1 - a / 366))

unfoldable pub misses_days : List ℕ → List ℕ → ℕ → Bool
misses_days ps ds i = misses_between ds (interval_start ps i) (interval_end ps i)
