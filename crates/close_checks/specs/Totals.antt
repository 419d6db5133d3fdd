-- 16 and 17, from the columns, the daily totals by position and the valid-index years (document 01, Stops that come from the state).
use Rattle.std.specs.Prelude.{Bool, false, ◌&&◌, List, ℕ, ◌-◌, eqb, get_or}
use Rattle.lists.specs.Lists.{any, range}
use Rattle.validity.specs.Columns.{interval_start, interval_end, year_start, meets_winter}

-- 16 and 17: p holds for some interval with a winter day of a valid-index year
-- for the year whose 1 January is s
unfoldable pub some_in : List ℕ → ℕ → (ℕ → Bool) → ℕ → Bool
some_in ps n p s = any (λ i. meets_winter s (interval_start ps i) (interval_end ps i) && p i) (range 0 (n - 1))

unfoldable pub some_winter : ℕ → List Bool → List ℕ → ℕ → (ℕ → Bool) → Bool
some_winter count valid ps n p = any (λ k. get_or valid k false && some_in ps n p (year_start k)) (range 0 count)

-- some valid-index year among the first ones is profiled from the i-th interval
unfoldable pub is_profiled : ℕ → List Bool → List ℕ → ℕ → Bool
is_profiled count valid ps i = any (λ k. get_or valid k false && meets_winter (year_start k) (interval_start ps i) (interval_end ps i)) (range 0 count)

-- the interval's daily sums total 0; the total is found at its first day
unfoldable pub totals_zero : List ℕ → List ℕ → ℕ → Bool
totals_zero ps ts i = eqb (get_or ts (interval_start ps i) 0) 0
