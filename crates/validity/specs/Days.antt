-- E and daily total of the interval around a day, 0 where there is none (document 01, Cases, 1 and P).
use Rattle.std.specs.Prelude.{Bool, ◌&&◌, List, ℕ, ◌-◌, leb, ltb, get_or}
use Rattle.std.proofs.Math.Option.{Option, some, none}
use Rattle.lists.specs.Lists.{first_of, range, tab, sum}
use Rattle.rounding.specs.declared.Energy.{Energy}
use Rattle.rounding.specs.Units.{in_wh}
use Rattle.validity.specs.Columns.{interval_start, interval_end}

-- an interval is around a position
unfoldable pub is_around : List ℕ → ℕ → ℕ → Bool
is_around ps p i = leb (interval_start ps i) p && ltb p (interval_end ps i)

unfoldable pub around : List ℕ → ℕ → ℕ → Option ℕ
around ps n p = first_of (is_around ps p) (range 0 (n - 1))

-- E, the difference of the two readings
unfoldable pub energy_in : List ℕ → ℕ → Energy
energy_in xs i = in_wh (interval_end xs i - interval_start xs i)

-- the total of the daily sums from a to the one before b
unfoldable pub sum_between : List ℕ → ℕ → ℕ → ℕ
sum_between ds a b = sum (tab (b - a) a (λ p. get_or ds p 0))

unfoldable pub total_in : List ℕ → List ℕ → ℕ → ℕ
total_in ps ds i = sum_between ds (interval_start ps i) (interval_end ps i)

-- what an interval has, z where there is none
abbrev pub of_interval : {A : Type 0} → A → (ℕ → A) → Option ℕ → A
of_interval z f none = z
of_interval z f (some i) = f i

unfoldable pub energy_at : List ℕ → List ℕ → ℕ → ℕ → Energy
energy_at ps xs n p = of_interval (in_wh 0) (energy_in xs) (around ps n p)

unfoldable pub total_at : List ℕ → List ℕ → ℕ → ℕ → ℕ
total_at ps ds n p = of_interval 0 (total_in ps ds) (around ps n p)

-- at the 4,392 places of the axis, by position
unfoldable pub energies_of : List ℕ → List ℕ → ℕ → List Energy
energies_of ps xs n = tab 4392 0 (energy_at ps xs n)

unfoldable pub totals_of : List ℕ → List ℕ → ℕ → List ℕ
totals_of ps ds n = tab 4392 0 (total_at ps ds n)
