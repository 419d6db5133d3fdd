-- 15 from the history years.
use mathlib.Core.Path.{◌≡◌}
use mathlib.Core.Bool.{true, false}
use mathlib.Core.List.{List}
use Prim.Native.Nat.{ℕ, ◌+◌, ◌-◌}
use borrow.Author.Tests.{eq-eqb, ne_eqb}
use Rattle.calendar.specs.Dates.{all_winter_dates, all_dates}
use Rattle.lists.specs.Lists.{any, range, tab}
use Rattle.calendar.specs.Spans.{axis_years}
use Rattle.validity.specs.Dates.{some_partial, partial_dates}

module _ (first count : ℕ) (ps ds : List ℕ) where
  pub partial_profile : some_partial all_winter_dates first count ps ≡ true → true ≡ partial_dates first count ps ds
  unfolding partial_dates
  partial_profile e = rw e

  -- no history year: no year has a date
  pub partial_none : some_partial all_winter_dates first count ps ≡ false → count ≡ 0 → false ≡ partial_dates first count ps ds
  unfolding partial_dates axis_years some_partial any range tab
  partial_none e z = rw (e, eq-eqb count 0 z)

  pub partial_days : some_partial all_winter_dates first count ps ≡ false → (count ≡ 0 → ⊥) → some_partial all_dates (first - 1) (count + 2) ds ≡ partial_dates first count ps ds
  unfolding partial_dates axis_years
  partial_days e z = rw (e, ne_eqb count 0 z)
