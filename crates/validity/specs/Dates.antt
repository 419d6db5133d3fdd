-- 15, and 16 on profiles, from the dates by year and which years have a valid index or default power (document 01, Stops that come from the state).
use Rattle.std.specs.Prelude.{Bool, false, ◌&&◌, ◌||◌, List, ℕ, ◌+◌, eqb, get_or}
use Rattle.lists.specs.Lists.{any, range}
use Rattle.calendar.specs.Spans.{years, axis_years}
use Rattle.calendar.specs.Dates.{all_winter_dates, all_dates}
use Rattle.meaning.specs.Closing.{is_partial}

-- 15: some year has dates, but not all of them; full gives the number of all
unfoldable pub some_partial : (ℕ → ℕ) → ℕ → ℕ → List ℕ → Bool
some_partial full first count ns = any (λ k. is_partial (get_or ns k 0) (full (first + k))) (range 0 count)

-- P dates of the history years, D dates of the axis years
unfoldable pub partial_dates : ℕ → ℕ → List ℕ → List ℕ → Bool
partial_dates first count ps ds =
    some_partial all_winter_dates first count ps
    || some_partial all_dates (axis_years (years first count)).first (axis_years (years first count)).count ds

-- 16: no P date in a year that has a valid index or default power
unfoldable pub lacks_profile_at : List Bool → List Bool → List ℕ → ℕ → Bool
lacks_profile_at valid default ps k = (get_or valid k false || get_or default k false) && eqb (get_or ps k 0) 0

unfoldable pub lacks_profiles : ℕ → List Bool → List Bool → List ℕ → Bool
lacks_profiles count valid default ps = any (lacks_profile_at valid default ps) (range 0 count)
