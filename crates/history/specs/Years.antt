-- What a winter day needs of ten years, from the lists of a site: k is a year's number from the oldest history year, w a winter place.
use Rattle.std.specs.Prelude.{Bool, false, ◌&&◌, cond, List, ℕ, ◌+◌, ◌*◌, ltb, get_or}
use Rattle.lists.specs.Lists.{tab, sum}
use Rattle.calendar.specs.Places.{has_winter_date, date_of_winter}
use Rattle.note.specs.Coefficients.{ca_of}
use Rattle.rounding.specs.declared.Energy.{Energy}
use Rattle.rounding.specs.Units.{in_wh}
use Rattle.history.specs.declared.YearOnDay.{YearOnDay}

-- ten places by history year: f for the n history years, z for years that the file does not have
unfoldable pub by_history : {A : Type 0} → ℕ → A → (ℕ → A) → List A
by_history n z f = tab 10 0 (λ k. cond (ltb k n) (f k) z)

-- the position of a day: the axis begins a year before the history
unfoldable pub position_in : ℕ → ℕ → ℕ
position_in k w = 366 * (k + 1) + date_of_winter w

-- past the ten years
abbrev pub no_year : YearOnDay
no_year = record { energy = in_wh 0; total = 0; is_donor = false }

-- the k-th year on a winter day, from E and daily total by position and the valid indexes: it is a donor where it has the date
unfoldable pub year_on : List Energy → List ℕ → List Bool → ℕ → ℕ → ℕ → YearOnDay
year_on energies totals indexes first w k =
    record {
      energy = get_or energies (position_in k w) (in_wh 0);
      total = get_or totals (position_in k w) 0;
      is_donor = get_or indexes k false && has_winter_date (first + k) w;
    }

unfoldable pub years_on : List Energy → List ℕ → List Bool → ℕ → ℕ → List YearOnDay
years_on energies totals indexes first w = tab 10 0 (year_on energies totals indexes first w)

-- CA of ten years, and the sum over the n history years
unfoldable pub cas_from : ℕ → ℕ → List ℕ
cas_from first filiere = tab 10 0 (λ k. ca_of (first + k) filiere)

unfoldable pub cas_sum : ℕ → List ℕ → ℕ
cas_sum n cas = sum (tab n 0 (λ k. get_or cas k 0))
