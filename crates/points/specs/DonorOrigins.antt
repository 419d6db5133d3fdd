-- The donors of a place, from the lists of a site (document 01, Cases; Calls and the lines of a file).
use Rattle.std.specs.Prelude.{Bool, false, cond, List, ℕ, ◌+◌, get_or}
use Rattle.std.proofs.Math.Option.{Option, some, none}
use Rattle.lists.specs.Lists.{tab, present}
use Rattle.meaning.specs.Points.{Origin, Donor}
use Rattle.history.specs.declared.YearOnDay.{YearOnDay}
use Rattle.history.specs.Years.{no_year}
use Rattle.points.specs.OwnPoints.{read_in, profiled_on}

-- k is a year's number from the oldest history year, w a winter place, h a half-hour

unfoldable pub donor_by : ℕ → Option Origin → Option Donor
donor_by ca none = none
donor_by ca (some o) = some (record { ca = ca; origin = o })

-- the point of a valid curve, where it has one
unfoldable pub curve_origin : ℕ → ℕ → List ℕ → List ℕ → List Bool → ℕ → ℕ → ℕ → Option Origin
curve_origin al first near far curves w h k = cond (get_or curves k false) (read_in al near far (first + k) w h) none

-- the profiled point of a valid index year, where the year has the date
unfoldable pub index_origin : List ℕ → List YearOnDay → ℕ → ℕ → ℕ → Option Origin
index_origin slots years w h k = cond (get_or years k no_year).is_donor (some (profiled_on slots years k w h)) none

-- the donors among n years, each of which gives a point or none
unfoldable pub donors_among : ℕ → List ℕ → (ℕ → Option Origin) → List Donor
donors_among n cas given = present (tab n 0 (λ k. donor_by (get_or cas k 0) (given k)))
