-- Where each point of the curve comes from, and the point, rounded (document 01, Cases).
use Rattle.std.specs.Prelude.{Bool, false, ◌&&◌, ◌||◌, cond, List, [], ◌∷◌, map, ℕ, ◌+◌, ◌-◌, ◌*◌}
use Rattle.std.proofs.Math.Option.{Option, some, none}
use Rattle.lists.specs.Lists.{any, first_of, sum, present, tab, flat}
use Rattle.calendar.specs.Places.{has_winter_date, date_of_winter}
use Rattle.calendar.specs.Spans.{history_length}
use Rattle.note.specs.Peaks.{peak_days}
use Rattle.note.specs.Coefficients.{theta}
use Rattle.rounding.specs.Points.{Fraction, over, rounded, profiled, rebuilt, by_default, rated, exceeds}
use Rattle.meaning.specs.Filing.{Filing, history_list, axis_of}
use Rattle.meaning.specs.Validity.{Interval, intervals, has_day, energy_of, total_of, curve_valid, index_valid, half_hours}
use Rattle.meaning.specs.Cases.{Case, case_m, case1, case2, case3, case4, case_p, case5, case6, case_of}

-- a point from its own year: as read, in W, or profiled from E, the profile value and the interval's daily sums
pub data Origin : Type 0 where
  as_read : ℕ → Origin
  by_profile : ℕ → ℕ → ℕ → Origin

-- its fraction in mW
unfoldable pub fraction_of : Origin → Fraction
fraction_of (as_read w) = over (1000 * w) 1
fraction_of (by_profile e p t) = profiled e p t

-- a donor's CA and its point at that date and half-hour, before rates
pub record Donor : Type 0 where
  pub ca : ℕ
  pub origin : Origin

-- where a point comes from
pub data Source : Type 0 where
  missing : Source
  own : Origin → Source
  -- CA of the target, and the donors
  from_donors : ℕ → List Donor → Source
  -- PS, theta, profile value, CA of the target, N, and the sum of CA over the N years
  from_default : ℕ → ℕ → ℕ → ℕ → ℕ → ℕ → Source

-- ---- look-ups for a year, winter place and half-hour
-- the position of a year's winter place
unfoldable pub position_at : Filing → ℕ → ℕ → ℕ
position_at F y w = 366 * (y - (axis_of F).first) + date_of_winter w

-- the interval around that day
unfoldable pub interval_at : Filing → ℕ → ℕ → Option Interval
interval_at F y w = first_of (λ v. has_day v (position_at F y w)) (intervals F)

unfoldable pub profiled_in : Filing → Option Interval → ℕ → Origin
profiled_in F none p = by_profile 0 p 0
profiled_in F (some v) p = by_profile (energy_of v) p (total_of F v)

unfoldable pub profiled_at : Filing → ℕ → ℕ → ℕ → Origin
profiled_at F y w h = profiled_in F (interval_at F y w) (F.profile y w h)

unfoldable pub read_by : Option ℕ → Option Origin
read_by none = none
read_by (some v) = some (as_read v)

unfoldable pub read_at : Filing → ℕ → ℕ → ℕ → Option Origin
read_at F y w h = read_by (F.point y w h)

-- ---- donors
-- the donor's winter place for a target's: the same month and day
abbrev pub donor_place : ℕ → ℕ → ℕ
donor_place y w = w

unfoldable pub donor_of : Filing → ℕ → Option Origin → Option Donor
donor_of F y none = none
donor_of F y (some o) = some (record { ca = F.ca y; origin = o })

-- a valid curve that has the point
unfoldable pub curve_donor : Filing → ℕ → ℕ → ℕ → Option Donor
curve_donor F w h y = cond (curve_valid F y) (donor_of F y (read_at F y (donor_place y w) h)) none

-- a profiled valid index year that has the date
unfoldable pub index_donor : Filing → ℕ → ℕ → ℕ → Option Donor
index_donor F w h y = cond (index_valid F y && has_winter_date y (donor_place y w)) (donor_of F y (some (profiled_at F y (donor_place y w) h))) none

unfoldable pub curve_donors : Filing → ℕ → ℕ → List Donor
curve_donors F w h = present (map (curve_donor F w h) (history_list F))

unfoldable pub index_donors : Filing → ℕ → ℕ → List Donor
index_donors F w h = present (map (index_donor F w h) (history_list F))

-- ---- the source of a point, by the year's case
unfoldable pub own_of : Option Origin → Source
own_of none = missing
own_of (some o) = own o

-- with no donor the point is missing
unfoldable pub rebuilt_by : ℕ → List Donor → Source
rebuilt_by ca [] = missing
rebuilt_by ca (d ∷ ds) = from_donors ca (d ∷ ds)

unfoldable pub history_cas : Filing → ℕ
history_cas F = sum (map F.ca (history_list F))

unfoldable pub default_at : Filing → ℕ → ℕ → ℕ → Source
default_at F y w h = from_default F.site.ps (theta F.site.filiere) (F.profile y w h) (F.ca y) (history_length F.site.filiere) (history_cas F)

unfoldable pub source_by : Case → Filing → ℕ → ℕ → ℕ → Source
source_by case_m F y w h = own_of (read_at F y w h)
source_by case1 F y w h = own (profiled_at F y w h)
source_by case2 F y w h = rebuilt_by (F.ca y) (curve_donors F w h)
source_by case3 F y w h = rebuilt_by (F.ca y) (index_donors F w h)
source_by case4 F y w h = default_at F y w h
source_by case_p F y w h = own (profiled_at F y w h)
source_by case5 F y w h = rebuilt_by (F.ca y) (index_donors F w h)
source_by case6 F y w h = default_at F y w h

unfoldable pub source_at : Filing → ℕ → ℕ → ℕ → Source
source_at F y w h = source_by (case_of F y) F y w h

-- ---- the point in mW before its rate, rounded to nearest, half up; donor points are rounded first
unfoldable pub rounded_origin : Origin → ℕ
rounded_origin o = rounded (fraction_of o)

unfoldable pub donor_cas : List Donor → ℕ
donor_cas ds = sum (map (λ (d : Donor). d.ca) ds)

unfoldable pub donor_points : List Donor → ℕ
donor_points ds = sum (map (λ (d : Donor). rounded_origin d.origin) ds)

unfoldable pub rounded_point : Source → Option ℕ
rounded_point missing = none
rounded_point (own o) = some (rounded_origin o)
rounded_point (from_donors ca ds) = some (rounded (rebuilt ca (donor_points ds) (donor_cas ds)))
rounded_point (from_default ps th p ca n cas) = some (rounded (by_default ps th p ca n cas))

-- ---- 18: what exceeds 200,000,000,000 mW; measured points are never checked
unfoldable pub origin_exceeds : Origin → Bool
origin_exceeds (as_read w) = false
origin_exceeds (by_profile e p t) = exceeds (rounded_origin (by_profile e p t))

unfoldable pub source_exceeds : Source → Bool
source_exceeds missing = false
source_exceeds (own o) = origin_exceeds o
source_exceeds (from_donors ca ds) =
    any (λ (d : Donor). origin_exceeds d.origin) ds || exceeds (rounded (rebuilt ca (donor_points ds) (donor_cas ds)))
source_exceeds (from_default ps th p ca n cas) = exceeds (rounded (by_default ps th p ca n cas))

-- ---- the rate that applies to a year, in every case
unfoldable pub applied_rate : Filing → ℕ → Option ℕ
applied_rate F y = F.rate y

unfoldable pub with_rate : Option ℕ → ℕ → ℕ
with_rate none p = p
with_rate (some r) p = rounded (rated p r)

-- ---- the places of the curve: rate and source of each peak point
pub record CurvePlace : Type 0 where
  pub rate : Option ℕ
  pub source : Source

unfoldable pub place_of : Filing → ℕ → ℕ → ℕ → CurvePlace
place_of F y w h = record { rate = applied_rate F y; source = source_at F y w h }

-- a year's peak points, by day and half-hour
unfoldable pub year_places : Filing → ℕ → List CurvePlace
year_places F y = flat (map (λ w. tab half_hours 0 (place_of F y w)) (peak_days y))

unfoldable pub all_places : Filing → List CurvePlace
all_places F = flat (map (year_places F) (history_list F))

-- the point after its rate, in mW
unfoldable pub rated_by : Option ℕ → Option ℕ → Option ℕ
rated_by r none = none
rated_by r (some p) = some (with_rate r p)

unfoldable pub point_at : CurvePlace → Option ℕ
point_at q = rated_by q.rate (rounded_point q.source)
