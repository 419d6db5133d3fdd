-- Which curve years and index years are valid (document 01, Validity).
use Rattle.std.specs.Prelude.{Bool, ◌&&◌, ◌||◌, not, List, map, ℕ, ◌-◌, ◌*◌, eqb, leb, ltb}
use Rattle.lists.specs.Lists.{any, all, keep, tab, range, sum, count, is_some, neighbours}
use Rattle.calendar.specs.Dates.{is_winter}
use Rattle.calendar.specs.Places.{has_date, month_of}
use Rattle.calendar.specs.Spans.{place_at}
use Rattle.note.specs.Peaks.{peak_days, peak_count}
use Rattle.meaning.specs.Filing.{Filing, Reading, is_trusted, axis_of, year_of, daily_at}

-- ---- curve years
-- 20 peak half-hours a day: 7 to 15 h, then 18 to 20 h
abbrev pub half_hours : ℕ
half_hours = 20

-- how many peak points a year should have, and how many are present
unfoldable pub expected_points : ℕ → ℕ
expected_points y = 20 * peak_count y

unfoldable pub present_points : Filing → ℕ → ℕ
present_points F y = sum (map (λ w. count (λ h. is_some (F.point y w h)) (range 0 half_hours)) (peak_days y))

-- at least 80%; equality is valid
unfoldable pub enough : ℕ → ℕ → Bool
enough present expected = leb (80 * expected) (100 * present)

unfoldable pub curve_valid : Filing → ℕ → Bool
curve_valid F y = not (F.broken y) && enough (present_points F y) (expected_points y)

-- ---- intervals between neighbouring readings
pub record Interval : Type 0 where
  pub from : Reading
  pub to : Reading

unfoldable pub intervals : Filing → List Interval
intervals F = map (λ (p : Reading × Reading). record { from = p.0; to = p.1 }) (neighbours F.readings)

-- an interval's days run from its first reading's to the one before its second's; an absent 29 February is no day
unfoldable pub days_of : Filing → Interval → List ℕ
days_of F v = keep (λ p. has_date (year_of F p) (place_at p)) (range v.from.position (v.to.position - v.from.position))

unfoldable pub has_day : Interval → ℕ → Bool
has_day v p = leb v.from.position p && ltb p v.to.position

-- E, the difference of the two readings, in Wh
unfoldable pub energy_of : Interval → ℕ
energy_of v = v.to.index - v.from.index

-- the daily sums over an interval's days
unfoldable pub total_between : Filing → ℕ → ℕ → ℕ
total_between F a b = sum (tab (b - a) a (daily_at F))

unfoldable pub total_of : Filing → Interval → ℕ
total_of F v = total_between F v.from.position v.to.position

-- ---- index years
-- a day of both periods of a year, January to March and November to December
unfoldable pub is_winter_day : Filing → ℕ → ℕ → Bool
is_winter_day F y p = eqb (year_of F p) y && is_winter (month_of (place_at p))

-- by its days
unfoldable pub overlaps_winter : Filing → ℕ → Interval → Bool
overlaps_winter F y v = any (is_winter_day F y) (days_of F v)

unfoldable pub touches : Filing → ℕ → Interval → Bool
touches F y v = any (λ p. eqb (year_of F p) y) (days_of F v)

-- the winter days of an axis year, as positions
unfoldable pub winter_days : Filing → ℕ → List ℕ
winter_days F y = keep (λ p. has_date y (place_at p) && is_winter_day F y p) (range (366 * (y - (axis_of F).first)) 366)

unfoldable pub is_covered : Filing → ℕ → Bool
is_covered F y = all (λ p. any (λ v. has_day v p) (intervals F)) (winter_days F y)

-- what an interval that overlaps a year's winter must have: both ends real or corrected
unfoldable pub is_sound : Interval → Bool
is_sound v = is_trusted v.from.kind && is_trusted v.to.kind

unfoldable pub index_valid : Filing → ℕ → Bool
index_valid F y = not (F.broken y) && (is_covered F y && all (λ v. not (overlaps_winter F y v) || is_sound v) (intervals F))
