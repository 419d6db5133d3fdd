-- Worked examples.
use mathlib.Core.Path.{◌≡◌, refl}
use mathlib.Core.Bool.{true, false}
use mathlib.Core.List.{[], ◌∷◌, map}
use Rattle.lists.specs.Lists.{sum, keep}
use Rattle.calendar.specs.Dates.{leap, month_lengths, longest, days_in, is_winter}
use Rattle.calendar.specs.Places.{before, date_place, winter_before, winter_place}
use Rattle.calendar.specs.Spans.{years, history_length, is_known, history_years, axis_years, position_of}

pub leap_years : map leap (1900 ∷ 2000 ∷ 2016 ∷ 2019 ∷ 2020 ∷ 2100 ∷ []) ≡ false ∷ true ∷ true ∷ false ∷ true ∷ false ∷ []
unfolding leap
leap_years = refl

-- February in a common and in a leap year; there is no month 0 and no month 13
pub month_days : days_in 2019 2 ∷ days_in 2020 2 ∷ days_in 2020 0 ∷ days_in 2020 13 ∷ [] ≡ 28 ∷ 29 ∷ 0 ∷ 0 ∷ []
unfolding days_in longest month_lengths leap
month_days = refl

-- 1 January, 29 February, 1 March, 1 November, 31 December
pub date_places : date_place 1 1 ∷ date_place 2 29 ∷ date_place 3 1 ∷ date_place 11 1 ∷ date_place 12 31 ∷ [] ≡ 0 ∷ 59 ∷ 60 ∷ 305 ∷ 365 ∷ []
unfolding date_place before month_lengths sum
date_places = refl

pub winter_places : winter_place 1 1 ∷ winter_place 2 29 ∷ winter_place 3 1 ∷ winter_place 11 1 ∷ winter_place 12 31 ∷ [] ≡ 0 ∷ 59 ∷ 60 ∷ 91 ∷ 151 ∷ []
unfolding winter_place winter_before is_winter longest month_lengths sum keep
winter_places = refl

-- AL 2025, onshore wind: 2016 to 2020, with 2015 and 2021 around them
pub wind_2025 : history_years 2025 2 ∷ axis_years (history_years 2025 2) ∷ [] ≡ years 2016 5 ∷ years 2015 7 ∷ []
unfolding axis_years history_years is_known history_length
wind_2025 = refl

-- AL 2021, run of river: 2007 to 2016
pub river_2021 : history_years 2021 4 ∷ axis_years (history_years 2021 4) ∷ [] ≡ years 2007 10 ∷ years 2006 12 ∷ []
unfolding axis_years history_years is_known history_length
river_2021 = refl

-- on that axis 1 January 2007 starts the second row
pub position_2007 : position_of (years 2006 12) 2007 1 1 ≡ 366
unfolding position_of date_place before month_lengths sum
position_2007 = refl
