-- What the calendar returns: a place, a day or a date of the axis, and None where there is none (document 01, Words, and the
-- rows and positions of Calls and the lines of a file).
use Rattle.std.specs.Prelude.{Bool, true, false, ◌&&◌, ℕ, ◌*◌, ltb, Option, Some, None}
use Rattle.calendar.specs.Dates.{is_date, is_day, is_winter}
use Rattle.calendar.specs.Places.{date_place, month_of, day_of, has_date, winter_place, date_of_winter}
use Rattle.calendar.specs.Spans.{among, position_of, year_at, place_at}
use Rattle.calendar.specs.declared.Years.{Years}
use Rattle.calendar.specs.declared.Day.{Day}
use Rattle.calendar.specs.declared.Date.{Date}

abbrev pub a_day : ℕ → ℕ → Day
a_day m d = record { month = m; day = d }

abbrev pub a_date : ℕ → ℕ → ℕ → Date
a_date y m d = record { year = y; month = m; day = d }

-- a place, where there is one
abbrev pub place_where : Bool → ℕ → Option ℕ
place_where true p = Some p
place_where false p = None

-- the day at a date place
abbrev pub day_where : Bool → ℕ → Option Day
day_where true p = Some (a_day (month_of p) (day_of p))
day_where false p = None

-- the date at a date place of a year
abbrev pub date_where : Bool → ℕ → ℕ → Option Date
date_where true y p = Some (a_date y (month_of p) (day_of p))
date_where false y p = None

-- the date place of a month and a day that some year has
unfoldable pub date_place_of : ℕ → ℕ → Option ℕ
date_place_of m d = place_where (is_day m d) (date_place m d)

-- the winter place of a winter day
unfoldable pub winter_place_of : ℕ → ℕ → Option ℕ
winter_place_of m d = place_where (is_day m d && is_winter m) (winter_place m d)

-- the date place of one of the 152 winter places
unfoldable pub winter_date_place : ℕ → Option ℕ
winter_date_place w = place_where (ltb w 152) (date_of_winter w)

-- the day of one of the 366 date places
unfoldable pub day_at : ℕ → Option Day
day_at p = day_where (ltb p 366) p

-- the day of one of the 152 winter places
unfoldable pub winter_day_at : ℕ → Option Day
winter_day_at w = day_where (ltb w 152) (date_of_winter w)

-- the position of a date of an axis year
unfoldable pub position_in : Years → ℕ → ℕ → ℕ → Option ℕ
position_in axis y m d = place_where (among axis y && is_date y m d) (position_of axis y m d)

-- the date at a position of the daily block: None past its end and at a place where its year has no date
unfoldable pub date_at : Years → ℕ → Option Date
date_at axis p =
    date_where
    (ltb p (366 * axis.count) && has_date (year_at axis p) (place_at p))
    (year_at axis p)
    (place_at p)
