-- The date places 0 to 365 and the winter places 0 to 151, 29 February always having one (document 01, Words).
use Rattle.std.specs.Prelude.{Bool, ◌&&◌, cond, List, [], ◌∷◌, map, ℕ, ◌+◌, ◌-◌, leb, ltb, take}
use Rattle.lists.specs.Lists.{sum, keep, count}
use Rattle.calendar.specs.Dates.{month_lengths, longest, is_date, is_winter}

abbrev pub months : List ℕ
months = 1 ∷ 2 ∷ 3 ∷ 4 ∷ 5 ∷ 6 ∷ 7 ∷ 8 ∷ 9 ∷ 10 ∷ 11 ∷ 12 ∷ []

-- the days of a leap year before its month m
unfoldable pub before : ℕ → ℕ
before m = sum (take m month_lengths)

-- how many days of a leap year come before the m-th month's day d
unfoldable pub date_place : ℕ → ℕ → ℕ
date_place m d = before m + (d - 1)

-- from the place back: the last month that begins at or before it, and the day in that month
unfoldable pub month_of : ℕ → ℕ
month_of p = count (λ m. leb (before m) p) months

unfoldable pub day_of : ℕ → ℕ
day_of p = p - before (month_of p) + 1

-- whether a year has a date at a place
unfoldable pub has_date : ℕ → ℕ → Bool
has_date y p = is_date y (month_of p) (day_of p)

-- the winter days of a leap year before its month m
unfoldable pub winter_before : ℕ → ℕ
winter_before m = sum (map longest (keep (λ k. is_winter k && ltb k m) months))

-- how many winter days of a leap year come before the m-th month's day d
unfoldable pub winter_place : ℕ → ℕ → ℕ
winter_place m d = winter_before m + (d - 1)

-- the date place of a winter place: 91 days of January to March, then those from 1 November, date place 305
unfoldable pub date_of_winter : ℕ → ℕ
date_of_winter w = cond (ltb w 91) w (w + 214)

-- whether a year has a date at a winter place
unfoldable pub has_winter_date : ℕ → ℕ → Bool
has_winter_date y w = has_date y (date_of_winter w)
