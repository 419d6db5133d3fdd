-- Leap years and dates of the Gregorian calendar, for any numbers (document 01, 7: no such date).
use Rattle.std.specs.Prelude.{Bool, ◌&&◌, ◌||◌, not, cond, List, [], ◌∷◌, ℕ, ◌%◌, eqb, leb, get_or}

unfoldable pub leap : ℕ → Bool
leap y = eqb (y % 4) 0 && (not (eqb (y % 100) 0) || eqb (y % 400) 0)

-- the days of each month in a leap year, at the month's number; there is no month 0
unfoldable pub month_lengths : List ℕ
month_lengths = 0 ∷ 31 ∷ 29 ∷ 31 ∷ 30 ∷ 31 ∷ 30 ∷ 31 ∷ 31 ∷ 30 ∷ 31 ∷ 30 ∷ 31 ∷ []

-- the largest number of days that a month can have: 0 where there is no such month
unfoldable pub longest : ℕ → ℕ
longest m = get_or month_lengths m 0

unfoldable pub days_in : ℕ → ℕ → ℕ
days_in y m = cond (eqb m 2 && not (leap y)) 28 (longest m)

unfoldable pub is_date : ℕ → ℕ → ℕ → Bool
is_date y m d = leb 1 d && leb d (days_in y m)

-- a month and a day that some year has
unfoldable pub is_day : ℕ → ℕ → Bool
is_day m d = leb 1 d && leb d (longest m)

-- winter is January, February, March, November, December (document 01, Words)
unfoldable pub is_winter : ℕ → Bool
is_winter m = (leb 1 m && leb m 3) || (leb 11 m && leb m 12)

-- ---- how many dates a year has, in winter and in all (document 01, 15)
unfoldable pub all_winter_dates : ℕ → ℕ
all_winter_dates y = cond (leap y) 152 151

unfoldable pub all_dates : ℕ → ℕ
all_dates y = cond (leap y) 366 365
