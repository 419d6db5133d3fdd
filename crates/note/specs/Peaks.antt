-- Annex 1: the peak days (jours PP2) of 2007 to 2021 as winter places, year by year (document 01, Peak days and coefficients).
use Rattle.std.specs.Prelude.{Bool, ◌&&◌, cond, List, [], ◌∷◌, ℕ, ◌-◌, leb, get_or, take, drop}
use Rattle.lists.specs.Lists.{sum}

unfoldable pub annex1 : List ℕ
annex1 =
    22 ∷ 23 ∷ 24 ∷ 25 ∷ 28 ∷ 29 ∷ 30 ∷ 31 ∷ 109 ∷ 118 ∷ 119 ∷ 131 ∷ 132 ∷ 133 ∷ 134 ∷ 137 ∷ 138 ∷ 139 ∷ 140 ∷ 141 ∷
    1 ∷ 2 ∷ 28 ∷ 29 ∷ 30 ∷ 116 ∷ 117 ∷ 118 ∷ 122 ∷ 123 ∷ 124 ∷ 128 ∷ 129 ∷ 130 ∷ 131 ∷ 132 ∷ 135 ∷ 136 ∷ 137 ∷ 138 ∷
    4 ∷ 5 ∷ 6 ∷ 7 ∷ 8 ∷ 9 ∷ 11 ∷ 12 ∷ 13 ∷ 14 ∷ 15 ∷ 32 ∷ 33 ∷ 34 ∷ 135 ∷ 136 ∷ 137 ∷ 138 ∷ 139 ∷ 141 ∷
    3 ∷ 4 ∷ 5 ∷ 6 ∷ 7 ∷ 10 ∷ 11 ∷ 26 ∷ 40 ∷ 41 ∷ 42 ∷ 120 ∷ 121 ∷ 122 ∷ 123 ∷ 133 ∷ 134 ∷ 135 ∷ 136 ∷ 137 ∷
    2 ∷ 3 ∷ 4 ∷ 5 ∷ 9 ∷ 10 ∷ 18 ∷ 19 ∷ 20 ∷ 23 ∷ 24 ∷ 25 ∷ 26 ∷ 27 ∷ 30 ∷ 31 ∷ 32 ∷ 33 ∷ 34 ∷ 139 ∷
    16 ∷ 17 ∷ 29 ∷ 30 ∷ 31 ∷ 32 ∷ 33 ∷ 34 ∷ 35 ∷ 36 ∷ 37 ∷ 38 ∷ 39 ∷ 40 ∷ 41 ∷ 42 ∷ 43 ∷ 44 ∷ 132 ∷ 133 ∷
    13 ∷ 14 ∷ 15 ∷ 16 ∷ 17 ∷ 20 ∷ 21 ∷ 22 ∷ 23 ∷ 24 ∷ 37 ∷ 42 ∷ 43 ∷ 44 ∷ 51 ∷ 52 ∷ 55 ∷ 56 ∷ 57 ∷ 118 ∷
    14 ∷ 20 ∷ 21 ∷ 22 ∷ 23 ∷ 26 ∷ 27 ∷ 28 ∷ 29 ∷ 30 ∷ 35 ∷ 36 ∷ 41 ∷ 42 ∷ 43 ∷ 123 ∷ 129 ∷ 130 ∷ 149 ∷ 150 ∷
    5 ∷ 6 ∷ 18 ∷ 19 ∷ 20 ∷ 21 ∷ 22 ∷ 25 ∷ 26 ∷ 27 ∷ 28 ∷ 29 ∷ 32 ∷ 33 ∷ 34 ∷ 35 ∷ 36 ∷ 39 ∷ 40 ∷ 41 ∷
    12 ∷ 13 ∷ 14 ∷ 17 ∷ 18 ∷ 19 ∷ 20 ∷ 21 ∷ 46 ∷ 47 ∷ 48 ∷ 59 ∷ 60 ∷ 119 ∷ 120 ∷ 121 ∷ 122 ∷ 139 ∷ 140 ∷ 141 ∷
    2 ∷ 3 ∷ 4 ∷ 5 ∷ 6 ∷ 16 ∷ 17 ∷ 18 ∷ 19 ∷ 20 ∷ 22 ∷ 23 ∷ 24 ∷ 25 ∷ 26 ∷ 83 ∷ 104 ∷ 124 ∷ 130 ∷ 139 ∷ 140 ∷ 141 ∷
    25 ∷ 35 ∷ 36 ∷ 37 ∷ 38 ∷ 39 ∷ 42 ∷ 43 ∷ 44 ∷ 53 ∷ 56 ∷ 57 ∷ 58 ∷ 60 ∷ 61 ∷ 110 ∷ 111 ∷ 112 ∷ 133 ∷ 137 ∷
    10 ∷ 20 ∷ 21 ∷ 22 ∷ 23 ∷ 24 ∷ 28 ∷ 29 ∷ 30 ∷ 124 ∷ 125 ∷
    120 ∷ 121 ∷ 122 ∷ 123 ∷ 124 ∷ 127 ∷ 128 ∷ 129 ∷ 130 ∷ 134 ∷ 135 ∷ 137 ∷ 138 ∷
    3 ∷ 4 ∷ 5 ∷ 6 ∷ 7 ∷ 10 ∷ 25 ∷ 39 ∷ 40 ∷ 41 ∷ 42 ∷ 114 ∷ 119 ∷ 133 ∷ 134 ∷ 135 ∷
    []

-- how many peak days each year from 2007 on has
unfoldable pub day_counts : List ℕ
day_counts = 20 ∷ 20 ∷ 20 ∷ 20 ∷ 20 ∷ 20 ∷ 20 ∷ 20 ∷ 20 ∷ 20 ∷ 22 ∷ 20 ∷ 11 ∷ 13 ∷ 16 ∷ []

-- a year that annex 1 is used for
unfoldable pub has_peaks : ℕ → Bool
has_peaks y = leb 2007 y && leb y 2021

unfoldable pub peak_count : ℕ → ℕ
peak_count y = cond (has_peaks y) (get_or day_counts (y - 2007) 0) 0

-- where a year's part of the table begins
unfoldable pub peak_start : ℕ → ℕ
peak_start y = sum (take (y - 2007) day_counts)

-- the year's peak days as winter places, in date order: its part of the table
unfoldable pub peak_days : ℕ → List ℕ
peak_days y = take (peak_count y) (drop (peak_start y) annex1)
