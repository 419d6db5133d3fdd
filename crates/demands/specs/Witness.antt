-- A file that gets a level: a site, nine of the 11 peak days of 2019, 180 of 220 points, and the end.
use Rattle.std.specs.Prelude.{List, [], ◌∷◌, ◌++◌, ℕ, replicate}
use Rattle.lists.specs.Lists.{flat}
use Rattle.meaning.specs.Line.{Line}

-- S CF_96E/11 2024 2 T 1000
unfoldable pub site_line : Line
site_line =
    83 ∷ 9 ∷ 67 ∷ 70 ∷ 95 ∷ 57 ∷ 54 ∷ 69 ∷ 47 ∷ 49 ∷ 49 ∷ 9 ∷ 50 ∷ 48 ∷ 50 ∷ 52 ∷ 9 ∷ 50 ∷ 9 ∷ 84 ∷ 9 ∷ 49 ∷ 48 ∷ 48 ∷ 48 ∷ []

-- C 2019, a month and a day, and 20 times 7 W
unfoldable pub curve_line : List ℕ → List ℕ → Line
curve_line m d = 67 ∷ 9 ∷ 50 ∷ 48 ∷ 49 ∷ 57 ∷ 9 ∷ m ++ 9 ∷ d ++ flat (replicate 20 (9 ∷ 55 ∷ []))

-- E 10
unfoldable pub end_line : Line
end_line = 69 ∷ 9 ∷ 49 ∷ 48 ∷ []

-- 11, 21 to 25 and 29 to 31 January
unfoldable pub witness_lines : List Line
witness_lines =
    site_line
    ∷ curve_line (49 ∷ []) (49 ∷ 49 ∷ [])
    ∷ curve_line (49 ∷ []) (50 ∷ 49 ∷ [])
    ∷ curve_line (49 ∷ []) (50 ∷ 50 ∷ [])
    ∷ curve_line (49 ∷ []) (50 ∷ 51 ∷ [])
    ∷ curve_line (49 ∷ []) (50 ∷ 52 ∷ [])
    ∷ curve_line (49 ∷ []) (50 ∷ 53 ∷ [])
    ∷ curve_line (49 ∷ []) (50 ∷ 57 ∷ [])
    ∷ curve_line (49 ∷ []) (51 ∷ 48 ∷ [])
    ∷ curve_line (49 ∷ []) (51 ∷ 49 ∷ [])
    ∷ end_line
    ∷ []
