-- The note's coefficients: CA (3.3), theta (annex 2) and C (annex 4), by filière (document 01, Words and Peak days and coefficients).
use Rattle.std.specs.Prelude.{Bool, ◌&&◌, cond, List, [], ◌∷◌, ℕ, ◌+◌, ◌-◌, ◌*◌, eqb, leb, ltb, get_or}

-- the column of a filière, from 1 on: solar 0, wind 1, hydro 2, coal gas with house gas and oil 3, biomass 4, other renewable 5, other 6
unfoldable pub columns : List ℕ
columns = 7 ∷ 0 ∷ 1 ∷ 1 ∷ 2 ∷ 2 ∷ 3 ∷ 3 ∷ 3 ∷ 4 ∷ 5 ∷ 6 ∷ []

-- 7 where there is no such filière
unfoldable pub column_of : ℕ → ℕ
column_of f = get_or columns f 7

-- CA in thousandths, 2007 to 2024, seven columns a year; 0 where the note has none
unfoldable pub ca_table : List ℕ
ca_table =
    0 ∷ 0 ∷ 1144 ∷ 0 ∷ 0 ∷ 0 ∷ 0 ∷
    0 ∷ 0 ∷ 1230 ∷ 0 ∷ 0 ∷ 0 ∷ 0 ∷
    1012 ∷ 953 ∷ 1035 ∷ 0 ∷ 0 ∷ 0 ∷ 0 ∷
    964 ∷ 965 ∷ 1115 ∷ 0 ∷ 0 ∷ 0 ∷ 0 ∷
    1021 ∷ 970 ∷ 834 ∷ 0 ∷ 0 ∷ 0 ∷ 0 ∷
    1012 ∷ 1043 ∷ 1008 ∷ 0 ∷ 0 ∷ 0 ∷ 0 ∷
    961 ∷ 1048 ∷ 1116 ∷ 0 ∷ 0 ∷ 0 ∷ 0 ∷
    1017 ∷ 969 ∷ 1062 ∷ 1035 ∷ 1008 ∷ 1006 ∷ 1000 ∷
    1033 ∷ 1086 ∷ 876 ∷ 1016 ∷ 1019 ∷ 977 ∷ 1000 ∷
    980 ∷ 968 ∷ 954 ∷ 1012 ∷ 1003 ∷ 980 ∷ 1000 ∷
    1015 ∷ 961 ∷ 784 ∷ 984 ∷ 986 ∷ 1019 ∷ 1000 ∷
    957 ∷ 976 ∷ 974 ∷ 951 ∷ 983 ∷ 1018 ∷ 1000 ∷
    989 ∷ 1045 ∷ 843 ∷ 956 ∷ 971 ∷ 962 ∷ 1000 ∷
    979 ∷ 1100 ∷ 996 ∷ 915 ∷ 956 ∷ 976 ∷ 1000 ∷
    972 ∷ 941 ∷ 999 ∷ 915 ∷ 982 ∷ 939 ∷ 1000 ∷
    999 ∷ 907 ∷ 851 ∷ 968 ∷ 995 ∷ 985 ∷ 1000 ∷
    968 ∷ 1055 ∷ 988 ∷ 935 ∷ 949 ∷ 1003 ∷ 1000 ∷
    907 ∷ 900 ∷ 1199 ∷ 818 ∷ 913 ∷ 984 ∷ 1000 ∷
    []

-- CA of a year in a column: 0 where the table has none
unfoldable pub ca_in : List ℕ → ℕ → ℕ → ℕ
ca_in table y c = cond ((leb 2007 y && leb y 2024) && ltb c 7) (get_or table (7 * (y - 2007) + c) 0) 0

-- CA of a year for a filière
unfoldable pub ca_of : ℕ → ℕ → ℕ
ca_of y f = ca_in ca_table y (column_of f)

-- theta in hundred-thousandths, from filière 1 on; offshore wind takes wind's
unfoldable pub thetas : List ℕ
thetas = 0 ∷ 13769 ∷ 23940 ∷ 23940 ∷ 25522 ∷ 25522 ∷ 16110 ∷ 16110 ∷ 16110 ∷ 57730 ∷ 44600 ∷ 8257 ∷ []

unfoldable pub theta : ℕ → ℕ
theta f = get_or thetas f 0

-- C in hundredths, from filière 1 on, for AL 2022 and later
unfoldable pub coefficients : List ℕ
coefficients = 0 ∷ 25 ∷ 70 ∷ 80 ∷ 85 ∷ 100 ∷ 100 ∷ 100 ∷ 100 ∷ 100 ∷ 100 ∷ 100 ∷ []

-- offshore wind has 1.00 for AL 2021
unfoldable pub coefficient_c : ℕ → ℕ → ℕ
coefficient_c al f = cond (eqb f 3 && eqb al 2021) 100 (get_or coefficients f 0)

-- ---- the twofold rule: no CA above twice another of its column, over the years that some history uses
-- the first year that an accepted file of the column can use: AL 2021 back to AL-14 for hydro, to AL-9 for solar and wind, AL 2023 back to AL-9 for the rest
unfoldable pub first_used : ℕ → ℕ
first_used c = cond (eqb c 2) 2007 (cond (ltb c 2) 2012 2014)

unfoldable pub is_used : ℕ → ℕ → Bool
is_used c y = ltb c 7 && (leb (first_used c) y && leb y 2021)
