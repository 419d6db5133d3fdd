-- The text of a sheet: its N and Y lines, or its Z line, fields separated by tabs, each line ended by byte 10 (document 01, The printed sheet).
use Rattle.std.specs.Prelude.{List, [], ◌∷◌, ◌++◌, map, ℕ}
use Rattle.lists.specs.Lists.{flat}
use Rattle.text.specs.Digits.{digits_of}
use Rattle.meaning.specs.Cases.{Case, case_m, case1, case2, case3, case4, case_p, case5, case6}
use Rattle.meaning.specs.Level.{YearReport, Report}
use Rattle.meaning.specs.Sheet.{Sheet, refused_sheet, level}

abbrev pub tab_byte : ℕ
tab_byte = 9

abbrev pub end_byte : ℕ
end_byte = 10

-- M 1 2 3 4 P 5 6
unfoldable pub letter_of_case : Case → ℕ
letter_of_case case_m = 77
letter_of_case case1 = 49
letter_of_case case2 = 50
letter_of_case case3 = 51
letter_of_case case4 = 52
letter_of_case case_p = 80
letter_of_case case5 = 53
letter_of_case case6 = 54

-- a tab and a number
unfoldable pub tabbed : ℕ → List ℕ
tabbed n = tab_byte ∷ digits_of n

-- N, AL, filière, NCC in W, points counted
unfoldable pub level_text : ℕ → ℕ → ℕ → ℕ → List ℕ
level_text al f n k = (78 ∷ []) ++ (tabbed al ++ (tabbed f ++ (tabbed n ++ (tabbed k ++ (end_byte ∷ [])))))

unfoldable pub level_line : Report → List ℕ
level_line r = level_text r.al r.filiere r.level r.points

-- Y, year, case, points present
unfoldable pub year_text : ℕ → ℕ → ℕ → List ℕ
year_text y c k = (89 ∷ []) ++ (tabbed y ++ ((tab_byte ∷ []) ++ ((c ∷ []) ++ (tabbed k ++ (end_byte ∷ [])))))

unfoldable pub year_line : YearReport → List ℕ
year_line y = year_text y.year (letter_of_case y.case) y.present

-- Z, number, count
unfoldable pub refusal_line : ℕ → ℕ → List ℕ
refusal_line n c = (90 ∷ []) ++ (tabbed n ++ (tabbed c ++ (end_byte ∷ [])))

unfoldable pub text_of : Sheet → List ℕ
text_of (refused_sheet n c) = refusal_line n c
text_of (level r) = level_line r ++ flat (map year_line r.years)
