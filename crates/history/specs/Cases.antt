-- The cases of the history years as an enum, and the years of default power (document 01, Cases).
use Rattle.std.specs.Prelude.{Bool, true, false, List, ℕ, get_or}
use Rattle.lists.specs.Lists.{any, tab, range}
use Rattle.meaning.specs.Filing.{Meter, no_meter, curve_meter, index_meter}
use Rattle.meaning.specs.Cases.{case_m, case1, case2, case3, case4, case_p, case5, case6, is_default, Mark, mark, curve_case, index_case, case_by, Case as DocumentCase}
use Rattle.history.specs.declared.cases.Case.{Case}
use Rattle.history.specs.Years.{by_history}
use Rattle.history.specs.declared.cases.Case.TheVariants.{M, T1, T2, T3, T4, P, I5, I6}

-- from the code to the definitions
abbrev pub case_view : Case → DocumentCase
case_view M = case_m
case_view T1 = case1
case_view T2 = case2
case_view T3 = case3
case_view T4 = case4
case_view P = case_p
case_view I5 = case5
case_view I6 = case6

-- from the definitions to the code
abbrev pub case_repr : DocumentCase → Case
case_repr case_m = M
case_repr case1 = T1
case_repr case2 = T2
case_repr case3 = T3
case_repr case4 = T4
case_repr case_p = P
case_repr case5 = I5
case_repr case6 = I6

-- ---- from whether each history year's curve is valid and whether its index is
-- the validity of the k-th year, and of n years
unfoldable pub mark_in : List Bool → List Bool → ℕ → Mark
mark_in curves indexes k = mark (get_or curves k false) (get_or indexes k false)

unfoldable pub marks_in : ℕ → List Bool → List Bool → List Mark
marks_in n curves indexes = tab n 0 (mark_in curves indexes)

-- whether a meter is a curve meter
abbrev pub is_curve : Meter → Bool
is_curve no_meter = false
is_curve curve_meter = true
is_curve index_meter = false

-- the case of a year, from whether the meter is a curve meter, whether some year's curve or index is valid, and the year's own validity
unfoldable pub case_with : Bool → Bool → Bool → Mark → Case
case_with true some_curve some_index m = case_repr (curve_case m some_curve some_index)
case_with false some_curve some_index m = case_repr (index_case m some_index)

-- whether one of the first n years is valid
unfoldable pub some_valid : ℕ → List Bool → Bool
some_valid n valid = any (λ k. get_or valid k false) (range 0 n)

-- the case of the k-th of n years
unfoldable pub case_in : Meter → ℕ → List Bool → List Bool → ℕ → Case
case_in meter n curves indexes k = case_repr (case_by meter (marks_in n curves indexes) (mark_in curves indexes k))

-- ten cases, M for years that the file does not have
unfoldable pub cases_of : Meter → ℕ → List Bool → List Bool → List Case
cases_of meter n curves indexes = by_history n M (case_in meter n curves indexes)

-- which years have default power
unfoldable pub default_years : ℕ → List Case → List Bool
default_years n cases = by_history n false (λ k. is_default (case_view (get_or cases k M)))
