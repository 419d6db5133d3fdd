-- The case of each history year, the first that fits (document 01, Cases).
use Rattle.std.specs.Prelude.{Bool, true, false, cond, List, map, ℕ}
use Rattle.lists.specs.Lists.{any}
use Rattle.meaning.specs.Filing.{Filing, Meter, no_meter, curve_meter, index_meter, history_list}
use Rattle.meaning.specs.Validity.{curve_valid, index_valid}

-- M measured; 1 and P profiled; 2 rebuilt from curves; 3 and 5 rebuilt from profiled years; 4 and 6 default power
pub data Case : Type 0 where
  case_m case1 case2 case3 case4 case_p case5 case6 : Case

-- the validity of a year: of its curve, of its index
pub record Mark : Type 0 where
  pub curve : Bool
  pub index : Bool

abbrev pub mark : Bool → Bool → Mark
mark c i = record { curve = c; index = i }

-- T files, by the first that is valid: the year's curve, its index, some year's curve, some year's index
unfoldable pub curve_case : Mark → Bool → Bool → Case
curve_case m some_curve some_index = cond m.curve case_m (cond m.index case1 (cond some_curve case2 (cond some_index case3 case4)))

-- I files
unfoldable pub index_case : Mark → Bool → Case
index_case m some_index = cond m.index case_p (cond some_index case5 case6)

-- the case of a year by the meter and the validity of all years
unfoldable pub case_by : Meter → List Mark → Mark → Case
case_by curve_meter marks m = curve_case m (any (λ k. k.curve) marks) (any (λ k. k.index) marks)
case_by index_meter marks m = index_case m (any (λ k. k.index) marks)
case_by no_meter marks m = index_case m (any (λ k. k.index) marks)

unfoldable pub mark_of : Filing → ℕ → Mark
mark_of F y = mark (curve_valid F y) (index_valid F y)

unfoldable pub marks_of : Filing → List Mark
marks_of F = map (mark_of F) (history_list F)

unfoldable pub case_of : Filing → ℕ → Case
case_of F y = case_by F.site.meter (marks_of F) (mark_of F y)

abbrev pub is_default : Case → Bool
is_default case_m = false
is_default case1 = false
is_default case2 = false
is_default case3 = false
is_default case4 = true
is_default case_p = false
is_default case5 = false
is_default case6 = true
