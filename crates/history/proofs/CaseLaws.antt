-- The cases of the history years, from which of them are valid.
use mathlib.Core.Path.{◌≡◌, refl, ap, sym, ◌∙◌}
use mathlib.Core.Bool.{Bool, false, cond, ◌||◌}
use mathlib.Core.List.{List, [], ◌∷◌}
use Prim.Native.Nat.{ℕ, zero, suc}
use lib.Dec.{ltb}
use lib.ListN.{get_or, take}
use Rattle.std.specs.List.{list_any}
use Rattle.lists.specs.Lists.{any, tab}
use Rattle.lists.proofs.Ranges.{any_tab}
use Rattle.lists.proofs.Tables.{tab_same}
use Rattle.meaning.specs.Filing.{Meter, no_meter, curve_meter, index_meter}
use Rattle.meaning.specs.Cases.{Mark, case_by}
use Rattle.history.specs.declared.cases.Case.{Case}
use Rattle.history.specs.declared.cases.Case.TheVariants.{M}
use Rattle.history.specs.Years.{by_history}
use Rattle.history.specs.Cases.{some_valid, is_curve, case_with, case_in, cases_of, marks_in, mark_in}

-- whether one of the first n is valid
abbrev found : ℕ → List Bool → ℕ → Bool
found n valid i = any (λ b. b) (tab n i (λ k. get_or valid k false))

found_later : (b : Bool) (valid : List Bool) (n i : ℕ) → found n (b ∷ valid) (suc i) ≡ found n valid i
unfolding tab any
found_later b valid zero i = refl
found_later b valid (suc n) i = ap (λ (x : Bool). get_or valid i false || x) (found_later b valid n (suc i))

found_none : (n i : ℕ) → found n [] i ≡ false
unfolding tab any
found_none zero i = refl
found_none (suc n) i = found_none n (suc i)

found_front : (n : ℕ) (valid : List Bool) → list_any (λ b. b) (take n valid) ≡ found n valid 0
unfolding tab any
found_front zero valid = refl
found_front (suc n) [] = sym (found_none n 1)
found_front (suc n) (b ∷ valid) = ap (λ (x : Bool). b || x) (found_front n valid ∙ sym (found_later b valid n 0))

pub some_listed : (n : ℕ) (valid : List Bool) → list_any (λ b. b) (take n valid) ≡ some_valid n valid
unfolding some_valid
some_listed n valid = found_front n valid ∙ any_tab (λ b. b) n 0 (λ k. get_or valid k false)

some_curve_lem : (n : ℕ) (curves indexes : List Bool) → any (λ (k : Mark). k.curve) (marks_in n curves indexes) ≡ some_valid n curves
unfolding marks_in mark_in some_valid
some_curve_lem n curves indexes = any_tab (λ (k : Mark). k.curve) n 0 (mark_in curves indexes)

some_index_lem : (n : ℕ) (curves indexes : List Bool) → any (λ (k : Mark). k.index) (marks_in n curves indexes) ≡ some_valid n indexes
unfolding marks_in mark_in some_valid
some_index_lem n curves indexes = any_tab (λ (k : Mark). k.index) n 0 (mark_in curves indexes)

-- the case of a year, from its validity and that of all years
case_in_lem : (m : Meter) (n : ℕ) (curves indexes : List Bool) (k : ℕ)
    → case_with (is_curve m) (some_valid n curves) (some_valid n indexes) (mark_in curves indexes k) ≡ case_in m n curves indexes k
unfolding case_with case_in case_by
case_in_lem no_meter n curves indexes k = rw (some_index_lem n curves indexes)
case_in_lem curve_meter n curves indexes k = rw (some_curve_lem n curves indexes, some_index_lem n curves indexes)
case_in_lem index_meter n curves indexes k = rw (some_index_lem n curves indexes)

-- the cases of all years, likewise
pub cases_found : (m : Meter) (n : ℕ) (curves indexes : List Bool) (curve_meter some_curve some_index : Bool) → curve_meter ≡ is_curve m → some_curve ≡ some_valid n curves → some_index ≡ some_valid n indexes
    → by_history n M (λ k. case_with curve_meter some_curve some_index (mark_in curves indexes k)) ≡ cases_of m n curves indexes
unfolding by_history cases_of
cases_found m n curves indexes u c i p q r =
    rw (p, q, r)
    (tab_same 10 0 (λ k. cond (ltb k n) (case_with (is_curve m) (some_valid n curves) (some_valid n indexes) (mark_in curves indexes k)) M) (λ k. cond (ltb k n) (case_in m n curves indexes k) M)
    (λ k h. ap (λ (x : Case). cond (ltb k n) x M) (case_in_lem m n curves indexes k)))
