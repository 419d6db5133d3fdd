-- Each year has the case that the words give it.
use mathlib.Core.Path.{◌≡◌, refl, ap}
use mathlib.Core.Logic.Iff
use mathlib.Core.Logic.{◌≢◌, ◌↔◌}
use mathlib.Core.Bool.{Bool, true, false, not, cond}
use mathlib.Core.List.{List, map}
use Prim.Native.Nat.{ℕ}
use lib.Dec.{T, eqb}
use Rattle.lists.specs.Lists.{any, Some}
use Rattle.lists.proofs.Reflect.{of_eq, of_any}
use Rattle.lists.proofs.RestatedLists.{map_some, some_range}
use Rattle.lists.proofs.Tests.{both_not}
use Rattle.calendar.specs.declared.Years.{Years}
use Rattle.calendar.specs.Spans.{among, history_years, axis_years}
use Rattle.calendar.proofs.Laws.Positions.{among_words}
use Rattle.meaning.specs.Filing.{Filing, Meter, no_meter, curve_meter, index_meter, history_of, axis_of, years_in, history_list}
use Rattle.meaning.specs.Cases.{Case, case_m, case1, case2, case3, case4, case_p, case5, case6, Mark, curve_case, index_case, case_by, mark_of, marks_of, case_of}
use Rattle.meaning.specs.Restated.Dates.{AxisYear}
use Rattle.meaning.specs.Restated.Years.{CurveValid, IndexValid, SomeYear, CurveFile, CaseWords}
use Rattle.meaning.proofs.Pins.Dates.{date_words}
use Rattle.meaning.proofs.Pins.Years.{valid_words}

-- ---- the years of a filing
some_years : {P : ℕ → Type 0} (s : Years) → Some P (years_in s) ↔ ((z : ℕ) × T (among s z) × P z)
unfolding years_in
some_years {P} s = Iff.trans (some_range {P = P} s.first s.count) (
  λ q. (q.0, (among_words s q.0).1 (q.1, q.2), q.3),
  λ q. let a = (among_words s q.0).0 q.1 in (q.0, a.0, a.1, q.2),
)

pub some_history : {P : ℕ → Type 0} (F : Filing) → Some P (history_list F) ↔ SomeYear F P
unfolding history_list history_of
some_history {P} F = Iff.trans (some_years {P = P} (history_years F.site.al F.site.filiere)) (
  λ q. (q.0, (date_words.history F.site.al F.site.filiere q.0).0 q.1, q.2),
  λ q. (q.0, (date_words.history F.site.al F.site.filiere q.0).1 q.1, q.2),
)

pub some_axis : {P : ℕ → Type 0} (F : Filing) → Some P (years_in (axis_of F)) ↔ ((z : ℕ) × AxisYear F.site.al F.site.filiere z × P z)
unfolding axis_of history_of
some_axis {P} F = Iff.trans (some_years {P = P} (axis_years (history_years F.site.al F.site.filiere))) (
  λ q. (q.0, (date_words.axis F.site.al F.site.filiere q.0).0 q.1, q.2),
  λ q. (q.0, (date_words.axis F.site.al F.site.filiere q.0).1 q.1, q.2),
)

some_curve_lem : (F : Filing) → T (any (λ (k : Mark). k.curve) (marks_of F)) ↔ SomeYear F (CurveValid F)
unfolding marks_of mark_of
some_curve_lem F =
    Iff.trans (of_any (λ (k : Mark). k.curve) (λ k. (λ t. t, λ t. t)) (map (mark_of F) (history_list F)))
    (Iff.trans (map_some (mark_of F) (history_list F))
    (Iff.trans (some_history F) (λ q. (q.0, q.1, (valid_words.curve F q.0).0 q.2), λ q. (q.0, q.1, (valid_words.curve F q.0).1 q.2))))

some_index_lem : (F : Filing) → T (any (λ (k : Mark). k.index) (marks_of F)) ↔ SomeYear F (IndexValid F)
unfolding marks_of mark_of
some_index_lem F =
    Iff.trans (of_any (λ (k : Mark). k.index) (λ k. (λ t. t, λ t. t)) (map (mark_of F) (history_list F)))
    (Iff.trans (map_some (mark_of F) (history_list F))
    (Iff.trans (some_history F) (λ q. (q.0, q.1, (valid_words.index F q.0).0 q.2), λ q. (q.0, q.1, (valid_words.index F q.0).1 q.2))))

-- ---- one case of a chain
abbrev code : Case → ℕ
code case_m = 0
code case1 = 1
code case2 = 2
code case3 = 3
code case4 = 4
code case_p = 5
code case5 = 6
code case6 = 7

differ : (x t : Case) → T (not (eqb (code x) (code t))) → x ≢ t
differ x t n e = both_not (eqb (code x) (code t)) ((of_eq (code x) (code t)).1 (ap code e)) n

neither : (b : Bool) {x y t : Case} → x ≢ t → y ≢ t → cond b x y ≢ t
neither true h k = h
neither false h k = k

-- the test picks its case, which stands nowhere after it
meets : {A : Type 0} (b : Bool) → T b ↔ A → (x : Case) {y : Case} → y ≢ x → (cond b x y ≡ x) ↔ A
meets true f x n = (λ e. f.0 tt, λ a. refl)
meets false f x n = (λ e. absurd (n e), λ a. absurd (f.1 a))

-- the test picks another case
passes : {A B : Type 0} (b : Bool) → T b ↔ A → {x y t : Case} → x ≢ t → (y ≡ t) ↔ B → (cond b x y ≡ t) ↔ ((¬ A) × B)
passes true f n r = (λ e. absurd (n e), λ s. absurd (s.0 (f.0 tt)))
passes false f n r = (λ e. (λ a. f.1 a, r.0 e), λ s. r.1 s.1)

-- what is left has its case
rest : {A : Type 0} (b : Bool) → T b ↔ A → {x t : Case} → x ≢ t → (cond b x t ≡ t) ↔ (¬ A)
rest true f n = (λ e. absurd (n e), λ s. absurd (s (f.0 tt)))
rest false f n = (λ e a. f.1 a, λ s. refl)

-- ---- files of curve meters, and the others
abbrev meter_code : Meter → ℕ
meter_code no_meter = 0
meter_code curve_meter = 1
meter_code index_meter = 2

not_curve : (m : Meter) → T (not (eqb (meter_code m) 1)) → m ≢ curve_meter
not_curve m n e = both_not (eqb (meter_code m) 1) ((of_eq (meter_code m) 1).1 (ap meter_code e)) n

curve_only : {A : Type 0} (m : Meter) (marks : List Mark) (k : Mark) (t : Case) → index_case k (any (λ (j : Mark). j.index) marks) ≢ t
    → (curve_case k (any (λ (j : Mark). j.curve) marks) (any (λ (j : Mark). j.index) marks) ≡ t) ↔ A → (case_by m marks k ≡ t) ↔ ((m ≡ curve_meter) × A)
unfolding case_by
curve_only curve_meter marks k t n r = (λ e. (refl, r.0 e), λ s. r.1 s.1)
curve_only index_meter marks k t n r = (λ e. absurd (n e), λ s. absurd (not_curve index_meter tt s.0))
curve_only no_meter marks k t n r = (λ e. absurd (n e), λ s. absurd (not_curve no_meter tt s.0))

index_only : {A : Type 0} (m : Meter) (marks : List Mark) (k : Mark) (t : Case)
    → curve_case k (any (λ (j : Mark). j.curve) marks) (any (λ (j : Mark). j.index) marks) ≢ t
    → (index_case k (any (λ (j : Mark). j.index) marks) ≡ t) ↔ A → (case_by m marks k ≡ t) ↔ ((m ≢ curve_meter) × A)
unfolding case_by
index_only curve_meter marks k t n r = (λ e. absurd (n e), λ s. absurd (s.0 refl))
index_only index_meter marks k t n r = (λ e. (not_curve index_meter tt, r.0 e), λ s. r.1 s.1)
index_only no_meter marks k t n r = (λ e. (not_curve no_meter tt, r.0 e), λ s. r.1 s.1)

-- no I case in a chain of T cases, and the other way round
no_index_case : (k : Mark) (c d : Bool) (t : Case) → case_m ≢ t → case1 ≢ t → case2 ≢ t → case3 ≢ t → case4 ≢ t → curve_case k c d ≢ t
unfolding curve_case
no_index_case k c d t m n o p q = neither k.curve m (neither k.index n (neither c o (neither d p q)))

no_curve_case : (k : Mark) (d : Bool) (t : Case) → case_p ≢ t → case5 ≢ t → case6 ≢ t → index_case k d ≢ t
unfolding index_case
no_curve_case k d t m n o = neither k.index m (neither d n o)

module _ (F : Filing) (y : ℕ) where
  abbrev mark : Mark
  mark = mark_of F y

  abbrev some_curve : Bool
  some_curve = any (λ (k : Mark). k.curve) (marks_of F)

  abbrev some_index : Bool
  some_index = any (λ (k : Mark). k.index) (marks_of F)

  on_curve : T mark.curve ↔ CurveValid F y
  unfolding mark_of
  on_curve = valid_words.curve F y

  on_index : T mark.index ↔ IndexValid F y
  unfolding mark_of
  on_index = valid_words.index F y

  T-file : {A : Type 0} (t : Case) → case_p ≢ t → case5 ≢ t → case6 ≢ t → (curve_case mark some_curve some_index ≡ t) ↔ A → (case_of F y ≡ t) ↔ (CurveFile F × A)
  unfolding case_of
  T-file t m n o r = curve_only F.site.meter (marks_of F) mark t (no_curve_case mark some_index t m n o) r

  I-file : {A : Type 0} (t : Case) → case_m ≢ t → case1 ≢ t → case2 ≢ t → case3 ≢ t → case4 ≢ t → (index_case mark some_index ≡ t) ↔ A → (case_of F y ≡ t) ↔ ((¬ CurveFile F) × A)
  unfolding case_of
  I-file t m n o p q r = index_only F.site.meter (marks_of F) mark t (no_index_case mark some_curve some_index t m n o p q) r

  pub case_words : CaseWords F y
  unfolding curve_case index_case
  case_words = record {
    m = T-file case_m (differ case_p case_m tt) (differ case5 case_m tt) (differ case6 case_m tt) (meets mark.curve on_curve case_m (neither mark.index (differ case1 case_m tt) (neither some_curve (differ case2 case_m tt) (neither some_index (differ case3 case_m tt) (differ case4 case_m tt)))));
    one = T-file case1 (differ case_p case1 tt) (differ case5 case1 tt) (differ case6 case1 tt) (passes mark.curve on_curve (differ case_m case1 tt) (meets mark.index on_index case1 (neither some_curve (differ case2 case1 tt) (neither some_index (differ case3 case1 tt) (differ case4 case1 tt)))));
    two = T-file case2 (differ case_p case2 tt) (differ case5 case2 tt) (differ case6 case2 tt) (passes mark.curve on_curve (differ case_m case2 tt) (passes mark.index on_index (differ case1 case2 tt) (meets some_curve (some_curve_lem F) case2 (neither some_index (differ case3 case2 tt) (differ case4 case2 tt)))));
    three = T-file case3 (differ case_p case3 tt) (differ case5 case3 tt) (differ case6 case3 tt) (passes mark.curve on_curve (differ case_m case3 tt) (passes mark.index on_index (differ case1 case3 tt) (passes some_curve (some_curve_lem F) (differ case2 case3 tt) (meets some_index (some_index_lem F) case3 (differ case4 case3 tt)))));
    four = T-file case4 (differ case_p case4 tt) (differ case5 case4 tt) (differ case6 case4 tt) (passes mark.curve on_curve (differ case_m case4 tt) (passes mark.index on_index (differ case1 case4 tt) (passes some_curve (some_curve_lem F) (differ case2 case4 tt) (rest some_index (some_index_lem F) (differ case3 case4 tt)))));
    p = I-file case_p (differ case_m case_p tt) (differ case1 case_p tt) (differ case2 case_p tt) (differ case3 case_p tt) (differ case4 case_p tt) (meets mark.index on_index case_p (neither some_index (differ case5 case_p tt) (differ case6 case_p tt)));
    five = I-file case5 (differ case_m case5 tt) (differ case1 case5 tt) (differ case2 case5 tt) (differ case3 case5 tt) (differ case4 case5 tt) (passes mark.index on_index (differ case_p case5 tt) (meets some_index (some_index_lem F) case5 (differ case6 case5 tt)));
    six = I-file case6 (differ case_m case6 tt) (differ case1 case6 tt) (differ case2 case6 tt) (differ case3 case6 tt) (differ case4 case6 tt) (passes mark.index on_index (differ case_p case6 tt) (rest some_index (some_index_lem F) (differ case5 case6 tt)));
  }
