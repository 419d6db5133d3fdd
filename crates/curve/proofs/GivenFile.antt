-- What the loop over all years needs: positions, points within their range, and the cases of the years.
use mathlib.Core.Path.{◌≡◌, refl, ap, sym, ◌∙◌}
use mathlib.Core.Bool.{Bool, true, false, cond}
use mathlib.Core.List.{List, []}
use Prim.Native.Nat.{ℕ, ◌+◌, ◌-◌, ◌≤◌, ◌<◌}
use native.Mathlib.Omega.{arith}
use lib.Dec.{T, ltb}
use lib.ListN.{get_or, take, drop, length-take, get_or-eq_default}
use lib.Seq.{get_or-take, get_or-drop}
use borrow.Author.Tests.{ltb-true, ltb-false}
use Rattle.lists.specs.Lists.{any}
use Rattle.lists.proofs.Tables.{tab_same}
use Rattle.calendar.specs.Spans.{is_known, history_years, axis_years}
use Rattle.calendar.proofs.Laws.{known_axis, history_bounds, history_short}
use Rattle.meaning.specs.Filing.{Filing, Meter, no_meter, curve_meter, index_meter, history_of, axis_of, years_in, history_list}
use Rattle.meaning.specs.Validity.{curve_valid, index_valid}
use Rattle.meaning.specs.Cases.{Case, case_m, case1, case2, case3, case4, case_p, case5, case6, Mark, curve_case, index_case, case_by, mark_of, marks_of, case_of}
use Rattle.meaning.specs.Points.{position_at}
use Rattle.meaning.specs.Blocks.{missing_point, row_size, is_near, near_start, far_start}
use Rattle.blocks.specs.Rows.{holds_year, part, row_of}
use Rattle.history.specs.Cases.{mark_in, marks_in, case_in, cases_of, case_repr, case_view}
use Rattle.history.specs.Years.{position_in}
use Rattle.history.specs.declared.cases.Case.TheVariants.{M}
use Rattle.history.proofs.YearTables.{at_year, past_years}
use Rattle.points.specs.OwnFits.{is_point, PointsFit}
use Rattle.points.specs.Sources.{is_profiled}
use Rattle.curve.specs.Fits.{ProfiledFit}
use Rattle.curve.proofs.Filings.{map_range}

-- ---- positions
pub position_is : (F : Filing) → T (is_known F.site.al F.site.filiere) → (k w : ℕ) → position_at F ((history_of F).first + k) w ≡ position_in k w
unfolding position_at position_in axis_of history_of
position_is F t k w =
    let h = history_years F.site.al F.site.filiere in
    let b = history_bounds F.site.al F.site.filiere t in
    let a = ap (λ (s : Rattle.calendar.specs.declared.Years.Years). s.first) (known_axis F.site.al F.site.filiere t) in
    let e : h.first + k - (axis_years h).first ≡ k + 1 = omega (arith, a, b.from) in
    rw e

-- ---- points: each entry of both blocks is in its range, so each entry of a row is
missing_fits : T (is_point missing_point)
unfolding is_point
missing_fits = tt

part_fits : (xs : List ℕ) → ((i : ℕ) → T (is_point (get_or xs i missing_point))) → (a i : ℕ) → T (is_point (get_or (part xs a) i missing_point))
unfolding part
part_fits xs h a i = go (ltb i row_size) refl
  where
    go : (v : Bool) → ltb i row_size ≡ v → T (is_point (get_or (take row_size (drop a xs)) i missing_point))
    go true e = rw (get_or-take row_size (drop a xs) i missing_point (ltb-true i row_size e), get_or-drop a xs i missing_point) (h (a + i))
    go false e = rw (get_or-eq_default (take row_size (drop a xs)) missing_point {n = i} (omega (arith, length-take row_size (drop a xs), ltb-false i row_size e))) missing_fits

pub points_fit_lem : (al : ℕ) (near far : List ℕ) → ((i : ℕ) → T (is_point (get_or near i missing_point))) → ((i : ℕ) → T (is_point (get_or far i missing_point))) → PointsFit al near far
unfolding row_of
points_fit_lem al near far h g y i = go (holds_year al y) (is_near al y)
  where
    go : (u v : Bool) → T (is_point (get_or (cond u (cond v (part near (near_start al y)) (part far (far_start al y))) []) i missing_point))
    go true true = part_fits near h (near_start al y) i
    go true false = part_fits far g (far_start al y) i
    go false v = missing_fits

-- ---- cases
told_meant : (x : Case) → case_view (case_repr x) ≡ x
told_meant case_m = refl
told_meant case1 = refl
told_meant case2 = refl
told_meant case3 = refl
told_meant case4 = refl
told_meant case_p = refl
told_meant case5 = refl
told_meant case6 = refl

-- a profiled year has a valid index
of_curve_case : (c i some_curve some_index : Bool) → T (is_profiled (cond c case_m (cond i case1 (cond some_curve case2 (cond some_index case3 case4))))) → T i
of_curve_case true i a b t = absurd t
of_curve_case false true a b t = tt
of_curve_case false false true b t = absurd t
of_curve_case false false false true t = absurd t
of_curve_case false false false false t = absurd t

of_index_case : (i some_index : Bool) → T (is_profiled (cond i case_p (cond some_index case5 case6))) → T i
of_index_case true b t = tt
of_index_case false true t = absurd t
of_index_case false false t = absurd t

of_case : (m : Meter) (ks : List Mark) (k : Mark) → T (is_profiled (case_by m ks k)) → T k.index
unfolding curve_case index_case case_by
of_case no_meter ks k = of_index_case k.index (any (λ (j : Mark). j.index) ks)
of_case curve_meter ks k = of_curve_case k.curve k.index (any (λ (j : Mark). j.curve) ks) (any (λ (j : Mark). j.index) ks)
of_case index_meter ks k = of_index_case k.index (any (λ (j : Mark). j.index) ks)

pub profiled_fit_lem : (m : Meter) (n : ℕ) (curves indexes : List Bool) → n ≤ 10 → ProfiledFit (cases_of m n curves indexes) indexes
unfolding cases_of case_in mark_in
profiled_fit_lem m n curves indexes s k = go (ltb k n) refl
  where
    year : ℕ → Rattle.history.specs.declared.cases.Case.Case
    year = case_in m n curves indexes

    go : (b : Bool) → ltb k n ≡ b → T (is_profiled (case_view (get_or (cases_of m n curves indexes) k M))) → T (get_or indexes k false)
    go true e t =
        of_case m (marks_in n curves indexes) (mark_in curves indexes k)
        (rw (at_year M year n k M (ltb-true k n e) s, told_meant (case_by m (marks_in n curves indexes) (mark_in curves indexes k))) at t)
    go false e t = absurd (rw (past_years M year n k (ltb-false k n e)) at t)

module _ (F : Filing) (curves indexes : List Bool) (t : T (is_known F.site.al F.site.filiere))
    (c : (k : ℕ) → k < (history_of F).count → get_or curves k false ≡ curve_valid F ((history_of F).first + k))
    (i : (k : ℕ) → k < (history_of F).count → get_or indexes k false ≡ index_valid F ((history_of F).first + k)) where
  mark_is : (k : ℕ) → k < (history_of F).count → mark_in curves indexes k ≡ mark_of F ((history_of F).first + k)
  unfolding mark_in mark_of
  mark_is k h = rw (c k h, i k h)

  marks_are : marks_in (history_of F).count curves indexes ≡ marks_of F
  unfolding marks_in marks_of history_list years_in
  marks_are =
      tab_same (history_of F).count 0 (mark_in curves indexes) (λ k. mark_of F ((history_of F).first + k)) (λ k h. mark_is k (omega (arith, h)))
      ∙ sym (map_range (mark_of F) (history_of F).first (history_of F).count)

  short : (history_of F).count ≤ 10
  unfolding history_of
  short = history_short F.site.al F.site.filiere t

  pub cases_are : (k : ℕ) → k < (history_of F).count → case_view (get_or (cases_of F.site.meter (history_of F).count curves indexes) k M) ≡ case_of F ((history_of F).first + k)
  unfolding cases_of case_in case_of
  cases_are k h =
      ap case_view (at_year M (case_in F.site.meter (history_of F).count curves indexes) (history_of F).count k M h short)
      ∙ told_meant (case_by F.site.meter (marks_in (history_of F).count curves indexes) (mark_in curves indexes k))
      ∙ ap (λ (ks : List Mark). case_by F.site.meter ks (mark_in curves indexes k)) marks_are
      ∙ ap (case_by F.site.meter (marks_of F)) (mark_is k h)
