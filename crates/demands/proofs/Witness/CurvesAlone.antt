-- A T file without readings in which some curve year is valid is refused by none of 16, 17 and 18: its years are of case M or 2.
use mathlib.Core.Path.{◌≡◌, refl, ap}
use mathlib.Core.Bool.{Bool, true, false, not, ◌&&◌, cond}
use mathlib.Core.List.{List, [], ◌∷◌}
use mathlib.Core.Option.{Option, some, none}
use Prim.Native.Nat.{ℕ, ◌*◌, ◌≤◌, ◌<◌}
use native.Mathlib.Nat.{mul-le-mul}
use native.Mathlib.Omega.{arith}
use lib.Dec.{T, eqb}
use borrow.Author.Tests.{le-ltb}
use Rattle.lists.specs.Lists.{any, first_of, sum, count, neighbours, Each, each_nil, each_cons}
use Rattle.lists.proofs.Laws.{each_map, some_any}
use Rattle.lists.proofs.Sums.{Held, each_picture, some_picture, each_present}
use Rattle.lists.proofs.Tests.{is_true}
use Rattle.calendar.specs.Dates.{month_lengths, longest, days_in, is_date, all_winter_dates, all_dates}
use Rattle.calendar.specs.Places.{before, month_of, day_of, has_date, date_of_winter, has_winter_date}
use Rattle.rounding.specs.Points.{rounded, rebuilt, most_point, exceeds}
use Rattle.rounding.proofs.Laws.{half_up_whole, half_up_at_most}
use Rattle.meaning.specs.Filing.{Filing, Meter, no_meter, curve_meter, index_meter, history_list, axis_of, years_in}
use Rattle.meaning.specs.Line.{most_power}
use Rattle.meaning.specs.Validity.{Interval, intervals, overlaps_winter, total_of, curve_valid, index_valid}
use Rattle.meaning.specs.Cases.{case_m, case2, Mark, curve_case, case_by, case_of, mark_of, marks_of, is_default}
use Rattle.meaning.specs.Points.{as_read, Donor, interval_at, read_by, read_at, donor_place, donor_of, curve_donor, curve_donors, own_of, rebuilt_by, source_by, source_at, rounded_origin, fraction_of, donor_cas, donor_points, origin_exceeds, source_exceeds, CurvePlace, place_of}
use Rattle.meaning.specs.Closing.{no_end, partial, no_data, zero_total, too_high, is_partial, some_winter_interval, lacks_profile, lacks_daily, close_holds, close_order, closing_refusal}
use Rattle.meaning.proofs.Accepted.{PointFits}
use Rattle.demands.proofs.Bound.Sane.{Sane}
use Rattle.demands.proofs.Bound.Years.{InHistory, each_year_lem, some_year}
use Rattle.demands.proofs.Bound.Places.{each_place}
use Rattle.demands.proofs.Bound.Intervals.{around}

-- ---- tests that fail for each element
none_passes : {A : Type 0} (p : A → Bool) {xs : List A} → Each (λ x. p x ≡ false) xs → any p xs ≡ false
unfolding any
none_passes p each_nil = refl
none_passes p (each_cons {x = x} {xs = xs} e r) = rw (e, none_passes p r)

never_passes : {A : Type 0} (p : A → Bool) → ((x : A) → p x ≡ false) → (xs : List A) → any p xs ≡ false
unfolding any
never_passes p h [] = refl
never_passes p h (x ∷ xs) = rw (h x, never_passes p h xs)

none_partial : (n full : ℕ) → n ≡ 0 → is_partial n full ≡ false
unfolding is_partial
none_partial n full e = rw e

-- ---- 14 and 15: E is taken, and there is no P or D line
not_unended : (F : Filing) → T F.ended → close_holds no_end F ≡ false
unfolding close_holds
not_unended F e = ap not (is_true F.ended e)

pub no_dates : (F : Filing) → ((y : ℕ) → F.profile_dates y ≡ 0) → ((y : ℕ) → F.daily_dates y ≡ 0) → close_holds partial F ≡ false
unfolding close_holds
no_dates F p d =
    rw (never_passes (λ y. is_partial (F.profile_dates y) (all_winter_dates y)) (λ y. none_partial (F.profile_dates y) (all_winter_dates y) (p y)) (history_list F))
    (never_passes (λ y. is_partial (F.daily_dates y) (all_dates y)) (λ y. none_partial (F.daily_dates y) (all_dates y) (d y)) (years_in (axis_of F)))

-- ---- a donor as read, whose CA is not below half the target's
record Modest (ca : ℕ) (d : Donor) : Type 0 where
  some_ca : 0 < d.ca
  half : ca ≤ 2 * d.ca
  low : origin_exceeds d.origin ≡ false
  most : rounded_origin d.origin ≤ 1000 * most_power

read_most : (v : ℕ) → v ≤ most_power → rounded_origin (as_read v) ≤ 1000 * most_power
unfolding rounded_origin rounded fraction_of
read_most v h =
    let e : 1000 * v * 1 ≡ 1000 * v = omega arith in
    rw (rw e at (half_up_whole (1000 * v) 1 (omega arith))) (omega arith)

modest_where : (b : Bool) (ca : ℕ) (o : Option Donor) → Held (Modest ca) o → Held (Modest ca) (cond b o none)
modest_where true ca o h = h
modest_where false ca o h = tt

-- CA of the target times their points is at most 200,000,000,000 mW times their CA
donors_most : {ca : ℕ} {ds : List Donor} → Each (Modest ca) ds → ca * donor_points ds ≤ most_point * donor_cas ds
unfolding donor_points donor_cas sum
donors_most each_nil = omega arith
donors_most (each_cons m r) = omega (arith, donors_most r, mul-le-mul m.half m.most)

donors_positive : {ca : ℕ} {d : Donor} {ds : List Donor} → Each (Modest ca) (d ∷ ds) → 0 < donor_cas (d ∷ ds)
unfolding donor_cas sum
donors_positive (each_cons m r) = omega (arith, m.some_ca)

rebuilt_low : (ca : ℕ) (ds : List Donor) → Each (Modest ca) ds → source_exceeds (rebuilt_by ca ds) ≡ false
unfolding rebuilt_by source_exceeds exceeds rounded rebuilt
rebuilt_low ca [] r = refl
rebuilt_low ca (d ∷ ds) r =
    rw (none_passes (λ (e : Donor). origin_exceeds e.origin) (each_map (λ e m. m.low) r))
    (le-ltb most_point _ (half_up_at_most most_point (ca * donor_points (d ∷ ds)) (donor_cas (d ∷ ds)) (donors_positive r) (donors_most r)))

-- ---- measured points are not checked
read_low : (o : Option ℕ) → source_exceeds (own_of (read_by o)) ≡ false
unfolding read_by own_of source_exceeds origin_exceeds
read_low none = refl
read_low (some v) = refl

-- every year has a 1 January
new_year : (y : ℕ) → T (has_winter_date y 0)
unfolding has_winter_date date_of_winter has_date is_date day_of month_of before count sum month_lengths days_in longest
new_year y = tt

-- a T year whose index is not valid, where some curve is
curve_case_lem : (m : Meter) (ks : List Mark) (k : Mark) → m ≡ curve_meter → k.index ≡ false → any (λ (j : Mark). j.curve) ks ≡ true
    → case_by m ks k ≡ cond k.curve case_m case2
unfolding case_by curve_case
curve_case_lem no_meter ks k m i c = let z : ◌≡◌ {A = ℕ} 0 1 = cc in absurd (omega arith)
curve_case_lem curve_meter ks k m i c = rw (i, c)
curve_case_lem index_meter ks k m i c = let z : ◌≡◌ {A = ℕ} 0 1 = cc in absurd (omega arith)

-- ---- a filing by curves alone
module _ (F : Filing) (s : Sane F) (curves : F.site.meter ≡ curve_meter) (unread : F.readings ≡ []) where
  no_interval : intervals F ≡ []
  unfolding intervals neighbours
  no_interval = rw unread

  none_around : (y w : ℕ) → interval_at F y w ≡ none
  unfolding interval_at first_of
  none_around y w = rw no_interval

  -- so 1 January is not covered
  no_index : (y : ℕ) → InHistory F y → index_valid F y ≡ false
  no_index y t = go (index_valid F y) (λ v. let a = around F s.known y 0 t (new_year y) v in (a.0, a.1))
    where
      go : (b : Bool) → (T b → (v : Interval) × (interval_at F y 0 ≡ some v)) → b ≡ false
      go true k =
          let found = (k tt).1 in
          let missed = none_around y 0 in
          let z : ◌≡◌ {A = ℕ} 0 1 = cc in
          absurd (omega arith)
      go false k = refl

  -- 16 and 17 check intervals of valid index years
  no_winter_interval : (p : Interval → Bool) → some_winter_interval F p ≡ false
  unfolding some_winter_interval
  no_winter_interval p =
      none_passes (λ y. index_valid F y && any (λ v. overlaps_winter F y v && p v) (intervals F)) (each_year_lem F (λ y t. rw (no_index y t)))

  -- ---- some curve year is valid
  module _ (z : ℕ) (at : InHistory F z) (valid : T (curve_valid F z)) where
    some_curve_lem : any (λ (k : Mark). k.curve) (marks_of F) ≡ true
    unfolding marks_of mark_of
    some_curve_lem = is_true _ (some_any (λ (k : Mark). k.curve) (some_picture (mark_of F) (some_year F z at valid)))

    pub case_alone : (y : ℕ) → InHistory F y → case_of F y ≡ cond (curve_valid F y) case_m case2
    unfolding case_of mark_of
    case_alone y t = curve_case_lem F.site.meter (marks_of F) (mark_of F y) curves (no_index y t) some_curve_lem

    -- 16
    not_lacking : close_holds no_data F ≡ false
    unfolding close_holds lacks_profile
    not_lacking = rw (none_passes (lacks_profile F) (each_year_lem F no_lack)) (no_winter_interval (lacks_daily F))
      where
        no_lack : (y : ℕ) → InHistory F y → lacks_profile F y ≡ false
        no_lack y t = rw (no_index y t, case_alone y t) (go (curve_valid F y))
          where
            go : (b : Bool) → (is_default (cond b case_m case2) && eqb (F.profile_dates y) 0) ≡ false
            go true = refl
            go false = refl

    -- 17
    not_zero : close_holds zero_total F ≡ false
    unfolding close_holds
    not_zero = no_winter_interval (λ v. eqb (total_of F v) 0)

    -- 18
    module _ (small : (y w h : ℕ) → PointFits (F.point y w h)) where
      curve_modest : (y w h : ℕ) → InHistory F y → Each (Modest (F.ca y)) (curve_donors F w h)
      unfolding curve_donors curve_donor read_at read_by donor_of PointFits origin_exceeds
      curve_modest y w h t =
          each_present (each_picture (curve_donor F w h) (each_year_lem F (λ x u.
          modest_where (curve_valid F x) (F.ca y) (donor_of F x (read_at F x (donor_place x w) h)) (read x u (F.point x (donor_place x w) h) (small x (donor_place x w) h)))))
        where
          read : (x : ℕ) → InHistory F x → (o : Option ℕ) → PointFits o → Held (Modest (F.ca y)) (donor_of F x (read_by o))
          read x u none p = tt
          read x u (some v) p = record { some_ca = s.some_ca x u; half = s.twofold y x t u; low = refl; most = read_most v p }

      source_low : (y w h : ℕ) → InHistory F y → source_exceeds (source_at F y w h) ≡ false
      unfolding source_at source_by read_at
      source_low y w h t = rw (case_alone y t) (go (curve_valid F y))
        where
          go : (b : Bool) → source_exceeds (source_by (cond b case_m case2) F y w h) ≡ false
          go true = read_low (F.point y w h)
          go false = rebuilt_low (F.ca y) (curve_donors F w h) (curve_modest y w h t)

      not_high : close_holds too_high F ≡ false
      unfolding close_holds place_of
      not_high = none_passes (λ (q : CurvePlace). source_exceeds q.source) (each_place F (λ y w h t d. source_low y w h t))

      pub curves_alone : T F.ended → close_holds partial F ≡ false → closing_refusal F ≡ none
      unfolding closing_refusal close_order first_of
      curves_alone e p = rw (not_unended F e, p, not_lacking, not_zero, not_high)
