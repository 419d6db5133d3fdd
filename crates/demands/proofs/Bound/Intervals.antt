-- Where a close is not refused by 17, the daily sums over the interval around a day of a valid index year's winter are not all 0.
use mathlib.Core.Path.{◌≡◌, refl}
use mathlib.Core.Bool.{Bool, true, false, not, ◌&&◌, ◌||◌}
use mathlib.Core.Option.{some, none}
use Prim.Native.Nat.{ℕ, zero, suc, ◌-◌, ◌*◌, ◌<◌}
use native.Mathlib.Omega.{arith}
use lib.Dec.{T, eqb, leb, ltb}
use borrow.Author.Tests.{ltb-true, ltb-false}
use Rattle.lists.specs.Lists.{any, all}
use Rattle.lists.proofs.Laws.{first_none, any_each, any_some, some_any}
use Rattle.lists.proofs.Reflect.{of_and, of_eq, of_le, of_lt, of_all}
use Rattle.lists.proofs.Sums.{In, each_in, some_in_lem, in_range_lem, in_kept, first_some}
use Rattle.lists.proofs.Tests.{both_not, and_left, and_right, and_made}
use Rattle.calendar.specs.Dates.{is_winter}
use Rattle.calendar.specs.Places.{has_date, has_winter_date, month_of, date_of_winter}
use Rattle.calendar.specs.Spans.{is_known, year_at, place_at}
use Rattle.calendar.proofs.Laws.{WinterPlaceHasDay, winter_place_day, no_winter_date_past}
use Rattle.meaning.specs.Filing.{Filing, axis_of, year_of, history_list}
use Rattle.meaning.specs.Validity.{Interval, intervals, days_of, has_day, total_of, is_winter_day, overlaps_winter, winter_days, is_covered, is_sound, index_valid}
use Rattle.meaning.specs.Points.{position_at, interval_at}
use Rattle.meaning.specs.Closing.{zero_total, close_holds, close_order, closing_refusal, some_winter_interval}
use Rattle.meaning.proofs.Passed.{each_head, each_tail}
use Rattle.demands.proofs.Bound.Years.{InHistory, in_history, axis_before}

-- 17 does not hold where nothing refuses
pub no_zero_total : (F : Filing) → closing_refusal F ≡ none → T (not (close_holds zero_total F))
unfolding closing_refusal close_order
no_zero_total F e = each_head (each_tail (each_tail (each_tail (first_none (λ k. close_holds k F) close_order e))))

-- so no interval that overlaps the winter of a valid index year has only daily sums of 0
not_zero : (F : Filing) (y : ℕ) → InHistory F y → T (not (close_holds zero_total F)) → T (index_valid F y) → (v : Interval) → In v (intervals F) → T (overlaps_winter F y v)
    → 0 < total_of F v
unfolding close_holds some_winter_interval
not_zero F y t n h v i o = go (total_of F v) refl
  where
    hits : ℕ → Interval → Bool
    hits z u = overlaps_winter F z u && eqb (total_of F u) 0

    none_hit : T (not (index_valid F y && any (hits y) (intervals F)))
    none_hit = each_in (any_each (λ z. index_valid F z && any (hits z) (intervals F)) (history_list F) n) (in_history F y t)

    hit : total_of F v ≡ 0 → T (hits y v)
    hit e = and_made (overlaps_winter F y v) (eqb (total_of F v) 0) o ((of_eq (total_of F v) 0).1 e)

    go : (k : ℕ) → total_of F v ≡ k → 0 < total_of F v
    go zero e =
        absurd (both_not (index_valid F y && any (hits y) (intervals F))
        (and_made (index_valid F y) (any (hits y) (intervals F)) h (some_any (hits y) (some_in_lem i (hit e)))) none_hit)
    go (suc k) e = omega arith

-- a valid index year's winter is covered
covered : (F : Filing) (y : ℕ) → T (index_valid F y) → T (is_covered F y)
unfolding index_valid
covered F y h =
    let sound = all (λ v. not (overlaps_winter F y v) || is_sound v) (intervals F) in
    and_left (is_covered F y) sound (and_right (not (F.broken y)) (is_covered F y && sound) h)

-- a winter place with a date is one of the 152
pub in_152 : (y w : ℕ) → T (has_winter_date y w) → w < 152
in_152 y w t = go (ltb w 152) refl
  where
    go : (b : Bool) → ltb w 152 ≡ b → w < 152
    go true e = ltb-true w 152 e
    go false e = absurd (rw (no_winter_date_past y w (ltb-false w 152 e)) at t)

-- ---- the day of a year's winter place
module _ (F : Filing) (known : T (is_known F.site.al F.site.filiere)) (y w : ℕ) (t : InHistory F y) (dated : T (has_winter_date y w)) where
  there : WinterPlaceHasDay w
  there = winter_place_day w (in_152 y w dated)

  year_there : year_of F (position_at F y w) ≡ y
  unfolding year_of year_at position_at
  year_there =
      let a = axis_before F known y t in
      let d = there.below in
      omega arith

  place_there : place_at (position_at F y w) ≡ date_of_winter w
  unfolding place_at position_at
  place_there = let d = there.below in omega arith

  winter_there : T (is_winter_day F y (position_at F y w))
  unfolding is_winter_day
  winter_there =
      rw (year_there, place_there)
      (and_made (eqb y y) (is_winter (month_of (date_of_winter w))) ((of_eq y y).1 refl) there.is_winter_lem)

  date_there : T (has_date (year_of F (position_at F y w)) (place_at (position_at F y w)))
  unfolding has_winter_date
  date_there = rw (year_there, place_there) dated

  in_winter : In (position_at F y w) (winter_days F y)
  unfolding winter_days position_at
  in_winter =
      let p = position_at F y w in
      let d = there.below in
      in_kept (λ q. has_date y (place_at q) && is_winter_day F y q) (in_range_lem (366 * (y - (axis_of F).first)) 366 p (omega arith) (omega arith))
      (and_made (has_date y (place_at p)) (is_winter_day F y p) (rw year_there at date_there) winter_there)

  -- an interval with that day overlaps the year's winter
  overlaps : (v : Interval) → T (has_day v (position_at F y w)) → T (overlaps_winter F y v)
  unfolding overlaps_winter days_of has_day
  overlaps v h =
      let p = position_at F y w in
      let a = v.from.position in
      let b = v.to.position in
      let s = (of_and (leb a p) (ltb p b) (of_le a p) (of_lt p b)).0 h in
      some_any (is_winter_day F y)
      (some_in_lem (in_kept (λ q. has_date (year_of F q) (place_at q)) (in_range_lem a (b - a) p s.0 (omega arith)) date_there) winter_there)

  -- a valid index year has an interval there
  pub around : T (index_valid F y) → (v : Interval) × (interval_at F y w ≡ some v) × T (has_day v (position_at F y w)) × In v (intervals F)
  unfolding is_covered interval_at
  around h =
      let p = position_at F y w in
      let each = (of_all (λ q. any (λ v. has_day v q) (intervals F)) (λ q. (λ u. u, λ u. u)) (winter_days F y)).0 (covered F y h) in
      first_some (λ v. has_day v p) (any_some (λ v. has_day v p) (intervals F) (each_in each in_winter))

  -- and, 17 not being met, its daily sums are not all 0
  pub total_positive : T (not (close_holds zero_total F)) → T (index_valid F y) → (v : Interval) × (interval_at F y w ≡ some v) × (0 < total_of F v)
  total_positive n h =
      let a = around h in
      (a.0, a.1, not_zero F y t n h a.0 a.3 (overlaps a.0 a.2))
