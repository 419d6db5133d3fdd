-- A close is refused for a reason exactly where its words hold and those of no reason checked before it do.
use mathlib.Core.Path.{◌≡◌, refl}
use mathlib.Core.Logic.Iff
use mathlib.Core.Logic.{◌↔◌, ◌⊎◌, inl, inr}
use mathlib.Core.Bool.{Bool, true, false, not, ◌&&◌, ◌||◌, cond}
use mathlib.Core.List.{List, [], ◌∷◌, map}
use Prim.Native.Nat.{ℕ, ◌-◌, ◌<◌}
use native.Mathlib.Omega.{arith}
use lib.Dec.{T, ltb, eqb}
use Rattle.lists.specs.Lists.{any, all, keep, flat, tab, range, sum, Each, each_nil, each_cons, Some}
use Rattle.lists.proofs.Laws.{some_map}
use Rattle.lists.proofs.Reflect.{of_eq, of_lt, of_or, of_and, of_not, of_any, of_all}
use Rattle.lists.proofs.RestatedLists.{some_keep, some_range, map_some, some_flat, some_tab, sum_zero, each_tab, Front, front_nil, front_cons, of_order, of_order_none}
use Rattle.calendar.specs.Dates.{leap, all_winter_dates, all_dates}
use Rattle.calendar.specs.Places.{has_date}
use Rattle.calendar.specs.Spans.{place_at}
use Rattle.calendar.proofs.Laws.Days.{leap_words}
use Rattle.note.specs.Peaks.{peak_days}
use Rattle.rounding.specs.Points.{most_point, rounded, profiled, rebuilt, by_default, exceeds}
use Rattle.meaning.specs.Filing.{Filing, Reading, axis_of, years_in, history_list, year_of, daily_at}
use Rattle.meaning.specs.Validity.{Interval, intervals, days_of, total_between, total_of, overlaps_winter, touches, index_valid}
use Rattle.meaning.specs.Cases.{Case, case_m, case1, case2, case3, case4, case_p, case5, case6, case_of, is_default}
use Rattle.meaning.specs.Points.{Origin, as_read, by_profile, fraction_of, Donor, Source, missing, own, from_donors, from_default, rounded_origin, donor_cas, donor_points, origin_exceeds, source_exceeds, CurvePlace, place_of, year_places, all_places}
use Rattle.meaning.specs.Closing.{CloseReason, no_end, partial, no_data, zero_total, too_high, close_number, is_partial, some_winter_interval, lacks_profile, lacks_daily, close_holds, close_order, closing_refusal}
use Rattle.meaning.specs.Restated.Dates.{Leap}
use Rattle.meaning.specs.Restated.Years.{Between, WinterDay, SomeYear}
use Rattle.meaning.specs.Restated.Close.{SomeAxisYear, Partial, SomeInterval, Touches, HighOrigin, High, CloseWords, earlier_lack, ClosingWords}
use Rattle.meaning.proofs.Passed.{each_head, each_tail}
use Rattle.meaning.proofs.Pins.Dates.{date_words}
use Rattle.meaning.proofs.Pins.Years.{valid_words, some_intervals, of_overlap}
use Rattle.meaning.proofs.Pins.Cases.{some_history, some_axis}

-- ---- 15
of_partial : (a b y n : ℕ) → T (is_partial n (cond (leap y) a b)) ↔ Partial a b y n
unfolding is_partial
of_partial a b y n = of_and (not (eqb n 0)) (not (eqb n (cond (leap y) a b))) (of_not (eqb n 0) (of_eq n 0)) (of_not (eqb n (cond (leap y) a b)) (full (leap y) (leap_words y)))
  where
    full : (l : Bool) → T l ↔ Leap y → T (eqb n (cond l a b)) ↔ ((Leap y × (n ≡ a)) ⊎ ((¬ Leap y) × (n ≡ b)))
    full true r = Iff.trans (of_eq n a) (λ e. inl (r.0 tt, e), λ s. elim s [ inl q ↦ q.1 | inr q ↦ absurd (q.0 (r.0 tt)) ])
    full false r = Iff.trans (of_eq n b) (λ e. inr (λ l. r.1 l, e), λ s. elim s [ inl q ↦ absurd (r.1 q.0) | inr q ↦ q.1 ])

any_history : {Q : ℕ → Type 0} (F : Filing) (p : ℕ → Bool) → ((y : ℕ) → T (p y) ↔ Q y) → T (any p (history_list F)) ↔ SomeYear F Q
any_history F p f = Iff.trans (of_any p f (history_list F)) (some_history F)

any_axis : {Q : ℕ → Type 0} (F : Filing) (p : ℕ → Bool) → ((y : ℕ) → T (p y) ↔ Q y) → T (any p (years_in (axis_of F))) ↔ SomeAxisYear F Q
any_axis F p f = Iff.trans (of_any p f (years_in (axis_of F))) (some_axis F)

-- ---- 16 and 17
of_interval_lem : {Q : Reading → Reading → Type 0} (F : Filing) (p : Interval → Bool) → ((a b : Reading) → T (p (record { from = a; to = b })) ↔ Q a b)
    → T (some_winter_interval F p) ↔ SomeInterval F Q
unfolding some_winter_interval
of_interval_lem {Q} F p f =
    any_history F (λ y. index_valid F y && any (λ v. overlaps_winter F y v && p v) (intervals F))
    (λ y. of_and (index_valid F y) (any (λ v. overlaps_winter F y v && p v) (intervals F)) (valid_words.index F y)
    (Iff.trans (of_any (λ v. overlaps_winter F y v && p v) (λ v. (λ t. t, λ t. t)) (intervals F)) (Iff.trans (some_intervals F) (
      λ s. (s.0, s.1, s.2, (both y s.0 s.1).0 s.3),
      λ s. (s.0, s.1, s.2, (both y s.0 s.1).1 s.3),
    ))))
  where
    both : (y : ℕ) (a b : Reading) → T (overlaps_winter F y (record { from = a; to = b }) && p (record { from = a; to = b })) ↔ (((q : ℕ) × Between a b q × WinterDay F y q) × Q a b)
    both y a b = of_and (overlaps_winter F y (record { from = a; to = b })) (p (record { from = a; to = b })) (of_overlap F y a b) (f a b)

of_touches : (F : Filing) (z : ℕ) (a b : Reading) → T (touches F z (record { from = a; to = b })) ↔ Touches F z a b
unfolding touches days_of has_date
of_touches F z a b =
    Iff.trans (of_any (λ p. eqb (year_of F p) z) (λ p. of_eq (year_of F p) z) (keep (λ p. has_date (year_of F p) (place_at p)) (range a.position (b.position - a.position))))
    (Iff.trans (some_keep (λ p. has_date (year_of F p) (place_at p)) (range a.position (b.position - a.position)))
    (Iff.trans (some_range a.position (b.position - a.position)) (
      λ s. (s.0, omega (arith, s.1, s.2), (s.3.1, (date_words.date z _ _).0 (rw s.3.1 at s.3.0))),
      λ s. (s.0, s.1.0, omega (arith, s.1), (rw s.2.0 ((date_words.date z _ _).1 s.2.1), s.2.0)),
    )))

of_default : (c : Case) → T (is_default c) ↔ ((c ≡ case4) ⊎ (c ≡ case6))
of_default c = (forth c, λ s. elim s [ inl e ↦ rw e tt | inr e ↦ rw e tt ])
  where
    forth : (c : Case) → T (is_default c) → (c ≡ case4) ⊎ (c ≡ case6)
    forth case_m t = absurd t
    forth case1 t = absurd t
    forth case2 t = absurd t
    forth case3 t = absurd t
    forth case4 t = inl refl
    forth case_p t = absurd t
    forth case5 t = absurd t
    forth case6 t = inr refl

of_zero : (F : Filing) (a b : Reading) → T (eqb (total_of F (record { from = a; to = b })) 0) ↔ ((p : ℕ) → Between a b p → daily_at F p ≡ 0)
unfolding total_of total_between
of_zero F a b =
    Iff.trans (of_eq (sum (tab (b.position - a.position) a.position (daily_at F))) 0)
    (Iff.trans (sum_zero (tab (b.position - a.position) a.position (daily_at F)))
    (Iff.trans (each_tab (b.position - a.position) a.position (daily_at F)) (
      λ f p h. f p h.0 (omega (arith, h)),
      λ f p h k. f p (h, omega arith),
    )))

-- ---- 18
of_high_origin : (o : Origin) → T (origin_exceeds o) ↔ HighOrigin o
unfolding origin_exceeds exceeds rounded_origin fraction_of
of_high_origin (as_read w) = (λ t. t, λ t. t)
of_high_origin (by_profile e p t) = of_lt most_point (rounded (profiled e p t))

pub of_high : (s : Source) → T (source_exceeds s) ↔ High s
unfolding source_exceeds exceeds
of_high missing = (λ t. t, λ t. t)
of_high (own o) = of_high_origin o
of_high (from_donors ca ds) =
    of_or (any (λ (d : Donor). origin_exceeds d.origin) ds) (ltb most_point (rounded (rebuilt ca (donor_points ds) (donor_cas ds))))
    (of_any (λ (d : Donor). origin_exceeds d.origin) (λ d. of_high_origin d.origin) ds) (of_lt most_point (rounded (rebuilt ca (donor_points ds) (donor_cas ds))))
of_high (from_default ps th p ca n cas) = of_lt most_point (rounded (by_default ps th p ca n cas))

-- a place of the curve is that of a history year, a peak day of it and a half-hour
pub some_places : {Q : CurvePlace → Type 0} (F : Filing) → Some Q (all_places F) ↔ SomeYear F (λ y. Some (λ w. (h : ℕ) × (h < 20) × Q (place_of F y w h)) (peak_days y))
unfolding all_places year_places
some_places {Q} F = Iff.trans (some_flat {P = Q} (map (year_places F) (history_list F))) (Iff.trans (map_some (year_places F) (history_list F)) (Iff.trans (some_history F) (
  λ s. (s.0, s.1, (days s.0).0 s.2),
  λ s. (s.0, s.1, (days s.0).1 s.2),
)))
  where
    hours : (y w : ℕ) → Some Q (tab 20 0 (place_of F y w)) ↔ ((h : ℕ) × (h < 20) × Q (place_of F y w h))
    hours y w = Iff.trans (some_tab {P = Q} 20 0 (place_of F y w)) (λ s. (s.0, omega (arith, s.2), s.3), λ s. (s.0, omega arith, omega (arith, s.1), s.2))

    days : (y : ℕ) → Some Q (flat (map (λ w. tab 20 0 (place_of F y w)) (peak_days y))) ↔ Some (λ w. (h : ℕ) × (h < 20) × Q (place_of F y w h)) (peak_days y)
    days y = Iff.trans (some_flat {P = Q} (map (λ w. tab 20 0 (place_of F y w)) (peak_days y))) (Iff.trans (map_some (λ w. tab 20 0 (place_of F y w)) (peak_days y)) (
      λ s. some_map (λ w q. (hours y w).0 q) s,
      λ s. some_map (λ w q. (hours y w).1 q) s,
    ))

-- ---- each condition
pub of_lacks : (F : Filing) (k : CloseReason) → T (close_holds k F) ↔ CloseWords k F
unfolding close_holds CloseWords all_winter_dates all_dates lacks_profile lacks_daily place_of
of_lacks F no_end = of_not F.ended (λ t. t, λ t. t)
of_lacks F partial =
    of_or (any (λ y. is_partial (F.profile_dates y) (all_winter_dates y)) (history_list F)) (any (λ z. is_partial (F.daily_dates z) (all_dates z)) (years_in (axis_of F)))
    (any_history F (λ y. is_partial (F.profile_dates y) (all_winter_dates y)) (λ y. of_partial 152 151 y (F.profile_dates y)))
    (any_axis F (λ z. is_partial (F.daily_dates z) (all_dates z)) (λ z. of_partial 366 365 z (F.daily_dates z)))
of_lacks F no_data =
    of_or (any (lacks_profile F) (history_list F)) (some_winter_interval F (lacks_daily F))
    (any_history F (lacks_profile F) (λ y. of_and (index_valid F y || is_default (case_of F y)) (eqb (F.profile_dates y) 0)
    (of_or (index_valid F y) (is_default (case_of F y)) (valid_words.index F y) (of_default (case_of F y))) (of_eq (F.profile_dates y) 0)))
    (of_interval_lem F (lacks_daily F) (λ a b. any_axis F (λ z. eqb (F.daily_dates z) 0 && touches F z (record { from = a; to = b }))
    (λ z. of_and (eqb (F.daily_dates z) 0) (touches F z (record { from = a; to = b })) (of_eq (F.daily_dates z) 0) (of_touches F z a b))))
of_lacks F zero_total = of_interval_lem F (λ v. eqb (total_of F v) 0) (of_zero F)
of_lacks F too_high =
    Iff.trans (of_any (λ (q : CurvePlace). source_exceeds q.source) (λ q. of_high q.source) (all_places F)) (some_places F)

-- ---- the first that holds
front : (k : CloseReason) → Front k (earlier_lack k) close_order
unfolding earlier_lack close_order
front no_end = front_nil
front partial = front_cons front_nil
front no_data = front_cons (front_cons front_nil)
front zero_total = front_cons (front_cons (front_cons front_nil))
front too_high = front_cons (front_cons (front_cons (front_cons front_nil)))

lower_test : (k : CloseReason) → T (all (λ j. ltb (close_number j) (close_number k)) (earlier_lack k))
unfolding earlier_lack close_number all
lower_test no_end = tt
lower_test partial = tt
lower_test no_data = tt
lower_test zero_total = tt
lower_test too_high = tt

lower : (k : CloseReason) → Each (λ j. close_number j < close_number k) (earlier_lack k)
lower k = (of_all (λ j. ltb (close_number j) (close_number k)) (λ j. of_lt (close_number j) (close_number k)) (earlier_lack k)).0 (lower_test k)

each_lack : {Q : CloseReason → Type 0} → Each Q close_order → (k : CloseReason) → Q k
unfolding close_order
each_lack e no_end = each_head e
each_lack e partial = each_head (each_tail e)
each_lack e no_data = each_head (each_tail (each_tail e))
each_lack e zero_total = each_head (each_tail (each_tail (each_tail e)))
each_lack e too_high = each_head (each_tail (each_tail (each_tail (each_tail e))))

every_lack : {Q : CloseReason → Type 0} → ((k : CloseReason) → Q k) → (ks : List CloseReason) → Each Q ks
every_lack f [] = each_nil
every_lack f (k ∷ ks) = each_cons (f k) (every_lack f ks)

pub closing_words : ClosingWords
unfolding closing_refusal
closing_words = record {
  refused = λ F k. of_order (λ j. close_holds j F) (of_lacks F) close_number (front k) (lower k);
  reported = λ F. Iff.trans (of_order_none (λ j. close_holds j F) (of_lacks F) close_order) (λ e k. each_lack e k, λ f. every_lack f close_order);
}
