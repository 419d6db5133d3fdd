-- A line after S: the years stay, and what the line changes stays within its range.
use mathlib.Core.Path.{◌≡◌, refl, sym}
use mathlib.Core.Bool.{Bool, true, false, not, ◌&&◌, ◌||◌, cond}
use mathlib.Core.Option.{none}
use Prim.Native.Nat.{ℕ, ◌+◌, ◌≤◌}
use native.Mathlib.Omega.{arith}
use lib.Dec.{T, leb, eqb, le→leb, nleb→lt}
use Rattle.lists.proofs.Tests.{is_false, and_made, or_right}
use Rattle.calendar.specs.declared.Years.{Years}
use Rattle.calendar.specs.Spans.{among}
use Rattle.meaning.specs.Filing.{Site, no_site}
use Rattle.meaning.specs.Line.{Line, S, C, X, D, P, B, R, rank, is, tag_of, number_at, year_on, month_on, day_on, key_of, site_on, most_index}
use Rattle.meaning.specs.Refusals.{misplaced, too_many, holds, refusal, most_readings}
use Rattle.meaning.specs.Record.{Rec, is_taken, site_of_rec, history_of_rec, axis_of_rec, is_within, site_fits, date_fits, year_fits, misplaced_by, before_of}
use Rattle.meaning.specs.Calls.{last_dates_after, tallies_after, rec_after}
use Rattle.meaning.proofs.Passed.{passed}
use Rattle.meaning.proofs.Accepted.{rate_in_lem, is_tag}
use Rattle.demands.proofs.Held.Counts.{dates_by, winter_dates_by, years_by, lines_by}
use Rattle.demands.proofs.Held.Order.{known_tag_lem, later_line}
use Rattle.demands.proofs.Held.Rising.{on_c, on_x_lem, on_d, on_p, on_b, on_r, grows_c, grows_d, grows_p, grows_b, grows_r}
use Rattle.demands.proofs.Held.Ranges.{picked, date_fits_lem, set_by, tally_by}
use Rattle.demands.proofs.Held.Fits.{LastsIn, Kept}
use Rattle.demands.proofs.Held.Room.{part, one_reading, one_tag, marks_later}

-- ---- by tests
readings_by : (b : Bool) (n : ℕ) → n ≤ most_readings → T (not (b && leb most_readings n)) → cond b (n + 1) n ≤ most_readings
readings_by true n h t = omega (arith, nleb→lt most_readings n t)
readings_by false n h t = h

index_by : (b : Bool) (v n : ℕ) → n ≤ most_index → (T b → v ≤ most_index) → cond b v n ≤ most_index
index_by true v n h f = f tt
index_by false v n h f = h

year_fits_lem : (h : Years) (b : Bool) (q k : ℕ) → T (year_fits h k) → (T b → T (among h q)) → T (year_fits h (cond b q k))
unfolding year_fits
year_fits_lem h b q k t f = picked (year_fits h) b q k t (λ u. or_right (eqb q 0) _ (f u))

rate_fits_lem : (v : ℕ) → (10 ≤ v) × (v ≤ 1000) → T (eqb v 0 || is_within 10 1000 v)
unfolding is_within
rate_fits_lem v h = or_right (eqb v 0) _ (and_made (leb 10 v) (leb v 1000) (le→leb 10 v h.0) (le→leb v 1000 h.1))

-- ---- the years stay
site_same : (a b c : Bool) (x y : Site) → T (not a) → T b → T c → cond b (cond a x y) no_site ≡ cond c y no_site
site_same true b c x y h t u = absurd h
site_same false true true x y h t u = refl
site_same false true false x y h t u = absurd u
site_same false false c x y h t u = absurd t

site_fits_lem : (a b c : Bool) (x y : Site) → T (not a) → T b → T c → T (site_fits c y) → T (site_fits b (cond a x y))
site_fits_lem true b c x y h t u f = absurd h
site_fits_lem false true true x y h t u f = f
site_fits_lem false true false x y h t u f = absurd u
site_fits_lem false false c x y h t u f = absurd t

module _ (s : Rec) (l : Line) (e : refusal (before_of s) l ≡ none) (n : T (not (is S (tag_of l)))) (k : Kept s) where
  placed : T (not (misplaced_by s.last s.site.meter (tag_of l)))
  unfolding holds before_of
  placed = passed (before_of s) l e misplaced

  taken : T (is_taken s)
  unfolding is_taken
  taken = later_line s.last s.site.meter (tag_of l) placed n

  same_site : site_of_rec (rec_after (tag_of l) l s) ≡ site_of_rec s
  unfolding rec_after site_of_rec is_taken
  same_site = site_same (is S (tag_of l)) (not (eqb (rank (tag_of l)) 0)) (not (eqb s.last 0)) (site_on l) s.site n (known_tag_lem (before_of s) l e) taken

  same_span : history_of_rec (rec_after (tag_of l) l s) ≡ history_of_rec s
  unfolding history_of_rec
  same_span = rw same_site

  same_axis : axis_of_rec (rec_after (tag_of l) l s) ≡ axis_of_rec s
  unfolding axis_of_rec
  same_axis = rw same_span

  many : T (not (is X (tag_of l) && leb most_readings s.readings))
  unfolding holds before_of
  many = passed (before_of s) l e too_many

  lasts_later : LastsIn (history_of_rec s) (last_dates_after (tag_of l) l s.lasts)
  unfolding last_dates_after key_of axis_of_rec
  lasts_later = record {
    c =
        picked (date_fits (history_of_rec s) true) (is C (tag_of l)) (key_of C l) s.lasts.c k.lasts.c
        (λ h. let a = on_c s l e h in date_fits_lem (history_of_rec s) true (year_on l) (month_on l) (day_on l) a.year a.date (λ w. a.winter));
    x =
        picked (date_fits (axis_of_rec s) false) (is X (tag_of l)) (key_of X l) s.lasts.x k.lasts.x
        (λ h. let a = on_x_lem s l e h in date_fits_lem (axis_of_rec s) false (year_on l) (month_on l) (day_on l) a.year a.date (λ w. absurd w));
    d =
        picked (date_fits (axis_of_rec s) false) (is D (tag_of l)) (key_of D l) s.lasts.d k.lasts.d
        (λ h. let a = on_d s l e h in date_fits_lem (axis_of_rec s) false (year_on l) (month_on l) (day_on l) a.year a.date (λ w. absurd w));
    p =
        picked (date_fits (history_of_rec s) true) (is P (tag_of l)) (key_of P l) s.lasts.p k.lasts.p
        (λ h. let a = on_p s l e h in date_fits_lem (history_of_rec s) true (year_on l) (month_on l) (day_on l) a.year a.date (λ w. a.winter));
    b = year_fits_lem (history_of_rec s) (is B (tag_of l)) (key_of B l) s.lasts.b k.lasts.b (on_b s l e);
    r = year_fits_lem (history_of_rec s) (is R (tag_of l)) (key_of R l) s.lasts.r k.lasts.r (on_r s l e);
  }

  few_later : s.count + 1 ≤ lines_by (rec_after (tag_of l) l s)
  unfolding lines_by rec_after last_dates_after
  few_later = rw (same_span, same_axis) (omega (
    arith,
    k.few,
    one_tag (tag_of l) (known_tag_lem (before_of s) l e),
    marks_later s.last s.site.meter (tag_of l) placed (known_tag_lem (before_of s) l e) n,
    one_reading (is X (tag_of l)) s.readings,
    part (history_of_rec s) winter_dates_by (is C (tag_of l)) (year_on l) s.lasts.c (key_of C l) (λ h. (on_c s l e h).year) (grows_c s l e),
    part (axis_of_rec s) dates_by (is D (tag_of l)) (year_on l) s.lasts.d (key_of D l) (λ h. (on_d s l e h).year) (grows_d s l e),
    part (history_of_rec s) winter_dates_by (is P (tag_of l)) (year_on l) s.lasts.p (key_of P l) (λ h. (on_p s l e h).year) (grows_p s l e),
    part (history_of_rec s) years_by (is B (tag_of l)) (year_on l) s.lasts.b (key_of B l) (on_b s l e) (grows_b s l e),
    part (history_of_rec s) years_by (is R (tag_of l)) (year_on l) s.lasts.r (key_of R l) (on_r s l e) (grows_r s l e),
  ))

  pub kept_later : Kept (rec_after (tag_of l) l s)
  unfolding rec_after last_dates_after tallies_after is_taken
  kept_later = record {
    sited = site_fits_lem (is S (tag_of l)) (not (eqb (rank (tag_of l)) 0)) (not (eqb s.last 0)) (site_on l) s.site n (known_tag_lem (before_of s) l e) taken k.sited;
    timely = rw (is_false (is S (tag_of l)) n) k.timely;
    readings = readings_by (is X (tag_of l)) s.readings k.readings many;
    index = index_by (is X (tag_of l)) (number_at l 4) s.last_index k.index (λ h. (on_x_lem s l e h).number);
    lasts = rw same_span lasts_later;
    breaks = rw same_span (set_by (history_of_rec s) (λ y m. leb m 1) (is B (tag_of l)) s.tallies.breaks (year_on l) 1 k.breaks (on_b s l e) (λ h. tt));
    rates =
        rw same_span (set_by (history_of_rec s) (λ y m. eqb m 0 || is_within 10 1000 m) (is R (tag_of l)) s.tallies.rates (year_on l) (number_at l 2) k.rates (on_r s l e)
        (λ h. rate_fits_lem (number_at l 2) (rate_in_lem (before_of s) l e (sym (is_tag R (tag_of l) h)))));
    profiled =
        rw same_span (tally_by (history_of_rec s) winter_dates_by (is P (tag_of l)) l s.lasts.p (key_of P l) s.tallies.profile_dates k.profiled
        (λ h. (on_p s l e h).year) (grows_p s l e));
    summed =
        rw same_axis (tally_by (axis_of_rec s) dates_by (is D (tag_of l)) l s.lasts.d (key_of D l) s.tallies.daily_dates k.summed
        (λ h. (on_d s l e h).year) (grows_d s l e));
    few = few_later;
  }
