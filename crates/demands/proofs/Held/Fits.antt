-- The record's ranges that refusal 1 checks, part by part, and what an accepted line keeps of a record.
use mathlib.Core.Bool.{true, false, not, ◌&&◌, ◌||◌}
use Prim.Native.Nat.{◌≤◌}
use native.Mathlib.Omega.{arith}
use lib.Dec.{T, leb, eqb, leb→le, le→leb}
use Rattle.calendar.specs.Dates.{all_winter_dates, all_dates}
use Rattle.lists.proofs.Tests.{and_made, and_parts}
use Rattle.calendar.specs.declared.Years.{Years}
use Rattle.calendar.specs.Spans.{axis_years}
use Rattle.meaning.specs.Line.{most_index}
use Rattle.meaning.specs.Refusals.{is_too_soon, most_readings}
use Rattle.meaning.specs.Record.{Rec, LastDates, is_taken, history_of_rec, axis_of_rec, is_within, site_fits, date_fits, year_fits, last_dates_fit, each_year, tallies_fit, rec_fits}
use Rattle.demands.proofs.Held.Counts.{dates_by, winter_dates_by, lines_by, dates_most, winters_most}
use Rattle.demands.proofs.Held.Ranges.{each_year_map}

-- ---- the parts of refusal 1's checks on the record
pub record LastsIn (h : Years) (k : LastDates) : Type 0 where
  pub c : T (date_fits h true k.c)
  pub x : T (date_fits (axis_years h) false k.x)
  pub d : T (date_fits (axis_years h) false k.d)
  pub p : T (date_fits h true k.p)
  pub b : T (year_fits h k.b)
  pub r : T (year_fits h k.r)

pub lasts_parts : (h : Years) (k : LastDates) → T (last_dates_fit h k) → LastsIn h k
unfolding last_dates_fit
lasts_parts h k t =
    let t1 = and_parts (date_fits h true k.c) _ t in
    let t2 = and_parts (date_fits (axis_years h) false k.x) _ t1.1 in
    let t3 = and_parts (date_fits (axis_years h) false k.d) _ t2.1 in
    let t4 = and_parts (date_fits h true k.p) _ t3.1 in
    let t5 = and_parts (year_fits h k.b) (year_fits h k.r) t4.1 in
    record { c = t1.0; x = t2.0; d = t3.0; p = t4.0; b = t5.0; r = t5.1 }

pub lasts_whole : (h : Years) (k : LastDates) → LastsIn h k → T (last_dates_fit h k)
unfolding last_dates_fit
lasts_whole h k i =
    and_made (date_fits h true k.c) _ i.c (and_made (date_fits (axis_years h) false k.x) _ i.x (and_made (date_fits (axis_years h) false k.d) _ i.d
    (and_made (date_fits h true k.p) _ i.p (and_made (year_fits h k.b) (year_fits h k.r) i.b i.r))))

-- what an accepted line keeps of a record: the ranges, and the room for lines
pub record Kept (s : Rec) : Type 0 where
  pub sited : T (site_fits (is_taken s) s.site)
  pub timely : T (not (is_too_soon s.site.al s.site.filiere))
  pub readings : s.readings ≤ most_readings
  pub index : s.last_index ≤ most_index
  pub lasts : LastsIn (history_of_rec s) s.lasts
  pub breaks : T (each_year (history_of_rec s) (λ y n. leb n 1) s.tallies.breaks)
  pub rates : T (each_year (history_of_rec s) (λ y n. eqb n 0 || is_within 10 1000 n) s.tallies.rates)
  pub profiled : T (each_year (history_of_rec s) (λ y n. leb n (winter_dates_by y s.lasts.p)) s.tallies.profile_dates)
  pub summed : T (each_year (axis_of_rec s) (λ y n. leb n (dates_by y s.lasts.d)) s.tallies.daily_dates)
  pub few : s.count ≤ lines_by s

pub kept_of : (s : Rec) → T (rec_fits s) → T (each_year (history_of_rec s) (λ y n. leb n (winter_dates_by y s.lasts.p)) s.tallies.profile_dates)
    → T (each_year (axis_of_rec s) (λ y n. leb n (dates_by y s.lasts.d)) s.tallies.daily_dates) → s.count ≤ lines_by s → Kept s
unfolding rec_fits tallies_fit
kept_of s t p d f =
    let t1 = and_parts (leb s.count 9999 && leb s.last 8) _ t in
    let t2 = and_parts (site_fits (is_taken s) s.site && not (is_too_soon s.site.al s.site.filiere)) _ t1.1 in
    let t3 = and_parts (leb s.readings most_readings && leb s.last_index most_index) _ t2.1 in
    let t4 = and_parts (last_dates_fit (history_of_rec s) s.lasts) _ t3.1 in
    let site = and_parts (site_fits (is_taken s) s.site) _ t2.0 in
    let numbers = and_parts (leb s.readings most_readings) (leb s.last_index most_index) t3.0 in
    let t5 = and_parts (each_year (history_of_rec s) (λ y n. leb n (all_winter_dates y)) s.tallies.profile_dates) _ t4.1 in
    let t6 = and_parts (each_year (axis_years (history_of_rec s)) (λ y n. leb n (all_dates y)) s.tallies.daily_dates) _ t5.1 in
    let t7 = and_parts (each_year (history_of_rec s) (λ y n. leb n 1) s.tallies.breaks) _ t6.1 in
    record {
      sited = site.0;
      timely = site.1;
      readings = leb→le _ _ numbers.0;
      index = leb→le _ _ numbers.1;
      lasts = lasts_parts (history_of_rec s) s.lasts t4.0;
      breaks = t7.0;
      rates = t7.1;
      profiled = p;
      summed = d;
      few = f;
    }

pub fits_of : (s : Rec) → Kept s → s.count ≤ 9999 → s.last ≤ 8 → T (rec_fits s)
unfolding rec_fits tallies_fit axis_of_rec
fits_of s k n l =
    and_made (leb s.count 9999 && leb s.last 8) _
    (and_made (leb s.count 9999) _ (le→leb s.count 9999 n) (le→leb s.last 8 l))
    (and_made (site_fits (is_taken s) s.site && not (is_too_soon s.site.al s.site.filiere)) _
    (and_made (site_fits (is_taken s) s.site) _ k.sited k.timely)
    (and_made (leb s.readings most_readings && leb s.last_index most_index) _
    (and_made (leb s.readings most_readings) _ (le→leb s.readings most_readings k.readings) (le→leb s.last_index most_index k.index))
    (and_made (last_dates_fit (history_of_rec s) s.lasts) _ (lasts_whole (history_of_rec s) s.lasts k.lasts) tallies)))
  where
    tallies : T (tallies_fit (history_of_rec s) s.tallies)
    tallies =
        and_made (each_year (history_of_rec s) (λ y n. leb n (all_winter_dates y)) s.tallies.profile_dates) _
        (each_year_map (history_of_rec s) (λ y n. leb n (winter_dates_by y s.lasts.p)) (λ y n. leb n (all_winter_dates y)) s.tallies.profile_dates
        (λ y n u. le→leb n (all_winter_dates y) (omega (arith, leb→le n (winter_dates_by y s.lasts.p) u, winters_most y s.lasts.p))) k.profiled)
        (and_made (each_year (axis_years (history_of_rec s)) (λ y n. leb n (all_dates y)) s.tallies.daily_dates) _
        (each_year_map (axis_years (history_of_rec s)) (λ y n. leb n (dates_by y s.lasts.d)) (λ y n. leb n (all_dates y)) s.tallies.daily_dates
        (λ y n u. le→leb n (all_dates y) (omega (arith, leb→le n (dates_by y s.lasts.d) u, dates_most y s.lasts.d))) k.summed)
        (and_made (each_year (history_of_rec s) (λ y n. leb n 1) s.tallies.breaks) _ k.breaks k.rates))
