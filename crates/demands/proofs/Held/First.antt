-- S: the first line of a file, before which the record has no years and so no dates, no numbers by year and no lines.
use mathlib.Core.Path.{◌≡◌}
use mathlib.Core.Bool.{true, false, not, ◌||◌}
use mathlib.Core.Option.{none}
use Prim.Native.Nat.{ℕ, ◌+◌, ◌≤◌}
use native.Mathlib.Omega.{arith}
use lib.Dec.{T, leb, eqb, le→leb, leb-zero}
use Rattle.lists.specs.Lists.{sum, tab}
use Rattle.lists.proofs.Tests.{and_made}
use Rattle.calendar.specs.Spans.{years, is_known, history_years, axis_years}
use Rattle.meaning.specs.Filing.{no_site}
use Rattle.meaning.specs.Line.{Line, S, tag_of, site_on, is_meter, most_power}
use Rattle.meaning.specs.Refusals.{misplaced, too_soon, holds, refusal, is_too_soon}
use Rattle.meaning.specs.Record.{Rec, is_taken, site_of_rec, history_of_site, history_of_rec, axis_of_rec, is_within, meter_fits, site_fits, before_of}
use Rattle.meaning.specs.Calls.{last_dates_after, tallies_after, rec_after}
use Rattle.meaning.proofs.Passed.{passed}
use Rattle.meaning.proofs.Accepted.{SiteLine, accepted_s}
use Rattle.demands.proofs.Held.Counts.{dates_by, winter_dates_by, over, marks, lines_by}
use Rattle.demands.proofs.Held.Order.{first_line}
use Rattle.demands.proofs.Held.Ranges.{no_date_lem, no_last_year, no_numbers}
use Rattle.demands.proofs.Held.Fits.{LastsIn, Kept}

-- ---- before S
pub no_span : (s : Rec) → s.last ≡ 0 → history_of_rec s ≡ years 0 0
unfolding history_of_rec site_of_rec is_taken history_of_site history_years is_known no_site
no_span s e = rw e

no_lines : (s : Rec) → s.last ≡ 0 → lines_by s ≡ s.readings
unfolding lines_by axis_of_rec axis_years over sum tab marks
no_lines s e = rw (no_span s e, e) (omega arith)

-- ---- the ranges of S
within : (a b n : ℕ) → (a ≤ n) × (n ≤ b) → T (is_within a b n)
unfolding is_within
within a b n h = and_made (leb a n) (leb n b) (le→leb a n h.0) (le→leb n b h.1)

site_fits_lem : (l : Line) → SiteLine l → T (site_fits true (site_on l))
unfolding site_fits meter_fits
site_fits_lem l a =
    and_made (is_within 2021 2026 (site_on l).al) _ (within 2021 2026 (site_on l).al a.al)
    (and_made (is_within 1 11 (site_on l).filiere) _ (within 1 11 (site_on l).filiere a.filiere)
    (and_made (is_within 1 most_power (site_on l).ps) (is_meter (site_on l).meter) (within 1 most_power (site_on l).ps a.ps) a.meter))

module _ (s : Rec) (l : Line) (e : refusal (before_of s) l ≡ none) (u : tag_of l ≡ S) (k : Kept s) where
  not_taken : s.last ≡ 0
  unfolding holds before_of
  not_taken = first_line s.last s.site.meter S (rw u at (passed (before_of s) l e misplaced)) tt

  timely : T (not (is_too_soon (site_on l).al (site_on l).filiere))
  unfolding holds
  timely = rw u at (passed (before_of s) l e too_soon)

  lasts_first : LastsIn (history_of_rec (rec_after S l s)) (rec_after S l s).lasts
  unfolding rec_after last_dates_after axis_years
  lasts_first =
      let none_yet : LastsIn (years 0 0) s.lasts = rw (no_span s not_taken) at k.lasts in
      record {
        c = no_date_lem true true _ s.lasts.c none_yet.c;
        x = no_date_lem false false _ s.lasts.x none_yet.x;
        d = no_date_lem false false _ s.lasts.d none_yet.d;
        p = no_date_lem true true _ s.lasts.p none_yet.p;
        b = no_last_year _ s.lasts.b none_yet.b;
        r = no_last_year _ s.lasts.r none_yet.r;
      }

  few_first : s.count + 1 ≤ lines_by (rec_after S l s)
  unfolding rec_after lines_by marks
  few_first = omega (arith, k.few, no_lines s not_taken)

  pub kept_first : Kept (rec_after S l s)
  unfolding rec_after last_dates_after tallies_after is_taken axis_of_rec axis_years
  kept_first = record {
    sited = site_fits_lem l (accepted_s (before_of s) l e u);
    timely = timely;
    readings = k.readings;
    index = k.index;
    lasts = lasts_first;
    breaks = no_numbers _ (λ y n. leb n 1) (λ y n. leb n 1) s.tallies.breaks (λ y. tt) (rw (no_span s not_taken) at k.breaks);
    rates =
        no_numbers _ (λ y n. eqb n 0 || is_within 10 1000 n) (λ y n. eqb n 0 || is_within 10 1000 n) s.tallies.rates (λ y. tt)
        (rw (no_span s not_taken) at k.rates);
    profiled =
        no_numbers _ (λ y n. leb n (winter_dates_by y s.lasts.p)) (λ y n. leb n (winter_dates_by y s.lasts.p)) s.tallies.profile_dates
        (λ y. rw (leb-zero (winter_dates_by y s.lasts.p)) tt) (rw (no_span s not_taken) at k.profiled);
    summed =
        no_numbers _ (λ y n. leb n (dates_by y s.lasts.d)) (λ y n. leb n (dates_by y s.lasts.d)) s.tallies.daily_dates
        (λ y. rw (leb-zero (dates_by y s.lasts.d)) tt) (rw (no_span s not_taken) at k.summed);
    few = few_first;
  }
