-- S, B, R and E: the checks of the code are the conditions of the line's refusal, and what it reads from an accepted line is what the line says.
use Rattle.std.specs.Prelude.{Option, Result, Ok}
use Rattle.refusals.specs.declared.Refusal.{Refusal}
use Rattle.refusals.specs.declared.Refusal.TheVariants.{Outside, TooSoon, Miscounted}
use Rattle.refusals.specs.Refusals.{refused_if, unless_reason}
use mathlib.Core.Path.{◌≡◌, refl, ap, sym, ◌∙◌}
use mathlib.Core.Bool.{false, not, ◌||◌}
use Prim.Native.Nat.{ℕ}
use lib.Dec.{eqb}
use Rattle.calendar.specs.Spans.{years, among, history_years}
use Rattle.meaning.specs.Filing.{no_meter}
use Rattle.meaning.specs.Line.{Line, S, B, R, E, year_on, site_on, key_of}
use Rattle.meaning.specs.Refusals.{outside, holds, refusal, is_too_soon}
use Rattle.meaning.specs.Record.{is_within}
use Rattle.line_form.proofs.LetterLaws.{meter_back}
use Rattle.line_form.specs.Views.{site_view, site_repr}
use Rattle.line_form.specs.declared.Site.{Site}
use Rattle.line_form.specs.declared.Meter.{Meter}
use Rattle.line_form.specs.Reads.{where_formed, is_formed, capped_at, site_read_of, rate_read_of}
use Rattle.line_form.specs.Ranges.{is_site_outside, is_year_outside, is_rate_outside, is_count_outside}
use Rattle.line_form.proofs.Capped.{early_history}
use Rattle.line_form.proofs.Forms.{malformed}
use Rattle.line_form.proofs.Checks.{outside_s, outside_b, outside_r, outside_e, exact_s, exact_b, exact_r, exact_e}
use Rattle.line_checks.specs.Before.{Known, is_not_later, before_like, before_first, before_rising, before_end}
use Rattle.line_checks.specs.Order.{and_then, in_order, rising_checks, is_misplaced}
use Rattle.line_checks.specs.Places.{rate_on}
use Rattle.line_checks.proofs.Chain.{Asks, clear, told, told_same, after_two, next_three, next_one, misplaced_rank, barred_first, needs_no_date, never_soon, never_falling, never_many, no_count}

-- ---- B
module _ (l : Line) (last al f latest : ℕ) (k : Known B l) where
  break_asks : Asks (before_rising last (history_years al f) latest) l (record {
    misplaced = is_misplaced last B;
    malformed = not (is_formed B l);
    outside = not (among (history_years al f) (capped_at l 1));
    no_date = false;
    not_later = is_not_later latest (capped_at l 1);
    too_soon = false;
    falling = false;
    too_many = false;
    miscounted = false;
  })
  unfolding holds before_rising before_like is_year_outside key_of
  break_asks =
      let h = history_years al f in
      let b = before_rising last h latest in
      let u = k.tag in
      record {
        misplaced_is = rw u (misplaced_rank last B refl);
        malformed_is = malformed B l u;
        outside_is = outside_b h l (early_history al f) u;
        date_is = λ _. needs_no_date b l B u refl;
        later_is = λ o _. rw u (ap (is_not_later latest) (sym (exact_b h l (early_history al f) u o)));
        soon_is = λ _. never_soon b l B u refl;
        falling_is = λ _. never_falling b l B u refl;
        excess_is = never_many b l B u refl;
        count_is = λ _. no_count b l B u refl;
      }

  pub break_told : unless_reason (refusal (before_rising last (history_years al f) latest) l) (year_on l)
      ≡ and_then (in_order (is_misplaced last B) (where_formed B l (capped_at l 1))) (λ y. and_then (rising_checks (not (among (history_years al f) y)) false latest y) (λ _. Ok y))
  unfolding holds before_rising before_like where_formed
  break_told =
      let h = history_years al f in
      let b = before_rising last h latest in
      let y = capped_at l 1 in
      told_same (refusal b l) (year_on l) y (λ q. sym (exact_b h l (early_history al f) k.tag (clear b l q outside)))
      ∙ told B b l _ y k break_asks
      ∙ after_two (is_misplaced last B) (is_formed B l) y (λ n. and_then (rising_checks (not (among h n)) false latest n) (λ _. Ok n)) _ (next_three (not (among h y)) false latest y (Ok y))

-- ---- R
module _ (l : Line) (last al f latest : ℕ) (k : Known R l) where
  rate_asks : Asks (before_rising last (history_years al f) latest) l (record {
    misplaced = is_misplaced last R;
    malformed = not (is_formed R l);
    outside = not (among (history_years al f) (rate_read_of l).year) || not (is_within 10 1000 (rate_read_of l).rate);
    no_date = false;
    not_later = is_not_later latest (rate_read_of l).year;
    too_soon = false;
    falling = false;
    too_many = false;
    miscounted = false;
  })
  unfolding holds before_rising before_like is_rate_outside key_of
  rate_asks =
      let h = history_years al f in
      let b = before_rising last h latest in
      let u = k.tag in
      record {
        misplaced_is = rw u (misplaced_rank last R refl);
        malformed_is = malformed R l u;
        outside_is = outside_r h l (early_history al f) u;
        date_is = λ _. needs_no_date b l R u refl;
        later_is = λ o _. rw u (ap (is_not_later latest) (sym (exact_r h l (early_history al f) u o).0));
        soon_is = λ _. never_soon b l R u refl;
        falling_is = λ _. never_falling b l R u refl;
        excess_is = never_many b l R u refl;
        count_is = λ _. no_count b l R u refl;
      }

  pub rate_told : unless_reason (refusal (before_rising last (history_years al f) latest) l) (rate_on l)
      ≡ and_then (in_order (is_misplaced last R) (where_formed R l (rate_read_of l))) (λ r. and_then (rising_checks (not (among (history_years al f) r.year) || not (is_within 10 1000 r.rate)) false latest r.year) (λ _. Ok r))
  unfolding holds before_rising before_like where_formed rate_on
  rate_told =
      let h = history_years al f in
      let b = before_rising last h latest in
      let r = rate_read_of l in
      told_same (refusal b l) (rate_on l) r (λ q. let x = exact_r h l (early_history al f) k.tag (clear b l q outside) in rw (← x.0, ← x.1))
      ∙ told R b l _ r k rate_asks
      ∙ after_two (is_misplaced last R) (is_formed R l) r (λ n. and_then (rising_checks (not (among h n.year) || not (is_within 10 1000 n.rate)) false latest n.year) (λ _. Ok n)) _ (next_three (not (among h r.year) || not (is_within 10 1000 r.rate)) false latest r.year (Ok r))

-- ---- S
shown_view : (s : Site) → site_repr (site_view s) ≡ s
shown_view s = ap (λ (m : Option Meter). record { al = s.al; filiere = s.filiere; meter = m; ps = s.ps }) (meter_back s.meter)

module _ (l : Line) (last : ℕ) (k : Known S l) where
  site_asks : Asks (before_first last) l (record {
    misplaced = not (eqb last 0);
    malformed = not (is_formed S l);
    outside = is_site_outside (site_read_of l);
    no_date = false;
    not_later = false;
    too_soon = is_too_soon (site_read_of l).al (site_read_of l).filiere;
    falling = false;
    too_many = false;
    miscounted = false;
  })
  unfolding holds before_first before_like is_site_outside is_not_later
  site_asks =
      let h = years 0 0 in
      let b = before_first last in
      let u = k.tag in
      record {
        misplaced_is = rw u (barred_first last no_meter);
        malformed_is = malformed S l u;
        outside_is = outside_s h l u;
        date_is = λ _. needs_no_date b l S u refl;
        later_is = λ _ _. refl;
        soon_is = λ o. rw (u, ← exact_s h l u o);
        falling_is = λ _. never_falling b l S u refl;
        excess_is = never_many b l S u refl;
        count_is = λ _. no_count b l S u refl;
      }

  pub site_told : unless_reason (refusal (before_first last) l) (site_repr (site_on l))
      ≡ and_then (in_order (not (eqb last 0)) (where_formed S l (site_read_of l)))
      (λ s. and_then (refused_if (is_site_outside s) Outside) (λ _. and_then (refused_if (is_too_soon s.al s.filiere) TooSoon) (λ _. Ok s)))
  unfolding holds before_first before_like where_formed
  site_told =
      let b = before_first last in
      let s = site_read_of l in
      told_same (refusal b l) (site_repr (site_on l)) s (λ q. sym (sym (shown_view s) ∙ ap site_repr (exact_s (years 0 0) l k.tag (clear b l q outside))))
      ∙ told S b l _ s k site_asks
      ∙ after_two (not (eqb last 0)) (is_formed S l) s (λ t. and_then (refused_if (is_site_outside t) Outside) (λ _. and_then (refused_if (is_too_soon t.al t.filiere) TooSoon) (λ _. Ok t))) _
      (next_one (is_site_outside s) Outside _ ∙ ap (λ (r : Result Site Refusal). and_then (refused_if (is_site_outside s) Outside) (λ _. r)) (next_one (is_too_soon s.al s.filiere) TooSoon (Ok s)))

-- ---- E
module _ (l : Line) (last count : ℕ) (k : Known E l) where
  end_asks : Asks (before_end last count) l (record {
    misplaced = is_misplaced last E;
    malformed = not (is_formed E l);
    outside = is_count_outside (capped_at l 1);
    no_date = false;
    not_later = false;
    too_soon = false;
    falling = false;
    too_many = false;
    miscounted = not (eqb (capped_at l 1) count);
  })
  unfolding holds before_end before_like is_count_outside is_not_later
  end_asks =
      let h = years 0 0 in
      let b = before_end last count in
      let u = k.tag in
      record {
        misplaced_is = rw u (misplaced_rank last E refl);
        malformed_is = malformed E l u;
        outside_is = outside_e h l u;
        date_is = λ _. needs_no_date b l E u refl;
        later_is = λ _ _. refl;
        soon_is = λ _. never_soon b l E u refl;
        falling_is = λ _. never_falling b l E u refl;
        excess_is = never_many b l E u refl;
        count_is = λ o. rw (u, exact_e h l u o);
      }

  pub end_told : unless_reason (refusal (before_end last count) l) tt
      ≡ and_then (in_order (is_misplaced last E) (where_formed E l (capped_at l 1)))
      (λ n. and_then (refused_if (is_count_outside n) Outside) (λ _. refused_if (not (eqb n count)) Miscounted))
  unfolding where_formed refused_if
  end_told =
      let n = capped_at l 1 in
      told E (before_end last count) l _ tt k end_asks
      ∙ after_two (is_misplaced last E) (is_formed E l) n (λ j. and_then (refused_if (is_count_outside j) Outside) (λ _. refused_if (not (eqb j count)) Miscounted)) _
      (next_one (is_count_outside n) Outside (refused_if (not (eqb n count)) Miscounted))
