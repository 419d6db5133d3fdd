-- X and D: the refusal of a line and what an accepted one says, by the checks of the code in order.
use Rattle.std.specs.Prelude.{Result, Ok, Err}
use Rattle.refusals.specs.declared.Refusal.{Refusal}
use Rattle.refusals.specs.declared.Refusal.TheVariants.{Outside, NoDate, NotLater, Falling, TooMany}
use Rattle.refusals.specs.Refusals.{refused_if, unless_reason}
use mathlib.Core.Path.{◌≡◌, refl, ap, sym, ◌∙◌}
use mathlib.Core.Bool.{Bool, true, false, not, ◌||◌, cond}
use Prim.Native.Nat.{ℕ}
use lib.Dec.{leb, ltb}
use borrow.Author.Tests.{not-false}
use Rattle.lists.proofs.Tests.{or_parts}
use Rattle.calendar.specs.declared.Years.{Years}
use Rattle.calendar.specs.Spans.{among, axis_years, history_years, position_of}
use Rattle.calendar.specs.Answers.{position_in}
use Rattle.text.specs.Fields.{field_at}
use Rattle.meaning.specs.Line.{Line, X, D, kind_of, key_of, year_on, month_on, day_on, most_index, most_daily}
use Rattle.meaning.specs.Refusals.{outside, no_date, holds, refusal, is_outside, has_no_date}
use Rattle.rounding.specs.declared.Energy.{Energy}
use Rattle.readings.specs.Readings.{kind_repr}
use Rattle.line_form.specs.Reads.{where_formed, is_formed, date_read_of, reading_read_of, daily_read_of}
use Rattle.line_form.specs.Ranges.{is_reading_outside, is_daily_outside, no_date_for}
use Rattle.calendar.specs.declared.Date.{Date}
use Rattle.line_form.specs.declared.axis_fields.ReadingRead.{ReadingRead}
use Rattle.line_form.specs.declared.axis_fields.DailyRead.{DailyRead}
use Rattle.line_form.proofs.Capped.{early_history}
use Rattle.line_form.proofs.Forms.{malformed}
use Rattle.line_form.proofs.Checks.{outside_x, outside_d, exact_x, exact_d, no_date_lem}
use Rattle.line_checks.specs.Before.{Known, is_not_later, before_like, before_rising, before_reading}
use Rattle.line_checks.specs.Order.{and_then, in_order, is_misplaced}
use Rattle.line_checks.proofs.Chain.{Asks, clear, told, told_same, next_one, next_dated, after_two, misplaced_rank, never_soon, never_falling, never_many, no_count}
use Rattle.line_checks.specs.Places.{place_or, key_for, dated_checks}
use Rattle.line_checks.proofs.Dates.{axis_low, key_on, position_on_lem}
use Rattle.line_steps.specs.ReadingAnswers.{reading_on, daily_on, axis_checked}
use Rattle.line_steps.specs.declared.readings_and_sums.checks.AxisChecked.{AxisChecked}
use Rattle.line_steps.specs.declared.readings_and_sums.checks.ReadingChecked.{ReadingChecked}
use Rattle.line_steps.specs.declared.readings_and_sums.checks.DailyChecked.{DailyChecked}

-- ---- the date of an X or D line: 6, 7 and 8, and what the rest takes
next_axis : {A : Type 0} (h : Years) (d : Date) (above : Bool) (last : ℕ) (g : AxisChecked → Result A Refusal) (r : Result A Refusal)
    → r ≡ g (record { position = place_or (position_in (axis_years h) d.year d.month d.day); key = key_for d.year d.month d.day })
    → cond (not (among (axis_years h) d.year) || above) (Err Outside) (cond (no_date_for false d.year d.month d.day) (Err NoDate) (cond (is_not_later last (key_for d.year d.month d.day)) (Err NotLater) r))
    ≡ and_then (axis_checked h d above last) g
unfolding axis_checked
next_axis {A} h d above last g r e = next_dated out false d last (λ k. g (found k)) r e ∙ joined (dated_checks out false d last)
  where
    out : Bool
    out = not (among (axis_years h) d.year) || above

    found : ℕ → AxisChecked
    found k = record { position = place_or (position_in (axis_years h) d.year d.month d.day); key = k }

    joined : (q : Result ℕ Refusal) → and_then q (λ k. g (found k)) ≡ and_then (and_then q (λ k. Ok (found k))) g
    joined (Ok k) = refl
    joined (Err y) = refl

-- ---- X
module _ (l : Line) (last al f latest previous readings : ℕ) (k : Known X l) where
  reading_year : is_outside (history_years al f) l ≡ false → among (axis_years (history_years al f)) (reading_read_of l).date.year ≡ true
  unfolding is_reading_outside
  reading_year o =
      let h = history_years al f in
      not-false _ (or_parts (not (among (axis_years h) (reading_read_of l).date.year)) (ltb most_index (reading_read_of l).index.0) (sym (outside_x h l (early_history al f) k.tag) ∙ o)).0

  reading_key : is_outside (history_years al f) l ≡ false → has_no_date l ≡ false → key_for (reading_read_of l).date.year (reading_read_of l).date.month (reading_read_of l).date.day ≡ key_of X l
  unfolding reading_read_of date_read_of
  reading_key o d = key_on X l k.tag tt d (reading_read_of l).date.year (exact_x (history_years al f) l (early_history al f) k.tag o).0 (axis_low al f (reading_read_of l).date.year (reading_year o))

  reading_position : is_outside (history_years al f) l ≡ false → has_no_date l ≡ false
      → place_or (position_in (axis_years (history_years al f)) (reading_read_of l).date.year (reading_read_of l).date.month (reading_read_of l).date.day)
      ≡ position_of (axis_years (history_years al f)) (year_on l) (month_on l) (day_on l)
  unfolding reading_read_of date_read_of
  reading_position o d =
      let h = history_years al f in
      position_on_lem X l k.tag tt d (axis_years h) (reading_read_of l).date.year (exact_x h l (early_history al f) k.tag o).0 (reading_year o)

  reading_kind : (reading_read_of l).kind ≡ kind_repr (kind_of (field_at l 5))
  unfolding reading_read_of date_read_of
  reading_kind = refl

  reading_asks : Asks (before_reading last (history_years al f) latest previous readings) l (record {
    misplaced = is_misplaced last X;
    malformed = not (is_formed X l);
    outside = not (among (axis_years (history_years al f)) (reading_read_of l).date.year) || ltb most_index (reading_read_of l).index.0;
    no_date = no_date_for false (reading_read_of l).date.year (reading_read_of l).date.month (reading_read_of l).date.day;
    not_later = is_not_later latest (key_for (reading_read_of l).date.year (reading_read_of l).date.month (reading_read_of l).date.day);
    too_soon = false;
    falling = ltb (reading_read_of l).index.0 previous;
    too_many = leb 600 readings;
    miscounted = false;
  })
  unfolding holds before_reading before_like is_reading_outside
  reading_asks =
      let h = history_years al f in
      let b = before_reading last h latest previous readings in
      let u = k.tag in
      let e = early_history al f in
      record {
        misplaced_is = rw u (misplaced_rank last X refl);
        malformed_is = malformed X l u;
        outside_is = outside_x h l e u;
        date_is = λ o. unfold reading_read_of in unfold date_read_of in no_date_lem X l (reading_read_of l).date.year u tt (exact_x h l e u o).0;
        later_is = λ o d. rw u (ap (is_not_later latest) (sym (reading_key o d)));
        soon_is = λ _. never_soon b l X u refl;
        falling_is = λ o. rw u (ap (λ (v : Energy). ltb v.0 previous) (sym (exact_x h l e u o).1));
        excess_is = rw u refl;
        count_is = λ _. no_count b l X u refl;
      }

  -- what the code finds of a line with this date
  reading_found : ReadingRead → ℕ → ReadingChecked
  reading_found r v = record { position = place_or (position_in (axis_years (history_years al f)) r.date.year r.date.month r.date.day); index = r.index; kind = r.kind; key = v }

  reading_same : is_outside (history_years al f) l ≡ false → has_no_date l ≡ false
      → reading_on (history_years al f) l ≡ reading_found (reading_read_of l) (key_for (reading_read_of l).date.year (reading_read_of l).date.month (reading_read_of l).date.day)
  unfolding reading_on reading_found
  reading_same o d = rw (← reading_position o d, ← (exact_x (history_years al f) l (early_history al f) k.tag o).1, ← reading_kind, ← reading_key o d)

  pub reading_told : unless_reason (refusal (before_reading last (history_years al f) latest previous readings) l) (reading_on (history_years al f) l)
      ≡ and_then (in_order (is_misplaced last X) (where_formed X l (reading_read_of l)))
      (λ r. and_then (axis_checked (history_years al f) r.date (ltb most_index r.index.0) latest)
      (λ d. and_then (refused_if (ltb r.index.0 previous) Falling)
      (λ _. and_then (refused_if (leb 600 readings) TooMany)
      (λ _. Ok (record { position = d.position; index = r.index; kind = r.kind; key = d.key })))))
  unfolding holds before_reading before_like where_formed reading_found
  reading_told =
      let h = history_years al f in
      let b = before_reading last h latest previous readings in
      let r = reading_read_of l in
      let v = key_for r.date.year r.date.month r.date.day in
      told_same (refusal b l) (reading_on h l) (reading_found r v) (λ q. reading_same (clear b l q outside) (clear b l q no_date))
      ∙ told X b l _ (reading_found r v) k reading_asks
      ∙ after_two (is_misplaced last X) (is_formed X l) r _ _
      (next_axis h r.date (ltb most_index r.index.0) latest
      (λ d. and_then (refused_if (ltb r.index.0 previous) Falling) (λ _. and_then (refused_if (leb 600 readings) TooMany) (λ _. Ok (record { position = d.position; index = r.index; kind = r.kind; key = d.key })))) _
      (next_one (ltb r.index.0 previous) Falling _ ∙ ap (λ q. and_then (refused_if (ltb r.index.0 previous) Falling) (λ _. q)) (next_one (leb 600 readings) TooMany (Ok (reading_found r v)))))

-- ---- D
module _ (l : Line) (last al f latest : ℕ) (k : Known D l) where
  daily_year : is_outside (history_years al f) l ≡ false → among (axis_years (history_years al f)) (daily_read_of l).date.year ≡ true
  unfolding is_daily_outside
  daily_year o =
      let h = history_years al f in
      not-false _ (or_parts (not (among (axis_years h) (daily_read_of l).date.year)) (ltb most_daily (daily_read_of l).sum) (sym (outside_d h l (early_history al f) k.tag) ∙ o)).0

  daily_key : is_outside (history_years al f) l ≡ false → has_no_date l ≡ false → key_for (daily_read_of l).date.year (daily_read_of l).date.month (daily_read_of l).date.day ≡ key_of D l
  unfolding daily_read_of date_read_of
  daily_key o d = key_on D l k.tag tt d (daily_read_of l).date.year (exact_d (history_years al f) l (early_history al f) k.tag o).0 (axis_low al f (daily_read_of l).date.year (daily_year o))

  daily_position : is_outside (history_years al f) l ≡ false → has_no_date l ≡ false
      → place_or (position_in (axis_years (history_years al f)) (daily_read_of l).date.year (daily_read_of l).date.month (daily_read_of l).date.day)
      ≡ position_of (axis_years (history_years al f)) (year_on l) (month_on l) (day_on l)
  unfolding daily_read_of date_read_of
  daily_position o d =
      let h = history_years al f in
      position_on_lem D l k.tag tt d (axis_years h) (daily_read_of l).date.year (exact_d h l (early_history al f) k.tag o).0 (daily_year o)

  daily_asks : Asks (before_rising last (history_years al f) latest) l (record {
    misplaced = is_misplaced last D;
    malformed = not (is_formed D l);
    outside = not (among (axis_years (history_years al f)) (daily_read_of l).date.year) || ltb most_daily (daily_read_of l).sum;
    no_date = no_date_for false (daily_read_of l).date.year (daily_read_of l).date.month (daily_read_of l).date.day;
    not_later = is_not_later latest (key_for (daily_read_of l).date.year (daily_read_of l).date.month (daily_read_of l).date.day);
    too_soon = false;
    falling = false;
    too_many = false;
    miscounted = false;
  })
  unfolding holds before_rising before_like is_daily_outside
  daily_asks =
      let h = history_years al f in
      let b = before_rising last h latest in
      let u = k.tag in
      let e = early_history al f in
      record {
        misplaced_is = rw u (misplaced_rank last D refl);
        malformed_is = malformed D l u;
        outside_is = outside_d h l e u;
        date_is = λ o. unfold daily_read_of in unfold date_read_of in no_date_lem D l (daily_read_of l).date.year u tt (exact_d h l e u o).0;
        later_is = λ o d. rw u (ap (is_not_later latest) (sym (daily_key o d)));
        soon_is = λ _. never_soon b l D u refl;
        falling_is = λ _. never_falling b l D u refl;
        excess_is = never_many b l D u refl;
        count_is = λ _. no_count b l D u refl;
      }

  daily_found : DailyRead → ℕ → DailyChecked
  daily_found r v = record { year = r.date.year; position = place_or (position_in (axis_years (history_years al f)) r.date.year r.date.month r.date.day); sum = r.sum; key = v }

  daily_same : is_outside (history_years al f) l ≡ false → has_no_date l ≡ false
      → daily_on (history_years al f) l ≡ daily_found (daily_read_of l) (key_for (daily_read_of l).date.year (daily_read_of l).date.month (daily_read_of l).date.day)
  unfolding daily_on daily_found
  daily_same o d = let x = exact_d (history_years al f) l (early_history al f) k.tag o in rw (← daily_position o d, ← x.0, ← x.1, ← daily_key o d)

  pub daily_told : unless_reason (refusal (before_rising last (history_years al f) latest) l) (daily_on (history_years al f) l)
      ≡ and_then (in_order (is_misplaced last D) (where_formed D l (daily_read_of l)))
      (λ r. and_then (axis_checked (history_years al f) r.date (ltb most_daily r.sum) latest)
      (λ d. Ok (record { year = r.date.year; position = d.position; sum = r.sum; key = d.key })))
  unfolding holds before_rising before_like where_formed daily_found
  daily_told =
      let h = history_years al f in
      let b = before_rising last h latest in
      let r = daily_read_of l in
      let v = key_for r.date.year r.date.month r.date.day in
      told_same (refusal b l) (daily_on h l) (daily_found r v) (λ q. daily_same (clear b l q outside) (clear b l q no_date))
      ∙ told D b l _ (daily_found r v) k daily_asks
      ∙ after_two (is_misplaced last D) (is_formed D l) r _ _ (next_axis h r.date (ltb most_daily r.sum) latest (λ d. Ok (record { year = r.date.year; position = d.position; sum = r.sum; key = d.key })) _ refl)
