-- C and P: the refusal of a line and what an accepted one says, by the checks of the code in order.
use Rattle.std.specs.Prelude.{Result, Ok}
use Rattle.std.specs.Bool.{then_some}
use mathlib.Core.Option.{Option, none, some}
use Rattle.refusals.specs.Refusals.{unless_reason}
use mathlib.Core.Path.{◌≡◌, refl, ap, sym, ◌∙◌}
use mathlib.Core.Bool.{Bool, true, false, not, ◌||◌}
use Prim.Native.Nat.{ℕ}
use lib.Dec.{T}
use borrow.Author.Tests.{not-false}
use Rattle.line_checks.specs.Places.{place_or, key_for}
use Rattle.lists.specs.Lists.{any}
use Rattle.lists.proofs.Tests.{is_true, or_parts}
use Rattle.calendar.specs.declared.Years.{Years}
use Rattle.calendar.specs.Spans.{among, history_years}
use Rattle.calendar.specs.Answers.{winter_place_of}
use Rattle.meaning.specs.Filing.{Meter}
use Rattle.meaning.specs.Line.{Line, Tag, C, P, S, X, E, is, key_of, year_on, winter_on, has_date_on, is_winter_tag}
use Rattle.refusals.specs.declared.Refusal.{Refusal}
use Rattle.meaning.specs.Refusals.{Before, Reason, outside, no_date, holds, refusal, is_outside, has_no_date}
use Rattle.line_form.specs.Ranges.{no_date_for}
use Rattle.line_form.proofs.Capped.{early_history}
use Rattle.line_form.proofs.Forms.{malformed}
use Rattle.line_form.proofs.Checks.{no_date_lem}
use Rattle.line_form.specs.Codes.{point_row, profile_row, is_point_outside, is_profile_outside}
use Rattle.line_form.specs.Reads.{where_formed, is_formed, date_read_of, points_read_of, profiles_read_of}
use Rattle.line_form.specs.ValueRanges.{is_points_outside, is_profiles_outside}
use Rattle.calendar.specs.declared.Date.{Date}
use Rattle.line_form.proofs.ValueChecks.{outside_c, outside_p, exact_c, exact_p}
use Rattle.line_checks.specs.Before.{Known, is_not_later, before_like, before_points, before_rising}
use Rattle.line_checks.specs.Order.{and_then, in_order, is_misplaced}
use Rattle.line_checks.proofs.Chain.{Asks, clear, told, told_same, next_dated, after_two, misplaced_other, misplaced_rank, never_soon, never_falling, never_many, no_count}
use Rattle.line_steps.specs.Places.{points_misplaced}
use Rattle.line_checks.proofs.Dates.{history_low, key_on, winter_on_lem}
use Rattle.line_steps.specs.PointAnswers.{date_on, points_on, profiles_on, winter_checked}
use Rattle.line_steps.specs.declared.points_and_profiles.checks.DateChecked.{DateChecked}

-- ---- C and P together: a tag t of winter dates, whether the line is misplaced, and whether some value is outside its range
pub record Winter (t : Tag) (l : Line) (b : Before) (h : Years) (latest : ℕ) (late above : Bool) : Type 0 where
  pub known : Known t l
  pub dated : T (has_date_on t)
  pub winter : T (is_winter_tag t)
  pub barred_is : b.misplaced t ≡ late
  pub history_is : b.history ≡ h
  pub reached_by : (v : ℕ) → b.not_later t v ≡ is_not_later latest v
  pub off_is : is_outside h l ≡ (not (among h (date_read_of l).year) || above)
  pub exact : is_outside h l ≡ false → (date_read_of l).year ≡ year_on l
  pub others : (is S t ≡ false) × ((is X t ≡ false) × (is E t ≡ false))

module _ (t : Tag) (l : Line) (b : Before) (al f latest : ℕ) (late above : Bool) (c : Winter t l b (history_years al f) latest late above) where
  year_in : is_outside (history_years al f) l ≡ false → among (history_years al f) (date_read_of l).year ≡ true
  year_in o = not-false _ (or_parts (not (among (history_years al f) (date_read_of l).year)) above (sym c.off_is ∙ o)).0

  key_in : is_outside (history_years al f) l ≡ false → has_no_date l ≡ false → key_for (date_read_of l).year (date_read_of l).month (date_read_of l).day ≡ key_of t l
  unfolding date_read_of
  key_in o d = key_on t l c.known.tag c.dated d (date_read_of l).year (c.exact o) (history_low al f (date_read_of l).year (year_in o))

  place_in : has_no_date l ≡ false → place_or (winter_place_of (date_read_of l).month (date_read_of l).day) ≡ winter_on l
  unfolding date_read_of
  place_in d = winter_on_lem t l c.known.tag c.dated d c.winter

  date_in_lem : is_outside (history_years al f) l ≡ false → has_no_date l ≡ no_date_for true (date_read_of l).year (date_read_of l).month (date_read_of l).day
  unfolding date_read_of
  date_in_lem o =
      no_date_lem t l (date_read_of l).year c.known.tag c.dated (c.exact o)
      ∙ ap (λ (x : Bool). no_date_for x (date_read_of l).year (date_read_of l).month (date_read_of l).day) (is_true (is_winter_tag t) c.winter)

  asks : Asks b l (record {
    misplaced = late;
    malformed = not (is_formed t l);
    outside = not (among (history_years al f) (date_read_of l).year) || above;
    no_date = no_date_for true (date_read_of l).year (date_read_of l).month (date_read_of l).day;
    not_later = is_not_later latest (key_for (date_read_of l).year (date_read_of l).month (date_read_of l).day);
    too_soon = false;
    falling = false;
    too_many = false;
    miscounted = false;
  })
  unfolding holds
  asks =
      let u = c.known.tag in
      let q = c.history_is in
      record {
        misplaced_is = ap (λ (x : Tag). b.misplaced x) u ∙ c.barred_is;
        malformed_is = malformed t l u;
        outside_is = rw q c.off_is;
        date_is = λ o. date_in_lem (rw q at o);
        later_is = λ o d. ap (λ (x : Tag). b.not_later x (key_of x l)) u ∙ c.reached_by (key_of t l) ∙ ap (is_not_later latest) (sym (key_in (rw q at o) d));
        soon_is = λ _. never_soon b l t u c.others.0;
        falling_is = λ _. never_falling b l t u c.others.1.0;
        excess_is = never_many b l t u c.others.1.0;
        count_is = λ _. no_count b l t u c.others.1.1;
      }

  found : Date → ℕ → DateChecked
  found d v = record { year = d.year; place = place_or (winter_place_of d.month d.day); key = v }

  same_date : is_outside (history_years al f) l ≡ false → has_no_date l ≡ false → date_on t l ≡ found (date_read_of l) (key_for (date_read_of l).year (date_read_of l).month (date_read_of l).day)
  unfolding date_on found
  same_date o d = rw (← c.exact o, ← place_in d, ← key_in o d)

  winter_told : unless_reason (refusal b l) (date_on t l) ≡ and_then (in_order late (where_formed t l (date_read_of l))) (λ d. winter_checked (history_years al f) d above latest)
  unfolding holds where_formed winter_checked found
  winter_told =
      let h = history_years al f in
      let d = date_read_of l in
      let v = key_for d.year d.month d.day in
      let out : Bool = not (among h d.year) || above in
      told_same (refusal b l) (date_on t l) (found d v) (λ q. same_date (rw c.history_is at (clear b l q outside)) (clear b l q no_date))
      ∙ told t b l _ (found d v) c.known asks
      ∙ after_two late (is_formed t l) d (λ x. winter_checked h x above latest) _ (next_dated out true d latest (λ w. Ok (found d w)) _ refl)

-- with its values, which the reader of its tag gives (read), and which the code checks (check)
module _ {R K : Type 0} (read : R) (check : R → Result K Refusal) (row : DateChecked → K) where
  row_told : (t : Tag) (l : Line) (b : Before) (al f latest : ℕ) (late above : Bool) → Winter t l b (history_years al f) latest late above
      → check read ≡ and_then (winter_checked (history_years al f) (date_read_of l) above latest) (λ d. Ok (row d))
      → unless_reason (refusal b l) (row (date_on t l)) ≡ and_then (in_order late (where_formed t l read)) check
  unfolding where_formed unless_reason in_order
  row_told t l b al f latest late above c e = sym (given (refusal b l)) ∙ ap with_row (winter_told t l b al f latest late above c) ∙ chained late (is_formed t l)
    where
      with_row : Result DateChecked Refusal → Result K Refusal
      with_row r = and_then r (λ d. Ok (row d))

      given : (o : Option Reason) → with_row (unless_reason o (date_on t l)) ≡ unless_reason o (row (date_on t l))
      given none = refl
      given (some y) = refl

      chained : (m q : Bool) → with_row (and_then (in_order m (then_some q (date_read_of l))) (λ d. winter_checked (history_years al f) d above latest))
          ≡ and_then (in_order m (then_some q read)) check
      chained true q = refl
      chained false true = sym e
      chained false false = refl

-- ---- C
points_winter : (l : Line) (last al f latest : ℕ) (m : Meter) → Known C l
    → Winter C l (before_points last m (history_years al f) latest) (history_years al f) latest (points_misplaced last m) (any is_point_outside (point_row l))
unfolding before_points before_like points_misplaced is_points_outside
points_winter l last al f latest m k =
    let h = history_years al f in
    let e = early_history al f in
    record {
      known = k;
      dated = tt;
      winter = tt;
      barred_is = misplaced_other last m C refl;
      history_is = refl;
      reached_by = λ v. refl;
      off_is = outside_c h l e k.tag;
      exact = λ o. (exact_c h l e k.tag o).0;
      others = (refl, (refl, refl));
    }

pub points_told : (l : Line) (last al f latest : ℕ) (m : Meter) → Known C l
    → unless_reason (refusal (before_points last m (history_years al f) latest) l) (points_on l)
    ≡ and_then (in_order (points_misplaced last m) (where_formed C l (points_read_of l)))
    (λ v. and_then (winter_checked (history_years al f) v.date (any is_point_outside v.points) latest) (λ d. Ok (record { date = d; points = v.points })))
unfolding points_on points_read_of
points_told l last al f latest m k = row_told _ _ (λ d. record { date = d; points = point_row l }) C l _ al f latest _ _ (points_winter l last al f latest m k) refl

-- ---- P
profiles_winter : (l : Line) (last al f latest : ℕ) → Known P l
    → Winter P l (before_rising last (history_years al f) latest) (history_years al f) latest (is_misplaced last P) (any is_profile_outside (profile_row l))
unfolding before_rising before_like is_profiles_outside
profiles_winter l last al f latest k =
    let h = history_years al f in
    let e = early_history al f in
    record {
      known = k;
      dated = tt;
      winter = tt;
      barred_is = misplaced_rank last P refl;
      history_is = refl;
      reached_by = λ v. refl;
      off_is = outside_p h l e k.tag;
      exact = λ o. (exact_p h l e k.tag o).0;
      others = (refl, (refl, refl));
    }

pub profiles_told : (l : Line) (last al f latest : ℕ) → Known P l
    → unless_reason (refusal (before_rising last (history_years al f) latest) l) (profiles_on l)
    ≡ and_then (in_order (is_misplaced last P) (where_formed P l (profiles_read_of l)))
    (λ v. and_then (winter_checked (history_years al f) v.date (any is_profile_outside v.values) latest) (λ d. Ok (record { date = d; values = v.values })))
unfolding profiles_on profiles_read_of
profiles_told l last al f latest k = row_told _ _ (λ d. record { date = d; values = profile_row l }) P l _ al f latest _ _ (profiles_winter l last al f latest k) refl
