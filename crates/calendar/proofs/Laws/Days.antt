-- Dates, days and their date places.
use mathlib.Core.Path.{◌≡◌, refl, sym, ◌∙◌, ap}
use mathlib.Core.Logic.{◌↔◌, ◌⊎◌, inl, inr}
use mathlib.Core.Bool.{Bool, true, false, not, ◌&&◌, ◌||◌, cond, beq, true≢false}
use Prim.Native.Nat.{ℕ, ◌+◌, ◌-◌, ◌%◌, ◌≤◌, ◌<◌}
use native.Mathlib.Nat.{le_refl}
use native.Mathlib.Omega.{arith}
use lib.Dec.{T, leb, ltb, eqb, leb→le, le→leb, ltb→lt, eqb→eq, lit<, lit≤}
use borrow.Author.Tests.{ltb-true, ltb-false, eqb-true, eq-eqb, ne_eqb, le-leb, lt-leb}
use Rattle.lists.specs.Lists.{sum, count, tab, range}
use Rattle.lists.proofs.Reflect.{of_and, of_or, of_not, of_eq, of_le}
use Rattle.lists.proofs.Tests.{is_true, and_left, and_right, and_made, or_true, or_false}
use Rattle.calendar.specs.Dates.{leap, month_lengths, longest, days_in, is_date, is_day}
use Rattle.calendar.specs.Places.{before, date_place, month_of, day_of, has_date}
use Rattle.calendar.specs.Restated.{EarlierDay}
use Rattle.calendar.proofs.Laws.Months.{longest_31, from_january, to_december, month_over, december}
use Rattle.calendar.proofs.Tables.{given, beq→eq, tri, count_same, at, at_pair}

-- ---- leap years
pub leap_words : (y : ℕ) → T (leap y) ↔ ((y % 4 ≡ 0) × ((¬ (y % 100 ≡ 0)) ⊎ (y % 400 ≡ 0)))
unfolding leap
leap_words y =
    of_and (eqb (y % 4) 0) (not (eqb (y % 100) 0) || eqb (y % 400) 0)
    (of_eq (y % 4) 0)
    (of_or (not (eqb (y % 100) 0)) (eqb (y % 400) 0) (of_not (eqb (y % 100) 0) (of_eq (y % 100) 0)) (of_eq (y % 400) 0))

-- ---- a day's month and day
pub record DayParts (m d : ℕ) : Type 0 where
  pub first_month : 1 ≤ m
  pub last_month : m ≤ 12
  pub first_day : 1 ≤ d
  pub last_day : d ≤ longest m
  pub days : d ≤ 31

day_from : (m d : ℕ) → T (is_day m d) → 1 ≤ d
unfolding is_day
day_from m d t = leb→le 1 d (and_left (leb 1 d) (leb d (longest m)) t)

day_to : (m d : ℕ) → T (is_day m d) → d ≤ longest m
unfolding is_day
day_to m d t = leb→le d (longest m) (and_right (leb 1 d) (leb d (longest m)) t)

pub day_parts : (m d : ℕ) → T (is_day m d) → DayParts m d
day_parts m d t =
    let low = day_from m d t in
    let high = day_to m d t in
    let some : 1 ≤ longest m = omega arith in
    record {
      first_month = from_january m some;
      last_month = to_december m some;
      first_day = low;
      last_day = high;
      days = omega (arith, longest_31 m);
    }

-- ---- a day and its date place, both ways
pub record DayHasPlace (m d : ℕ) : Type 0 where
  pub below : date_place m d < 366
  pub month : month_of (date_place m d) ≡ m
  pub day : day_of (date_place m d) ≡ d

day_place_test : ℕ → ℕ → Bool
unfolding is_day month_lengths longest before date_place month_of day_of sum count
day_place_test m d =
    not (is_day m d) || (ltb (date_place m d) 366 && (eqb (month_of (date_place m d)) m && eqb (day_of (date_place m d)) d))

pub day_place : (m d : ℕ) → T (is_day m d) → DayHasPlace m d
unfolding day_place_test
day_place m d t =
    let parts = day_parts m d t in
    let here = given (is_day m d) _ (at_pair day_place_test 13 32 tt m d (omega arith) (omega arith)) t in
    let rest = and_right (ltb (date_place m d) 366) _ here in
    record {
      below = ltb→lt _ _ (and_left (ltb (date_place m d) 366) _ here);
      month = eqb→eq _ _ (and_left (eqb (month_of (date_place m d)) m) _ rest);
      day = eqb→eq _ _ (and_right (eqb (month_of (date_place m d)) m) _ rest);
    }

pub record PlaceHasDay (p : ℕ) : Type 0 where
  pub is_day_lem : T (is_day (month_of p) (day_of p))
  pub back : date_place (month_of p) (day_of p) ≡ p

place_day_test : ℕ → Bool
unfolding is_day month_lengths longest before date_place month_of day_of sum count
place_day_test p = is_day (month_of p) (day_of p) && eqb (date_place (month_of p) (day_of p)) p

pub place_day : (p : ℕ) → p < 366 → PlaceHasDay p
unfolding place_day_test
place_day p h =
    let here : T (place_day_test p) = at place_day_test 366 tt p h in
    record {
      is_day_lem = and_left (is_day (month_of p) (day_of p)) _ here;
      back = eqb→eq _ _ (and_right (is_day (month_of p) (day_of p)) _ here);
    }

-- ---- a year's dates
pub date_words : (y m d : ℕ) → T (is_date y m d) ↔ ((1 ≤ d) × (d ≤ days_in y m))
unfolding is_date
date_words y m d = of_and (leb 1 d) (leb d (days_in y m)) (of_le 1 d) (of_le d (days_in y m))

-- no year has more days in a month than the longest
pub days_in_longest : (y m : ℕ) → days_in y m ≤ longest m
unfolding days_in longest month_lengths
days_in_longest y m = go (eqb m 2) (not (leap y)) refl
  where
    go : (a b : Bool) → eqb m 2 ≡ a → cond (a && b) 28 (longest m) ≤ longest m
    go true true e = rw (eqb-true m 2 e) (lit≤ tt)
    go true false e = le_refl (longest m)
    go false b e = le_refl (longest m)

pub date_day : (y m d : ℕ) → T (is_date y m d) → T (is_day m d)
unfolding is_date is_day
date_day y m d t =
    let first = and_left (leb 1 d) _ t in
    let last = leb→le d (days_in y m) (and_right (leb 1 d) _ t) in
    and_made (leb 1 d) _ first (le→leb d (longest m) (omega (arith, days_in_longest y m)))

-- a day is a date of a year exactly where the year has a date at its place
pub date_at_place : (y m d : ℕ) → T (is_day m d) → is_date y m d ≡ has_date y (date_place m d)
unfolding has_date
date_at_place y m d t = let p = day_place m d t in rw (p.month, p.day)

-- a date of a year that is leap or not
date_in : Bool → ℕ → ℕ → Bool
date_in l m d = leb 1 d && leb d (cond (eqb m 2 && not l) 28 (longest m))

has_date_test : ℕ → Bool
unfolding date_in month_lengths longest before month_of day_of sum count
has_date_test p =
    date_in true (month_of p) (day_of p) && beq (date_in false (month_of p) (day_of p)) (not (eqb p 59))

-- the one place without a date is that of 29 February in a common year
pub has_date_rule : (y p : ℕ) → p < 366 → has_date y p ≡ (leap y || not (eqb p 59))
unfolding has_date is_date days_in date_in has_date_test
has_date_rule y p h = go (at has_date_test 366 tt p h) (leap y)
  where
    go : T (has_date_test p) → (l : Bool) → date_in l (month_of p) (day_of p) ≡ (l || not (eqb p 59))
    go t true = is_true _ (and_left (date_in true (month_of p) (day_of p)) _ t)
    go t false = beq→eq _ _ (and_right (date_in true (month_of p) (day_of p)) _ t)

-- and no year has a date past the last place
pub no_date_past : (y p : ℕ) → 366 ≤ p → has_date y p ≡ false
unfolding has_date is_date day_of days_in longest month_lengths before sum
no_date_past y p h = rw (december p (omega arith), lt-leb (p - 335 + 1) 31 (omega arith), le-leb 1 (p - 335 + 1) (omega arith))

-- 29 February is a date in leap years alone, and every other place is one in every year
pub has_date_leap : (y : ℕ) → has_date y 59 ≡ leap y
has_date_leap y = has_date_rule y 59 (lit< tt) ∙ or_false (leap y)

pub has_date_other : (y p : ℕ) → (p ≡ 59 → ⊥) → has_date y p ≡ ltb p 366
has_date_other y p h = go (ltb p 366) refl
  where
    go : (b : Bool) → ltb p 366 ≡ b → has_date y p ≡ b
    go true e = has_date_rule y p (ltb-true p 366 e) ∙ rw (ne_eqb p 59 h) (or_true (leap y))
    go false e = no_date_past y p (ltb-false p 366 e)

-- the same, at any place
pub has_date_cases : (y p : ℕ) → has_date y p ≡ cond (eqb p 59) (leap y) (ltb p 366)
has_date_cases y p = go (eqb p 59) refl
  where
    go : (b : Bool) → eqb p 59 ≡ b → has_date y p ≡ cond (eqb p 59) (leap y) (ltb p 366)
    go true e = let q : p ≡ 59 = eqb→eq p 59 (rw e tt) in rw e (ap (λ (z : ℕ). has_date y z) q ∙ has_date_leap y)
    go false e = rw e (has_date_other y p (λ q. true≢false (sym (eq-eqb p 59 q) ∙ e)))

-- a year has 365 dates, a leap year one more
pub dates_in_year : (y : ℕ) → count (has_date y) (range 0 366) ≡ cond (leap y) 366 365
unfolding count range tab
dates_in_year y = count_same (has_date y) (λ p. leap y || not (eqb p 59)) 366 0 (λ p h. has_date_rule y p (omega arith)) ∙ go (leap y)
  where
    go : (l : Bool) → count (λ p. l || not (eqb p 59)) (range 0 366) ≡ cond l 366 365
    go true = refl
    go false = refl

-- ---- earlier days at lower places
place_of_earlier : (m d n e : ℕ) → T (is_day m d) → T (is_day n e) → EarlierDay m d n e → date_place m d < date_place n e
unfolding date_place
place_of_earlier m d n e s t (inl h) =
    let a = day_parts m d s in
    let b = day_parts n e t in
    omega (arith, month_over m n h b.last_month)
place_of_earlier m d n e s t (inr h) =
    let a = day_parts m d s in
    rw h.0 (omega arith)

earlier_of_place : (m d n e : ℕ) → T (is_day m d) → T (is_day n e) → date_place m d < date_place n e → EarlierDay m d n e
unfolding date_place
earlier_of_place m d n e s t h = go (tri m n)
  where
    go : (m < n) ⊎ ((m ≡ n) ⊎ (n < m)) → EarlierDay m d n e
    go (inl a) = inl a
    go (inr (inl a)) = inr (a, omega (arith, ap before a))
    go (inr (inr a)) = absurd (omega (arith, place_of_earlier n e m d t s (inl a)))

pub earlier_place : (m d n e : ℕ) → T (is_day m d) → T (is_day n e) → EarlierDay m d n e ↔ (date_place m d < date_place n e)
earlier_place m d n e s t = (place_of_earlier m d n e s t, earlier_of_place m d n e s t)
