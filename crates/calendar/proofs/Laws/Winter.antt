-- Winter days and their winter places.
use mathlib.Core.Path.{◌≡◌, refl, sym, ◌∙◌, ap}
use mathlib.Core.Logic.{◌↔◌, ◌⊎◌, inl, inr}
use mathlib.Core.Bool.{Bool, true, false, not, ◌&&◌, ◌||◌, cond, true≢false}
use Prim.Native.Nat.{ℕ, ◌+◌, ◌≤◌, ◌<◌}
use native.Mathlib.Omega.{arith}
use lib.Dec.{T, leb, ltb, eqb, ltb→lt, eqb→eq, lit<}
use borrow.Author.Tests.{ltb-true, ltb-false, eq-eqb, ne_eqb}
use Rattle.lists.specs.Lists.{sum, keep, count, tab, range}
use Rattle.lists.proofs.Reflect.{of_and, of_or, of_le}
use Rattle.lists.proofs.Tests.{and_left, and_right, and_made, or_true, or_false}
use Rattle.calendar.specs.Dates.{leap, month_lengths, longest, is_day, is_winter}
use Rattle.calendar.specs.Places.{before, date_place, month_of, day_of, winter_before, winter_place, date_of_winter, has_winter_date}
use Rattle.calendar.specs.Restated.{EarlierDay}
use Rattle.calendar.proofs.Tables.{given, count_same, at, at_pair}
use Rattle.calendar.proofs.Laws.Days.{day_parts, has_date_rule, no_date_past, earlier_place}

pub winter_words : (m : ℕ) → T (is_winter m) ↔ (((1 ≤ m) × (m ≤ 3)) ⊎ ((11 ≤ m) × (m ≤ 12)))
unfolding is_winter
winter_words m =
    of_or (leb 1 m && leb m 3) (leb 11 m && leb m 12)
    (of_and (leb 1 m) (leb m 3) (of_le 1 m) (of_le m 3))
    (of_and (leb 11 m) (leb m 12) (of_le 11 m) (of_le m 12))

-- ---- a winter day and its winter place, both ways
pub record WinterDayHasPlace (m d : ℕ) : Type 0 where
  pub below : winter_place m d < 152
  pub date_place_lem : date_of_winter (winter_place m d) ≡ date_place m d

winter_day_test : ℕ → ℕ → Bool
unfolding is_day is_winter month_lengths longest before date_place winter_before winter_place date_of_winter sum keep
winter_day_test m d =
    not (is_day m d && is_winter m) || (ltb (winter_place m d) 152 && eqb (date_of_winter (winter_place m d)) (date_place m d))

pub winter_day_place : (m d : ℕ) → T (is_day m d) → T (is_winter m) → WinterDayHasPlace m d
unfolding winter_day_test
winter_day_place m d t w =
    let parts = day_parts m d t in
    let here = given (is_day m d && is_winter m) _ (at_pair winter_day_test 13 32 tt m d (omega arith) (omega arith)) (and_made (is_day m d) (is_winter m) t w) in
    record {
      below = ltb→lt _ _ (and_left (ltb (winter_place m d) 152) _ here);
      date_place_lem = eqb→eq _ _ (and_right (ltb (winter_place m d) 152) _ here);
    }

pub record WinterPlaceHasDay (w : ℕ) : Type 0 where
  pub below : date_of_winter w < 366
  pub is_winter_lem : T (is_winter (month_of (date_of_winter w)))
  pub back : winter_place (month_of (date_of_winter w)) (day_of (date_of_winter w)) ≡ w

winter_place_test : ℕ → Bool
unfolding is_winter month_lengths longest before month_of day_of winter_before winter_place date_of_winter sum count keep
winter_place_test w =
    ltb (date_of_winter w) 366
    && (is_winter (month_of (date_of_winter w)) && eqb (winter_place (month_of (date_of_winter w)) (day_of (date_of_winter w))) w)

pub winter_place_day : (w : ℕ) → w < 152 → WinterPlaceHasDay w
unfolding winter_place_test
winter_place_day w h =
    let here : T (winter_place_test w) = at winter_place_test 152 tt w h in
    let rest = and_right (ltb (date_of_winter w) 366) _ here in
    record {
      below = ltb→lt _ _ (and_left (ltb (date_of_winter w) 366) _ here);
      is_winter_lem = and_left (is_winter (month_of (date_of_winter w))) _ rest;
      back = eqb→eq _ _ (and_right (is_winter (month_of (date_of_winter w))) _ rest);
    }

-- ---- winter places and date places
-- winter's two periods: January to March, whose winter places are date places, and November and December, 214 places later
abbrev FirstPeriod : ℕ → Type 0
FirstPeriod w = (w < 91) × (date_of_winter w ≡ w)

abbrev SecondPeriod : ℕ → Type 0
SecondPeriod w = (91 ≤ w) × (date_of_winter w ≡ w + 214)

pub winter_parts : (w : ℕ) → ((w < 91) × (date_of_winter w ≡ w)) ⊎ ((91 ≤ w) × (date_of_winter w ≡ w + 214))
unfolding date_of_winter
winter_parts w = go (ltb w 91) refl
  where
    go : (b : Bool) → ltb w 91 ≡ b → ((w < 91) × (cond b w (w + 214) ≡ w)) ⊎ ((91 ≤ w) × (cond b w (w + 214) ≡ w + 214))
    go true e = inl (ltb-true w 91 e, refl)
    go false e = inr (ltb-false w 91 e, refl)

-- later winter places are later date places
pub winter_rises : (w v : ℕ) → (w < v) ↔ (date_of_winter w < date_of_winter v)
winter_rises w v = go (winter_parts w) (winter_parts v)
  where
    go : FirstPeriod w ⊎ SecondPeriod w → FirstPeriod v ⊎ SecondPeriod v → (w < v) ↔ (date_of_winter w < date_of_winter v)
    go (inl a) (inl b) = (λ h. omega arith, λ h. omega arith)
    go (inl a) (inr b) = (λ h. omega arith, λ h. omega arith)
    go (inr a) (inl b) = (λ h. omega arith, λ h. omega arith)
    go (inr a) (inr b) = (λ h. omega arith, λ h. omega arith)

pub earlier_winter_place : (m d n e : ℕ) → T (is_day m d) → T (is_winter m) → T (is_day n e) → T (is_winter n) → EarlierDay m d n e ↔ (winter_place m d < winter_place n e)
earlier_winter_place m d n e s u t v =
    let a = winter_day_place m d s u in
    let b = winter_day_place n e t v in
    let places = winter_rises (winter_place m d) (winter_place n e) in
    let days = earlier_place m d n e s t in
    (λ h. places.1 (rw (a.date_place_lem, b.date_place_lem) (days.0 h)), λ h. days.1 (rw (a.date_place_lem, b.date_place_lem) at (places.0 h)))

-- ---- a year's winter dates
leap_place : (w : ℕ) → eqb (date_of_winter w) 59 ≡ eqb w 59
leap_place w = go (winter_parts w)
  where
    go : FirstPeriod w ⊎ SecondPeriod w → eqb (date_of_winter w) 59 ≡ eqb w 59
    go (inl a) = rw a.1
    go (inr a) = ne_eqb (date_of_winter w) 59 (λ e. omega arith) ∙ sym (ne_eqb w 59 (λ e. omega arith))

-- the one winter place without a date is that of 29 February in a common year
pub has_winter_date_rule : (y w : ℕ) → w < 152 → has_winter_date y w ≡ (leap y || not (eqb w 59))
unfolding has_winter_date
has_winter_date_rule y w h = has_date_rule y (date_of_winter w) (winter_place_day w h).below ∙ ap (λ (b : Bool). leap y || not b) (leap_place w)

-- and no year has a winter date past the last place
pub no_winter_date_past : (y w : ℕ) → 152 ≤ w → has_winter_date y w ≡ false
unfolding has_winter_date
no_winter_date_past y w h = no_date_past y (date_of_winter w) (go (winter_parts w))
  where
    go : FirstPeriod w ⊎ SecondPeriod w → 366 ≤ date_of_winter w
    go (inl a) = omega arith
    go (inr a) = omega arith

pub has_winter_date_leap : (y : ℕ) → has_winter_date y 59 ≡ leap y
has_winter_date_leap y = has_winter_date_rule y 59 (lit< tt) ∙ or_false (leap y)

pub has_winter_date_other : (y w : ℕ) → (w ≡ 59 → ⊥) → has_winter_date y w ≡ ltb w 152
has_winter_date_other y w h = go (ltb w 152) refl
  where
    go : (b : Bool) → ltb w 152 ≡ b → has_winter_date y w ≡ b
    go true e = has_winter_date_rule y w (ltb-true w 152 e) ∙ rw (ne_eqb w 59 h) (or_true (leap y))
    go false e = no_winter_date_past y w (ltb-false w 152 e)

-- the same, at any place
pub has_winter_date_cases : (y w : ℕ) → has_winter_date y w ≡ cond (eqb w 59) (leap y) (ltb w 152)
has_winter_date_cases y w = go (eqb w 59) refl
  where
    go : (b : Bool) → eqb w 59 ≡ b → has_winter_date y w ≡ cond (eqb w 59) (leap y) (ltb w 152)
    go true e = let q : w ≡ 59 = eqb→eq w 59 (rw e tt) in rw e (ap (λ (z : ℕ). has_winter_date y z) q ∙ has_winter_date_leap y)
    go false e = rw e (has_winter_date_other y w (λ q. true≢false (sym (eq-eqb w 59 q) ∙ e)))

-- a year has 151 winter dates, a leap year one more
pub winter_dates_in_year : (y : ℕ) → count (has_winter_date y) (range 0 152) ≡ cond (leap y) 152 151
unfolding count range tab
winter_dates_in_year y =
    count_same (has_winter_date y) (λ w. leap y || not (eqb w 59)) 152 0 (λ w h. has_winter_date_rule y w (omega arith)) ∙ go (leap y)
  where
    go : (l : Bool) → count (λ w. l || not (eqb w 59)) (range 0 152) ≡ cond l 152 151
    go true = refl
    go false = refl
