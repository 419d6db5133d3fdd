-- What an answer says: where there is a place or a day, and where there is none.
use mathlib.Core.Path.{◌≡◌, refl, sym, ◌∙◌, ap}
use mathlib.Core.Bool.{Bool, true, false, ◌&&◌, true≢false}
use Prim.Native.Nat.{ℕ, ◌+◌, ◌-◌, ◌*◌, ◌/◌, ◌%◌, ◌≤◌, ◌<◌}
use native.Mathlib.Omega.{arith}
use lib.Dec.{ltb, ltb→lt}
use borrow.Author.Tests.{lt-ltb, le-ltb, ltb-true, ltb-false}
use Rattle.std.specs.Prelude.{Some, None}
use Rattle.lists.proofs.Tests.{is_true, and_left, and_right, passed}
use Rattle.calendar.specs.Dates.{is_date, is_day, is_winter}
use Rattle.calendar.specs.Places.{date_place, month_of, day_of, has_date, winter_place, date_of_winter}
use Rattle.calendar.specs.Spans.{among, position_of, year_at, place_at}
use Rattle.calendar.specs.Answers.{a_day, a_date, place_where, day_where, date_where, date_place_of, winter_place_of, winter_date_place, day_at, winter_day_at, position_in, date_at}
use Rattle.calendar.specs.declared.Years.{Years}
use Rattle.calendar.specs.declared.Day.{Day}
use Rattle.calendar.specs.declared.Date.{Date}
use Rattle.calendar.proofs.Laws.Days.{day_place, date_day}
use Rattle.calendar.proofs.Laws.Winter.{winter_place_day}

place_there : (b : Bool) (x p : ℕ) → place_where b x ≡ Some p → (b ≡ true) × (x ≡ p)
place_there true x p e = (refl, cc)
place_there false x p e = let z : ◌≡◌ {A = ℕ} 0 1 = cc in absurd (omega arith)

place_nowhere : (b : Bool) (x : ℕ) → place_where b x ≡ None → b ≡ false
place_nowhere true x e = let z : ◌≡◌ {A = ℕ} 0 1 = cc in absurd (omega arith)
place_nowhere false x e = refl

day_there : (b : Bool) (x m d : ℕ) → day_where b x ≡ Some (a_day m d) → (b ≡ true) × ((month_of x ≡ m) × (day_of x ≡ d))
day_there true x m d e = let f : a_day (month_of x) (day_of x) ≡ a_day m d = cc in (refl, (ap (λ (t : Day). t.month) f, ap (λ (t : Day). t.day) f))
day_there false x m d e = let z : ◌≡◌ {A = ℕ} 0 1 = cc in absurd (omega arith)

day_nowhere_by : (b : Bool) (x : ℕ) → day_where b x ≡ None → b ≡ false
day_nowhere_by true x e = let z : ◌≡◌ {A = ℕ} 0 1 = cc in absurd (omega arith)
day_nowhere_by false x e = refl

date_on_there : (b : Bool) (z x y m d : ℕ) → date_where b z x ≡ Some (a_date y m d) → (b ≡ true) × (z ≡ y) × (month_of x ≡ m) × (day_of x ≡ d)
date_on_there true z x y m d e =
    let f : a_date z (month_of x) (day_of x) ≡ a_date y m d = cc in
    (refl, ap (λ (t : Date). t.year) f, ap (λ (t : Date). t.month) f, ap (λ (t : Date). t.day) f)
date_on_there false z x y m d e = let w : ◌≡◌ {A = ℕ} 0 1 = cc in absurd (omega arith)

date_on_nowhere : (b : Bool) (z x : ℕ) → date_where b z x ≡ None → b ≡ false
date_on_nowhere true z x e = let w : ◌≡◌ {A = ℕ} 0 1 = cc in absurd (omega arith)
date_on_nowhere false z x e = refl

-- ---- the answers, one by one
pub date_place_at : (m d p : ℕ) → date_place_of m d ≡ Some p → (is_day m d ≡ true) × (date_place m d ≡ p)
unfolding date_place_of
date_place_at m d p e = place_there (is_day m d) (date_place m d) p e

pub date_place_nowhere : (m d : ℕ) → date_place_of m d ≡ None → is_day m d ≡ false
unfolding date_place_of
date_place_nowhere m d e = place_nowhere (is_day m d) (date_place m d) e

pub winter_place_at : (m d p : ℕ) → winter_place_of m d ≡ Some p → (is_day m d ≡ true) × (is_winter m ≡ true) × (winter_place m d ≡ p)
unfolding winter_place_of
winter_place_at m d p e =
    let there = place_there (is_day m d && is_winter m) (winter_place m d) p e in
    let both = passed (is_day m d && is_winter m) there.0 in
    (is_true _ (and_left (is_day m d) (is_winter m) both), is_true _ (and_right (is_day m d) (is_winter m) both), there.1)

pub winter_place_nowhere : (m d : ℕ) → winter_place_of m d ≡ None → (is_day m d && is_winter m) ≡ false
unfolding winter_place_of
winter_place_nowhere m d e = place_nowhere (is_day m d && is_winter m) (winter_place m d) e

pub winter_date_at : (w p : ℕ) → winter_date_place w ≡ Some p → (w < 152) × (date_of_winter w ≡ p)
unfolding winter_date_place
winter_date_at w p e =
    let there = place_there (ltb w 152) (date_of_winter w) p e in
    (ltb-true w 152 there.0, there.1)

pub winter_date_nowhere : (w : ℕ) → winter_date_place w ≡ None → 152 ≤ w
unfolding winter_date_place
winter_date_nowhere w e = ltb-false w 152 (place_nowhere (ltb w 152) (date_of_winter w) e)

pub day_of_lem : (p m d : ℕ) → day_at p ≡ Some (a_day m d) → (p < 366) × (month_of p ≡ m) × (day_of p ≡ d)
unfolding day_at
day_of_lem p m d e =
    let there = day_there (ltb p 366) p m d e in
    (ltb-true p 366 there.0, there.1.0, there.1.1)

pub day_nowhere : (p : ℕ) → day_at p ≡ None → 366 ≤ p
unfolding day_at
day_nowhere p e = ltb-false p 366 (day_nowhere_by (ltb p 366) p e)

pub winter_day_of : (w m d : ℕ) → winter_day_at w ≡ Some (a_day m d) → (w < 152) × (month_of (date_of_winter w) ≡ m) × (day_of (date_of_winter w) ≡ d)
unfolding winter_day_at
winter_day_of w m d e =
    let there = day_there (ltb w 152) (date_of_winter w) m d e in
    (ltb-true w 152 there.0, there.1.0, there.1.1)

pub winter_day_nowhere : (w : ℕ) → winter_day_at w ≡ None → 152 ≤ w
unfolding winter_day_at
winter_day_nowhere w e = ltb-false w 152 (day_nowhere_by (ltb w 152) (date_of_winter w) e)

pub position_at_lem : (axis : Years) (y m d p : ℕ) → position_in axis y m d ≡ Some p → (among axis y ≡ true) × (is_date y m d ≡ true) × (position_of axis y m d ≡ p)
unfolding position_in
position_at_lem axis y m d p e =
    let there = place_there (among axis y && is_date y m d) (position_of axis y m d) p e in
    let both = passed (among axis y && is_date y m d) there.0 in
    (is_true _ (and_left (among axis y) (is_date y m d) both), is_true _ (and_right (among axis y) (is_date y m d) both), there.1)

pub position_nowhere : (axis : Years) (y m d : ℕ) → position_in axis y m d ≡ None → (among axis y && is_date y m d) ≡ false
unfolding position_in
position_nowhere axis y m d e = place_nowhere (among axis y && is_date y m d) (position_of axis y m d) e

pub record DateOn (axis : Years) (p y m d : ℕ) : Type 0 where
  pub below : p < 366 * axis.count
  pub there : has_date y (place_at p) ≡ true
  pub year : year_at axis p ≡ y
  pub month : month_of (place_at p) ≡ m
  pub day : day_of (place_at p) ≡ d

pub date_on : (axis : Years) (p y m d : ℕ) → date_at axis p ≡ Some (a_date y m d) → DateOn axis p y m d
unfolding date_at
date_on axis p y m d e =
    let low = ltb p (366 * axis.count) in
    let has = has_date (year_at axis p) (place_at p) in
    let there = date_on_there (low && has) (year_at axis p) (place_at p) y m d e in
    let both = passed (low && has) there.0 in
    record {
      below = ltb→lt p (366 * axis.count) (and_left low has both);
      there = rw there.1 at (is_true has (and_right low has both));
      year = there.1;
      month = there.2;
      day = there.3;
    }

pub date_nowhere : (axis : Years) (p : ℕ) → date_at axis p ≡ None → (ltb p (366 * axis.count) && has_date (year_at axis p) (place_at p)) ≡ false
unfolding date_at
date_nowhere axis p e = date_on_nowhere (ltb p (366 * axis.count) && has_date (year_at axis p) (place_at p)) (year_at axis p) (place_at p) e

-- ---- one answer from another
-- a winter place's day is that of its date place
pub winter_day_by : (w p : ℕ) → winter_date_place w ≡ Some p → day_at p ≡ winter_day_at w
unfolding day_at winter_day_at
winter_day_by w p e =
    let there = winter_date_at w p e in
    let low = (winter_place_day w there.0).below in
    rw (← there.1, lt-ltb w 152 there.0, lt-ltb (date_of_winter w) 366 low)

pub no_winter_day : (w : ℕ) → winter_date_place w ≡ None → winter_day_at w ≡ None
unfolding winter_day_at
no_winter_day w e = rw (le-ltb w 152 (winter_date_nowhere w e))

-- the place of a day is one of the 366
pub place_below : (m d p : ℕ) → date_place_of m d ≡ Some p → p < 366
place_below m d p e =
    let there = date_place_at m d p e in
    rw there.1 at (day_place m d (passed (is_day m d) there.0)).below

-- a date is a day, and has a place
pub date_has_place : (y m d : ℕ) → is_date y m d ≡ true → date_place_of m d ≡ None → ⊥
date_has_place y m d e h =
    true≢false (sym (is_true (is_day m d) (date_day y m d (passed (is_date y m d) e))) ∙ date_place_nowhere m d h)

-- so that a date of an axis year has a position
pub position_by : (axis : Years) (y m d p : ℕ) → among axis y ≡ true → is_date y m d ≡ true → date_place_of m d ≡ Some p → position_in axis y m d ≡ Some (366 * (y - axis.first) + p)
unfolding position_in position_of
position_by axis y m d p a e h = rw (a, e, (date_place_at m d p h).1)

-- a position's row is that of its year
pub date_past : (axis : Years) (p : ℕ) → axis.count ≤ p / 366 → date_at axis p ≡ None
unfolding date_at
date_past axis p h = rw (le-ltb p (366 * axis.count) (omega arith))

pub date_missing : (axis : Years) (p : ℕ) → has_date (axis.first + p / 366) (p % 366) ≡ false → date_at axis p ≡ None
unfolding date_at year_at place_at
date_missing axis p h = go (ltb p (366 * axis.count))
  where
    go : (b : Bool) → date_where (b && has_date (axis.first + p / 366) (p % 366)) (axis.first + p / 366) (p % 366) ≡ None
    go true = rw h
    go false = refl

pub date_by : (axis : Years) (p m d : ℕ) → p / 366 < axis.count → has_date (axis.first + p / 366) (p % 366) ≡ true → day_at (p % 366) ≡ Some (a_day m d) → date_at axis p ≡ Some (a_date (axis.first + p / 366) m d)
unfolding date_at year_at place_at
date_by axis p m d h e q =
    let there = day_of_lem (p % 366) m d q in
    rw (lt-ltb p (366 * axis.count) (omega arith), e, there.1, there.2)
