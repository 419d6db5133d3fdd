use mathlib.Core.Path.{◌≡◌, sym, ◌∙◌}
use mathlib.Core.Bool.{true, false}
use Prim.Native.Nat.{ℕ, ◌+◌, ◌-◌, ◌<◌, ◌≤◌}
use native.Mathlib.Omega.{arith}
use Rattle.std.specs.Prelude.{Some, None}
use Rattle.lists.proofs.Tests.{passed}
use Rattle.calendar.specs.Dates.{is_winter}
use Rattle.calendar.specs.Places.{date_place, winter_place}
use Rattle.calendar.specs.Answers.{date_place_of, winter_place_of}
use Rattle.calendar.proofs.Laws.{day_parts}
use Rattle.calendar.proofs.Laws.Months.{winter_start, winter_end}
use Rattle.calendar.proofs.Laws.Answers.{date_place_at, date_place_nowhere}
use Rattle.calendar.proofs.places.winter_place.Goals as goal

no_day : (m d : ℕ) → date_place_of m d ≡ None → None ≡ winter_place_of m d
unfolding winter_place_of
no_day m d e = rw (date_place_nowhere m d e)

no_winter : (m d p : ℕ) → date_place_of m d ≡ Some p → is_winter m ≡ false → None ≡ winter_place_of m d
unfolding winter_place_of
no_winter m d p e w = rw ((date_place_at m d p e).0, w)

-- until March a winter day's date place is its winter place
early : (m d p : ℕ) → date_place_of m d ≡ Some p → is_winter m ≡ true → m ≤ 3 → Some p ≡ winter_place_of m d
unfolding winter_place_of winter_place date_place
early m d p e w h =
    let there = date_place_at m d p e in
    rw (there.0, w, winter_start m h (passed _ w), there.1)

-- the days before November or December, with those of April to October
late : (m d p : ℕ) → date_place_of m d ≡ Some p → is_winter m ≡ true → 3 < m → p ≡ winter_place m d + 214
unfolding winter_place date_place
late m d p e w l =
    let there = date_place_at m d p e in
    omega (arith, there.1, winter_end m l (day_parts m d (passed _ there.0)).last_month (passed _ w))

later : (m d p : ℕ) → date_place_of m d ≡ Some p → is_winter m ≡ true → 3 < m → Some (p - 214) ≡ winter_place_of m d
unfolding winter_place_of
later m d p e w l =
    let q : p - 214 ≡ winter_place m d = omega (arith, late m d p e w l) in
    rw ((date_place_at m d p e).0, w, q)

pub returns-in_err-place : goal.returns-in_err-place
returns-in_err-place c = c.from_residual.ensures ∙ no_day _ _ (sym c.date_place.ensures ∙ c.in_err-place.was)

pub returns-then-not-is_winter : goal.returns-then-not-is_winter
returns-then-not-is_winter c = no_winter _ _ _ (sym c.date_place.ensures ∙ c.in_ok-place.was) (sym c.is_winter.ensures ∙ c.if-not-is_winter.true)

pub overflow_sub-result : goal.overflow_sub-result
overflow_sub-result c = omega (arith, late _ _ _ (sym c.date_place.ensures ∙ c.in_ok-place.was) (sym c.is_winter.ensures ∙ c.if-not-is_winter.false) c.if-month-le3.false)

pub returns-then-month-le3 : goal.returns-then-month-le3
returns-then-month-le3 c = early _ _ _ (sym c.date_place.ensures ∙ c.in_ok-place.was) (sym c.is_winter.ensures ∙ c.if-not-is_winter.false) c.if-month-le3.true

pub returns-else-month-le3 : goal.returns-else-month-le3
returns-else-month-le3 c = later _ _ _ (sym c.date_place.ensures ∙ c.in_ok-place.was) (sym c.is_winter.ensures ∙ c.if-not-is_winter.false) c.if-month-le3.false
