-- The date of a line that has one: its place, its position and its key, from the numbers read from the line.
use mathlib.Core.Path.{◌≡◌, refl, sym, subst}
use mathlib.Core.Bool.{Bool, true, false, not, ◌&&◌, ◌||◌}
use Prim.Native.Nat.{ℕ, ◌≤◌, ◌<◌}
use native.Mathlib.Omega.{arith}
use lib.Dec.{T}
use borrow.Author.Tests.{le-ltb}
use Rattle.lists.proofs.Tests.{is_true}
use Rattle.calendar.specs.declared.Years.{Years}
use Rattle.std.specs.Prelude.{Option, Some, None}
use Rattle.calendar.specs.Dates.{is_date, is_day, is_winter}
use Rattle.calendar.specs.Places.{winter_place}
use Rattle.calendar.specs.Spans.{among, axis_years, history_years, position_of}
use Rattle.calendar.specs.Answers.{date_place_of, winter_place_of, position_in}
use Rattle.calendar.proofs.Laws.{date_day, place_below, among_words, axis_range, history_year_lem}
use Rattle.meaning.specs.Line.{Line, Tag, tag_of, year_on, month_on, day_on, winter_on, has_date_on, is_winter_tag, date_key, key_of}
use Rattle.meaning.specs.Refusals.{has_no_date}
use Rattle.line_form.specs.Reads.{capped_at}
use Rattle.line_form.proofs.Checks.{exact_date}
use Rattle.line_checks.specs.Places.{place_or, key_for}

-- ---- places and keys of numbers
pub place_low : (m d : ℕ) → place_or (date_place_of m d) ≤ 365
place_low m d = go (date_place_of m d) refl
  where
    go : (p : Option ℕ) → date_place_of m d ≡ p → place_or p ≤ 365
    go (Some p) e = let h : p < 366 = place_below m d p e in omega arith
    go None e = omega arith

day_is : (y m d : ℕ) → is_date y m d ≡ true → is_day m d ≡ true
day_is y m d e = is_true (is_day m d) (date_day y m d (rw e tt))

key_is : (y m d : ℕ) → y ≤ 9999 → is_date y m d ≡ true → key_for y m d ≡ date_key y m d
unfolding key_for date_key date_place_of
key_is y m d h e = rw (le-ltb 9999 y h, day_is y m d e)

winter_is : (y m d : ℕ) → is_date y m d ≡ true → is_winter m ≡ true → place_or (winter_place_of m d) ≡ winter_place m d
unfolding winter_place_of
winter_is y m d e w = rw (day_is y m d e, w)

position_is : (axis : Years) (y m d : ℕ) → among axis y ≡ true → is_date y m d ≡ true → place_or (position_in axis y m d) ≡ position_of axis y m d
unfolding position_in
position_is axis y m d a e = rw (a, e)

-- the years of a span have four digits
pub history_low : (al f y : ℕ) → among (history_years al f) y ≡ true → y ≤ 9999
history_low al f y e = omega (arith, (history_year_lem al f y (rw e tt)).1)

pub axis_low : (al f y : ℕ) → among (axis_years (history_years al f)) y ≡ true → y ≤ 9999
axis_low al f y e = omega (arith, ((among_words (axis_years (history_years al f)) y).0 (rw e tt)).1, (axis_range al f).to)

-- ---- a line of a tag with dates, where 7 does not hold
module _ (t : Tag) (l : Line) (u : tag_of l ≡ t) (h : T (has_date_on t)) (o : has_no_date l ≡ false) where
  date_parts : (is_date (year_on l) (month_on l) (day_on l) ≡ true) × (T (is_winter_tag t) → is_winter (month_on l) ≡ true)
  unfolding has_no_date
  date_parts = go (has_date_on t) (is_date (year_on l) (month_on l) (day_on l)) (is_winter_tag t) (is_winter (month_on l)) h (rw u at o)
    where
      go : (x y z v : Bool) → T x → (x && (not y || (z && not v))) ≡ false → (y ≡ true) × (T z → v ≡ true)
      go true true true true t e = (refl, λ _. refl)
      go true true true false t e = (refl, λ _. sym e)
      go true true false v t e = (refl, λ z. absurd z)
      go true false z v t e = absurd (subst T e tt)
      go false y z v t e = absurd t

  pub key_on : (y : ℕ) → y ≡ year_on l → y ≤ 9999 → key_for y (capped_at l 2) (capped_at l 3) ≡ key_of t l
  unfolding key_of
  key_on y e b =
      let x = exact_date t l u h o in
      rw (x.0, x.1, is_true (has_date_on t) h, e) (key_is (year_on l) (month_on l) (day_on l) (rw e at b) date_parts.0)

  pub winter_on_lem : T (is_winter_tag t) → place_or (winter_place_of (capped_at l 2) (capped_at l 3)) ≡ winter_on l
  unfolding winter_on
  winter_on_lem w =
      let x = exact_date t l u h o in
      rw (x.0, x.1) (winter_is (year_on l) (month_on l) (day_on l) date_parts.0 (date_parts.1 w))

  pub position_on_lem : (axis : Years) (y : ℕ) → y ≡ year_on l → among axis y ≡ true → place_or (position_in axis y (capped_at l 2) (capped_at l 3)) ≡ position_of axis (year_on l) (month_on l) (day_on l)
  position_on_lem axis y e a =
      let x = exact_date t l u h o in
      rw (x.0, x.1, e) (position_is axis (year_on l) (month_on l) (day_on l) (rw e at a) date_parts.0)
