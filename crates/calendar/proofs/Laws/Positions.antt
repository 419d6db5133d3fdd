-- History and axis years, and positions on the axis.
use mathlib.Core.Path.{◌≡◌, refl, ◌∙◌}
use mathlib.Core.Logic.{◌↔◌, ◌⊎◌, inl, inr, ⊎_elim}
use mathlib.Core.Bool.{Bool, true, false, not, ◌&&◌, ◌||◌, cond}
use Prim.Native.Nat.{ℕ, ◌+◌, ◌-◌, ◌*◌, ◌/◌, ◌%◌, ◌≤◌, ◌<◌}
use native.Mathlib.Omega.{arith}
use lib.Dec.{T, leb, ltb, eqb, leb→le, lit≤}
use borrow.Author.Tests.{ne_eqb}
use Rattle.lists.proofs.Reflect.{of_and, of_le, of_lt}
use Rattle.lists.proofs.Tests.{is_false, is_true, and_left, and_right, passed}
use Rattle.calendar.specs.Dates.{is_day}
use Rattle.calendar.specs.Places.{date_place, month_of, day_of}
use Rattle.calendar.specs.Spans.{years, among, history_length, is_known, history_years, axis_years, position_of, year_at, place_at}
use Rattle.calendar.specs.Restated.{EarlierDate}
use Rattle.calendar.specs.declared.Years.{Years}
use Rattle.calendar.proofs.Tables.{tri}
use Rattle.calendar.proofs.Laws.Days.{day_place, place_day, earlier_place}

-- ---- spans of years
pub among_words : (s : Years) (y : ℕ) → T (among s y) ↔ ((s.first ≤ y) × (y < s.first + s.count))
unfolding among
among_words s y = of_and (leb s.first y) (ltb y (s.first + s.count)) (of_le s.first y) (of_lt y (s.first + s.count))

pub length_5_10 : (f : ℕ) → (history_length f ≡ 5) ⊎ (history_length f ≡ 10)
unfolding history_length
length_5_10 f = go (eqb f 4 || eqb f 5)
  where
    go : (b : Bool) → (cond {A = ℕ} b 10 5 ≡ 5) ⊎ (cond {A = ℕ} b 10 5 ≡ 10)
    go true = inr refl
    go false = inl refl

pub record Known (al f : ℕ) : Type 0 where
  pub first_al_lem : 2021 ≤ al
  pub last_al : al ≤ 2026
  pub first_filiere : 1 ≤ f
  pub last_filiere : f ≤ 11

pub known_parts : (al f : ℕ) → T (is_known al f) → Known al f
unfolding is_known
known_parts al f t =
    let a = and_left (leb 2021 al && leb al 2026) (leb 1 f && leb f 11) t in
    let b = and_right (leb 2021 al && leb al 2026) (leb 1 f && leb f 11) t in
    record {
      first_al_lem = leb→le 2021 al (and_left (leb 2021 al) (leb al 2026) a);
      last_al = leb→le al 2026 (and_right (leb 2021 al) (leb al 2026) a);
      first_filiere = leb→le 1 f (and_left (leb 1 f) (leb f 11) b);
      last_filiere = leb→le f 11 (and_right (leb 1 f) (leb f 11) b);
    }

pub known_history : (al f : ℕ) → T (is_known al f) → history_years al f ≡ years (al - (history_length f + 4)) (history_length f)
unfolding history_years
known_history al f t = rw (is_true (is_known al f) t)

-- an AL or a filière that is not known has no year
pub no_history : (al f : ℕ) → T (not (is_known al f)) → history_years al f ≡ years 0 0
unfolding history_years
no_history al f t = rw (is_false (is_known al f) t)

pub record HistoryBounds (al f : ℕ) : Type 0 where
  pub from : 2007 ≤ (history_years al f).first
  pub to : (history_years al f).first + (history_years al f).count ≤ 2022
  -- the last year is AL-5
  pub ends : (history_years al f).first + (history_years al f).count + 4 ≡ al
  pub length : ((history_years al f).count ≡ 5) ⊎ ((history_years al f).count ≡ 10)

pub history_bounds : (al f : ℕ) → T (is_known al f) → HistoryBounds al f
history_bounds al f t = go (length_5_10 f)
  where
    known : Known al f
    known = known_parts al f t

    first_is : (history_years al f).first ≡ al - (history_length f + 4)
    first_is = rw (known_history al f t)

    count_is : (history_years al f).count ≡ history_length f
    count_is = rw (known_history al f t)

    go : (history_length f ≡ 5) ⊎ (history_length f ≡ 10) → HistoryBounds al f
    go (inl h) =
        record {
          from = omega (arith, known, first_is, count_is);
          to = omega (arith, known, first_is, count_is);
          ends = omega (arith, known, first_is, count_is);
          length = inl (count_is ∙ h);
        }
    go (inr h) =
        record {
          from = omega (arith, known, first_is, count_is);
          to = omega (arith, known, first_is, count_is);
          ends = omega (arith, known, first_is, count_is);
          length = inr (count_is ∙ h);
        }

-- only a known AL and filière has a year
pub has_history : (al f : ℕ) → ((history_years al f).count ≡ 0 → ⊥) → T (is_known al f)
has_history al f h = go (is_known al f) refl
  where
    go : (b : Bool) → is_known al f ≡ b → T (is_known al f)
    go true e = passed (is_known al f) e
    go false e = absurd (h (rw (no_history al f (rw e tt))))

pub history_short : (al f : ℕ) → T (is_known al f) → (history_years al f).count ≤ 10
history_short al f t = ⊎_elim (λ e. omega arith) (λ e. omega arith) (history_bounds al f t).length

-- so history years lie in 2007 to 2021
pub history_year_lem : (al f y : ℕ) → T (among (history_years al f) y) → (2007 ≤ y) × (y ≤ 2021)
history_year_lem al f y t =
    let span = (among_words (history_years al f) y).0 t in
    let h = history_bounds al f (has_history al f (λ e. omega arith)) in
    (omega arith, omega arith)

pub record AxisBounds (al f : ℕ) : Type 0 where
  pub starts : (axis_years (history_years al f)).first + 1 ≡ (history_years al f).first
  pub length : (axis_years (history_years al f)).count ≡ (history_years al f).count + 2

has_years : (al f : ℕ) → T (is_known al f) → (history_years al f).count ≡ 0 → ⊥
has_years al f t e = go (history_bounds al f t).length
  where
    go : ((history_years al f).count ≡ 5) ⊎ ((history_years al f).count ≡ 10) → ⊥
    go (inl h) = omega arith
    go (inr h) = omega arith

pub known_axis : (al f : ℕ) → T (is_known al f) → axis_years (history_years al f) ≡ years ((history_years al f).first - 1) ((history_years al f).count + 2)
unfolding axis_years
known_axis al f t = rw (ne_eqb (history_years al f).count 0 (has_years al f t))

pub axis_bounds : (al f : ℕ) → T (is_known al f) → AxisBounds al f
axis_bounds al f t =
    let e = known_axis al f t in
    record { starts = rw e (omega (arith, (history_bounds al f t).from)); length = rw e }

pub no_axis : (al f : ℕ) → T (not (is_known al f)) → axis_years (history_years al f) ≡ years 0 0
unfolding axis_years
no_axis al f t = rw (no_history al f t)

-- an axis has twelve years at most, and ends by 2022
pub record AxisRange (al f : ℕ) : Type 0 where
  pub short : (axis_years (history_years al f)).count ≤ 12
  pub to : (axis_years (history_years al f)).first + (axis_years (history_years al f)).count ≤ 2023

pub axis_range : (al f : ℕ) → AxisRange al f
axis_range al f = go (is_known al f) refl
  where
    go : (b : Bool) → is_known al f ≡ b → AxisRange al f
    go true e =
        let t = passed (is_known al f) e in
        let h = history_bounds al f t in
        let a = axis_bounds al f t in
        let k = history_short al f t in
        record { short = omega arith; to = omega arith }
    go false e =
        let z = no_axis al f (rw e tt) in
        record { short = rw z (lit≤ tt); to = rw z (lit≤ tt) }

-- a year of a span is a year of its axis
pub axis_among : (h : Years) (y : ℕ) → T (among h y) → T (among (axis_years h) y)
unfolding axis_years
axis_among h y t =
    let span = (among_words h y).0 t in
    rw (ne_eqb h.count 0 (λ e. omega arith)) ((among_words (years (h.first - 1) (h.count + 2)) y).1 (omega arith))

-- ---- positions
pub record PositionParts (axis : Years) (y m d : ℕ) : Type 0 where
  pub year : year_at axis (position_of axis y m d) ≡ y
  pub place : place_at (position_of axis y m d) ≡ date_place m d
  pub below : position_of axis y m d < 366 * axis.count

pub position_parts : (axis : Years) (y m d : ℕ) → T (among axis y) → T (is_day m d) → PositionParts axis y m d
unfolding year_at place_at position_of
position_parts axis y m d a t =
    let span = (among_words axis y).0 a in
    let here = (day_place m d t).below in
    record { year = omega arith; place = omega arith; below = omega arith }

pub position_back : (axis : Years) (p : ℕ) → position_of axis (year_at axis p) (month_of (place_at p)) (day_of (place_at p)) ≡ p
unfolding year_at place_at position_of
position_back axis p = omega (arith, (place_day (p % 366) (omega arith)).back)

-- the year of a position of the block is a year of the axis
pub year_among : (axis : Years) (p : ℕ) → p < 366 * axis.count → T (among axis (year_at axis p))
unfolding year_at
year_among axis p h = (among_words axis (axis.first + p / 366)).1 (omega arith)

pub earlier_position : (axis : Years) (y m d z n e : ℕ) → axis.first ≤ y → axis.first ≤ z → T (is_day m d) → T (is_day n e) → EarlierDate y m d z n e ↔ (position_of axis y m d < position_of axis z n e)
unfolding position_of
earlier_position axis y m d z n e a b s t = (forth, λ h. back h (tri y z))
  where
    forth : EarlierDate y m d z n e → 366 * (y - axis.first) + date_place m d < 366 * (z - axis.first) + date_place n e
    forth (inl h) = omega (arith, (day_place m d s).below)
    forth (inr h) = omega (arith, h.0, (earlier_place m d n e s t).0 h.1)

    back : 366 * (y - axis.first) + date_place m d < 366 * (z - axis.first) + date_place n e → (y < z) ⊎ ((y ≡ z) ⊎ (z < y)) → EarlierDate y m d z n e
    back h (inl c) = inl c
    back h (inr (inl c)) = inr (c, (earlier_place m d n e s t).1 (omega arith))
    back h (inr (inr c)) = absurd (omega (arith, (day_place n e t).below))
