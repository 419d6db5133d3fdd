-- Which intervals have a winter day of a year, and which touch the year, by their ends.
use mathlib.Core.Path.{◌≡◌}
use mathlib.Core.Logic.{◌↔◌, ◌⊎◌, inl, inr}
use mathlib.Core.Bool.{Bool, ◌&&◌, ◌||◌, beq}
use Prim.Native.Nat.{ℕ, ◌+◌, ◌-◌, ◌*◌, ◌/◌, ◌%◌, ◌≤◌, ◌<◌}
use native.Mathlib.Omega.{arith}
use lib.Dec.{T, eqb, leb, ltb}
use borrow.Author.Tests.{lt-ltb}
use Rattle.lists.specs.Lists.{any, range, sum, count}
use Rattle.lists.proofs.Reflect.{of_eq, of_le, of_lt, of_and, of_or}
use Rattle.calendar.specs.Dates.{is_winter, month_lengths}
use Rattle.calendar.specs.Places.{has_date, month_of, before}
use Rattle.calendar.specs.Spans.{year_at, place_at}
use Rattle.calendar.proofs.Tables.{beq→eq, at, tri}
use Rattle.calendar.proofs.Laws.Days.{has_date_other}
use Rattle.meaning.specs.Filing.{Filing, axis_of, year_of}
use Rattle.meaning.specs.Validity.{Interval, days_of, is_winter_day, overlaps_winter, touches}
use Rattle.validity.specs.Columns.{meets_winter}
use Rattle.lists.proofs.Ranges.{any_keep, some_of_range, range_some}
use Rattle.lists.proofs.Tests.{same, and_right, and_made}

-- ---- the date places of winter
winter_test : ℕ → Bool
unfolding is_winter month_lengths before month_of sum count
winter_test q = beq (is_winter (month_of q)) (ltb q 91 || leb 305 q)

-- the 91 from 1 January on, and those from 1 November, place 305, on
winter_places : (q : ℕ) → q < 366 → is_winter (month_of q) ≡ (ltb q 91 || leb 305 q)
unfolding winter_test
winter_places q h = beq→eq (is_winter (month_of q)) (ltb q 91 || leb 305 q) (at winter_test 366 tt q h)

winter_place_words : (q : ℕ) → q < 366 → T (is_winter (month_of q)) ↔ ((q < 91) ⊎ (305 ≤ q))
winter_place_words q h = rw (winter_places q h) (of_or (ltb q 91) (leb 305 q) (of_lt q 91) (of_le 305 q))

-- ---- the days of a year whose 1 January is at s
-- in winter
abbrev pub InWinter : ℕ → ℕ → Type 0
InWinter s p = ((s ≤ p) × (p < s + 91)) ⊎ ((s + 305 ≤ p) × (p < s + 366))

pub dated_at_lem : (y p q : ℕ) → place_at p ≡ q → q < 59 → T (has_date y (place_at p))
dated_at_lem y p q e h = rw (e, has_date_other y q (λ z. omega arith), lt-ltb q 366 (omega arith)) tt

pub dated_late : (y p q : ℕ) → place_at p ≡ q → 59 < q → q < 366 → T (has_date y (place_at p))
dated_late y p q e h l = rw (e, has_date_other y q (λ z. omega arith), lt-ltb q 366 l) tt

module _ (F : Filing) (y s : ℕ) (from : (axis_of F).first ≤ y) (row : s ≡ 366 * (y - (axis_of F).first)) where
  pub winter_day : (p : ℕ) → T (is_winter_day F y p) ↔ InWinter s p
  unfolding is_winter_day year_of year_at place_at
  winter_day p = (forth, back)
    where
      parts : T (eqb ((axis_of F).first + p / 366) y && is_winter (month_of (p % 366))) ↔ (((axis_of F).first + p / 366 ≡ y) × ((p % 366 < 91) ⊎ (305 ≤ p % 366)))
      parts = of_and (eqb ((axis_of F).first + p / 366) y) (is_winter (month_of (p % 366))) (of_eq ((axis_of F).first + p / 366) y) (winter_place_words (p % 366) (omega arith))

      forth : T (eqb ((axis_of F).first + p / 366) y && is_winter (month_of (p % 366))) → InWinter s p
      forth t = go (parts.0 t).0 (parts.0 t).1
        where
          go : (axis_of F).first + p / 366 ≡ y → (p % 366 < 91) ⊎ (305 ≤ p % 366) → InWinter s p
          go e (inl h) = inl (omega arith, omega arith)
          go e (inr h) = inr (omega arith, omega arith)

      back : InWinter s p → T (eqb ((axis_of F).first + p / 366) y && is_winter (month_of (p % 366)))
      back (inl h) = parts.1 (omega arith, inl (omega arith))
      back (inr h) = parts.1 (omega arith, inr (omega arith))

  -- a day of an interval that passes a test
  some_day : (v : Interval) (t : ℕ → Bool) → T (any t (days_of F v))
      → (p : ℕ) × (v.from.position ≤ p) × (p < v.to.position) × T (t p)
  unfolding days_of
  some_day v t h =
      let q : ℕ → Bool = λ p. has_date (year_of F p) (place_at p) in
      let a = v.from.position in
      let b = v.to.position in
      let k = some_of_range (λ p. q p && t p) (b - a) a (rw (any_keep t q (range a (b - a))) at h) in
      (k.0, k.1, omega (arith, k.1, k.2), and_right (q k.0) (t k.0) k.3)

  day_some : (v : Interval) (t : ℕ → Bool) (p : ℕ) → v.from.position ≤ p → p < v.to.position → T (has_date (year_of F p) (place_at p)) → T (t p) → T (any t (days_of F v))
  unfolding days_of
  day_some v t p h l d u =
      let q : ℕ → Bool = λ r. has_date (year_of F r) (place_at r) in
      let a = v.from.position in
      let b = v.to.position in
      rw (any_keep t q (range a (b - a))) (range_some (λ r. q r && t r) (b - a) a p h (omega arith) (and_made (q p) (t p) d u))

  -- an interval in order, from a date that exists
  module _ (v : Interval) (order : v.from.position < v.to.position) (dated : T (has_date (year_of F v.from.position) (place_at v.from.position))) where
    pub overlap_by_ends : overlaps_winter F y v ≡ meets_winter s v.from.position v.to.position
    unfolding overlaps_winter meets_winter
    overlap_by_ends = same (any (is_winter_day F y) (days_of F v)) ((ltb a (s + 91) && ltb s b) || (ltb a (s + 366) && ltb (s + 305) b)) forth (λ t. back (words.0 t))
      where
        a : ℕ
        a = v.from.position

        b : ℕ
        b = v.to.position

        words : T ((ltb a (s + 91) && ltb s b) || (ltb a (s + 366) && ltb (s + 305) b)) ↔ (((a < s + 91) × (s < b)) ⊎ ((a < s + 366) × (s + 305 < b)))
        words =
            of_or (ltb a (s + 91) && ltb s b) (ltb a (s + 366) && ltb (s + 305) b)
            (of_and (ltb a (s + 91)) (ltb s b) (of_lt a (s + 91)) (of_lt s b)) (of_and (ltb a (s + 366)) (ltb (s + 305) b) (of_lt a (s + 366)) (of_lt (s + 305) b))

        forth : T (any (is_winter_day F y) (days_of F v)) → T ((ltb a (s + 91) && ltb s b) || (ltb a (s + 366) && ltb (s + 305) b))
        forth t =
            let k = some_day v (is_winter_day F y) t in
            words.1 (go k.0 k.1 k.2 ((winter_day k.0).0 k.3))
          where
            go : (p : ℕ) → a ≤ p → p < b → InWinter s p → ((a < s + 91) × (s < b)) ⊎ ((a < s + 366) × (s + 305 < b))
            go p h l (inl q) = inl (omega arith, omega arith)
            go p h l (inr q) = inr (omega arith, omega arith)

        -- the first day of the period, or of the interval
        here : (p : ℕ) → a ≤ p → p < b → T (has_date (year_of F p) (place_at p)) → InWinter s p → T (any (is_winter_day F y) (days_of F v))
        here p h l d q = day_some v (is_winter_day F y) p h l d ((winter_day p).1 q)

        first_place_lem : place_at s ≡ 0
        first_place_lem = unfold place_at in omega arith

        november : place_at (s + 305) ≡ 305
        november = unfold place_at in omega arith

        back : ((a < s + 91) × (s < b)) ⊎ ((a < s + 366) × (s + 305 < b)) → T (any (is_winter_day F y) (days_of F v))
        back (inl h) = elim (tri a s) [
          | inl k ↦ here s (omega arith) (omega arith) (dated_at_lem (year_of F s) s 0 first_place_lem (omega arith)) (inl (omega arith, omega arith))
          | inr k ↦ here a (omega arith) order dated (inl (elim k [ inl u ↦ (omega arith, omega arith) | inr u ↦ (omega arith, omega arith) ]))
        ]
        back (inr h) = elim (tri a (s + 305)) [
          | inl k ↦ here (s + 305) (omega arith) (omega arith) (dated_late (year_of F (s + 305)) (s + 305) 305 november (omega arith) (omega arith)) (inr (omega arith, omega arith))
          | inr k ↦ here a (omega arith) order dated (inr (elim k [ inl u ↦ (omega arith, omega arith) | inr u ↦ (omega arith, omega arith) ]))
        ]

    pub touch_by_ends : T (touches F y v) ↔ ((v.from.position / 366 ≤ y - (axis_of F).first) × (y - (axis_of F).first ≤ (v.to.position - 1) / 366))
    unfolding touches
    touch_by_ends = (λ t. forth (some_day v (λ p. eqb (year_of F p) y) t), λ h. back h (tri v.from.position s))
      where
        forth : (p : ℕ) × (v.from.position ≤ p) × (p < v.to.position) × T (eqb (year_of F p) y)
            → (v.from.position / 366 ≤ y - (axis_of F).first) × (y - (axis_of F).first ≤ (v.to.position - 1) / 366)
        forth k = go k.0 k.1 k.2 ((of_eq (year_of F k.0) y).0 k.3)
          where
            go : (p : ℕ) → v.from.position ≤ p → p < v.to.position → year_of F p ≡ y
                → (v.from.position / 366 ≤ y - (axis_of F).first) × (y - (axis_of F).first ≤ (v.to.position - 1) / 366)
            go p h l e = unfold year_of year_at in (let u : (axis_of F).first + p / 366 ≡ y = e in (omega arith, omega arith))

        place : place_at s ≡ 0
        place = unfold place_at in omega arith

        year : (p : ℕ) → s ≤ p → p < s + 366 → T (eqb (year_of F p) y)
        year p h l = (of_eq (year_of F p) y).1 (unfold year_of year_at in omega arith)

        back : (v.from.position / 366 ≤ y - (axis_of F).first) × (y - (axis_of F).first ≤ (v.to.position - 1) / 366)
            → (v.from.position < s) ⊎ ((v.from.position ≡ s) ⊎ (s < v.from.position)) → T (any (λ p. eqb (year_of F p) y) (days_of F v))
        back h (inl k) =
            day_some v (λ p. eqb (year_of F p) y) s (omega arith) (omega arith) (dated_at_lem (year_of F s) s 0 place (omega arith)) (year s (omega arith) (omega arith))
        back h (inr (inl k)) = day_some v (λ p. eqb (year_of F p) y) v.from.position (omega arith) order dated (year v.from.position (omega arith) (omega arith))
        back h (inr (inr k)) = day_some v (λ p. eqb (year_of F p) y) v.from.position (omega arith) order dated (year v.from.position (omega arith) (omega arith))
