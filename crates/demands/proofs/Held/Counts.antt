-- How many dates of a year come at or before a key (a date as date_key has it), and how these numbers grow when the key does.
use mathlib.Core.Path.{◌≡◌, refl}
use mathlib.Core.Bool.{Bool, true, false, ◌&&◌, cond}
use Prim.Native.Nat.{ℕ, ◌+◌, ◌*◌, ◌≤◌, ◌<◌}
use native.Mathlib.Nat.{le_refl}
use native.Mathlib.Omega.{arith}
use lib.Dec.{T, leb, eqb}
use borrow.Author.Tests.{leb-true, le-leb, lt-leb}
use Rattle.lists.specs.Lists.{tab, range, sum, count}
use Rattle.lists.proofs.Snoc.{sum_rises, sum_more, one, count_sum}
use Rattle.calendar.specs.declared.Years.{Years}
use Rattle.calendar.specs.Dates.{is_date, is_winter, all_winter_dates, all_dates}
use Rattle.calendar.specs.Places.{date_place, winter_place, date_of_winter, has_date, has_winter_date}
use Rattle.calendar.specs.Spans.{among}
use Rattle.calendar.proofs.Laws.{date_day, day_place, date_at_place, dates_in_year, winter_day_place, winter_dates_in_year, among_words}
use Rattle.meaning.specs.Line.{date_key}
use Rattle.meaning.specs.Record.{Rec, history_of_rec, axis_of_rec}

-- ---- of a year, at or before a key
unfoldable pub dates_by : ℕ → ℕ → ℕ
dates_by y k = count (λ p. has_date y p && leb (366 * y + p) k) (range 0 366)

unfoldable pub winter_dates_by : ℕ → ℕ → ℕ
winter_dates_by y k = count (λ w. has_winter_date y w && leb (366 * y + date_of_winter w) k) (range 0 152)

-- of a year's B and R lines the key is the year
unfoldable pub years_by : ℕ → ℕ → ℕ
years_by y k = cond (leb y k) 1 0

-- over the years of a span
unfoldable pub over : Years → (ℕ → ℕ) → ℕ
over s f = sum (tab s.count s.first f)

-- how many of S and E have come, by the rank of the last tag
unfoldable pub marks : ℕ → ℕ
marks n = cond (eqb n 0) 0 (cond (eqb 8 n) 2 1)

-- how many lines a record can have taken, by how far each tag has come
unfoldable pub lines_by : Rec → ℕ
lines_by s =
    marks s.last + (over (history_of_rec s) (λ y. winter_dates_by y s.lasts.c) + (s.readings + (over (axis_of_rec s) (λ y. dates_by y s.lasts.d)
    + (over (history_of_rec s) (λ y. winter_dates_by y s.lasts.p) + (over (history_of_rec s) (λ y. years_by y s.lasts.b)
    + over (history_of_rec s) (λ y. years_by y s.lasts.r))))))

-- from one key to another the numbers of no year fall, and that of the year y grows
pub record Grows (f : ℕ → ℕ → ℕ) (y k q : ℕ) : Type 0 where
  pub rises : (z : ℕ) → f z k ≤ f z q
  pub more : f y k + 1 ≤ f y q

-- ---- counts of what passes and comes at or before a key
one_rises : (a : Bool) (n k q : ℕ) → k ≤ q → one (a && leb n k) ≤ one (a && leb n q)
one_rises false n k q h = omega arith
one_rises true n k q h = go (leb n k) refl
  where
    go : (b : Bool) → leb n k ≡ b → one b ≤ one (leb n q)
    go true e = rw (le-leb n q (omega (arith, leb-true n k e))) (le_refl 1)
    go false e = omega arith

one_most : (a b : Bool) → one (a && b) ≤ one a
one_most true true = omega arith
one_most true false = omega arith
one_most false b = omega arith

one_more_lem : (a : Bool) (n k q : ℕ) → T a → k < n → n ≤ q → one (a && leb n k) + 1 ≤ one (a && leb n q)
one_more_lem true n k q t h g = rw (lt-leb n k h, le-leb n q g) (le_refl 1)
one_more_lem false n k q t h g = absurd t

module _ (has : ℕ → Bool) (key : ℕ → ℕ) (n : ℕ) where
  counted : ℕ → ℕ
  counted k = count (λ p. has p && leb (key p) k) (range 0 n)

  counted_rises : (k q : ℕ) → k ≤ q → counted k ≤ counted q
  unfolding counted
  counted_rises k q h =
      rw (count_sum (λ p. has p && leb (key p) k) 0 n, count_sum (λ p. has p && leb (key p) q) 0 n)
      (sum_rises n 0 (λ p. one (has p && leb (key p) k)) (λ p. one (has p && leb (key p) q)) (λ p. one_rises (has p) (key p) k q h))

  counted_most : (k : ℕ) → counted k ≤ count has (range 0 n)
  unfolding counted
  counted_most k =
      rw (count_sum (λ p. has p && leb (key p) k) 0 n, count_sum has 0 n)
      (sum_rises n 0 (λ p. one (has p && leb (key p) k)) (λ p. one (has p)) (λ p. one_most (has p) (leb (key p) k)))

  counted_more : (k q p : ℕ) → k ≤ q → p < n → T (has p) → k < key p → key p ≤ q → counted k + 1 ≤ counted q
  unfolding counted
  counted_more k q p h l t a b =
      rw (count_sum (λ p. has p && leb (key p) k) 0 n, count_sum (λ p. has p && leb (key p) q) 0 n)
      (sum_more n 0 (λ p. one (has p && leb (key p) k)) (λ p. one (has p && leb (key p) q)) (λ p. one_rises (has p) (key p) k q h)
      p (omega arith) (omega arith) (one_more_lem (has p) (key p) k q t a b))

-- ---- a date, a winter date, a year more
pub dates_grow : (y m d k : ℕ) → T (is_date y m d) → k < date_key y m d → Grows dates_by y k (date_key y m d)
unfolding dates_by date_key counted
dates_grow y m d k t h =
    let day = date_day y m d t in
    let place = day_place m d day in
    record {
      rises = λ z. counted_rises (has_date z) (λ p. 366 * z + p) 366 k (date_key y m d) (omega arith);
      more = counted_more (has_date y) (λ p. 366 * y + p) 366 k (date_key y m d) (date_place m d) (omega arith) place.below (rw (date_at_place y m d day) at t) h (omega arith);
    }

pub winters_grow : (y m d k : ℕ) → T (is_date y m d) → T (is_winter m) → k < date_key y m d → Grows winter_dates_by y k (date_key y m d)
unfolding winter_dates_by date_key counted has_winter_date
winters_grow y m d k t w h =
    let day = date_day y m d t in
    let place = winter_day_place m d day w in
    record {
      rises = λ z. counted_rises (has_winter_date z) (λ p. 366 * z + date_of_winter p) 152 k (date_key y m d) (omega arith);
      more =
          counted_more (has_winter_date y) (λ p. 366 * y + date_of_winter p) 152 k (date_key y m d) (winter_place m d) (omega arith) place.below
          (rw place.date_place_lem (rw (date_at_place y m d day) at t)) (rw place.date_place_lem h) (rw place.date_place_lem (le_refl (date_key y m d)));
    }

pub years_grow : (y k : ℕ) → k < y → Grows years_by y k y
unfolding years_by
years_grow y k h = record {
  rises = λ z. one_rises true z k y (omega arith);
  more = rw (lt-leb y k h, le-leb y y (le_refl y)) (le_refl 1);
}

-- ---- at most all of the year's
pub dates_most : (y k : ℕ) → dates_by y k ≤ all_dates y
unfolding dates_by all_dates counted
dates_most y k = rw (← dates_in_year y) (counted_most (has_date y) (λ p. 366 * y + p) 366 k)

pub winters_most : (y k : ℕ) → winter_dates_by y k ≤ all_winter_dates y
unfolding winter_dates_by all_winter_dates counted
winters_most y k = rw (← winter_dates_in_year y) (counted_most (has_winter_date y) (λ p. 366 * y + date_of_winter p) 152 k)

pub years_most : (y k : ℕ) → years_by y k ≤ 1
unfolding years_by
years_most y k = one_most true (leb y k)

-- ---- over a span
pub over_rises : (s : Years) (f g : ℕ → ℕ) → ((y : ℕ) → f y ≤ g y) → over s f ≤ over s g
unfolding over
over_rises s f g h = sum_rises s.count s.first f g h

pub over_grows : (s : Years) (f : ℕ → ℕ → ℕ) (y k q : ℕ) → T (among s y) → Grows f y k q → over s (λ z. f z k) + 1 ≤ over s (λ z. f z q)
unfolding over
over_grows s f y k q t g =
    let span = (among_words s y).0 t in
    sum_more s.count s.first (λ z. f z k) (λ z. f z q) g.rises y span.0 span.1 g.more
