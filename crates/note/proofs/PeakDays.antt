-- Annex 1 as document 01 has it: in each year the peak days rise, are winter places, and have a date in the year.
use mathlib.Core.Path.{◌≡◌, refl}
use mathlib.Core.Logic.{◌↔◌}
use mathlib.Core.Bool.{Bool, true, false, ◌&&◌}
use mathlib.Core.List.{List, [], ◌∷◌}
use Prim.Native.Nat.{ℕ, ◌+◌, ◌-◌, ◌≤◌, ◌<◌}
use native.Mathlib.Omega.{arith}
use lib.Dec.{T, eqb, leb, ltb, eqb→eq, leb→le}
use lib.ListN.{length, get_or, take, drop}
use Rattle.lists.specs.Lists.{all, count, sum, tab, Each, each_nil}
use Rattle.lists.proofs.Laws.{each_map}
use Rattle.lists.proofs.Reflect.{of_all, of_and, of_le, of_lt}
use Rattle.lists.proofs.Tests.{is_true, and_parts}
use Rattle.calendar.specs.Dates.{leap, month_lengths, longest, days_in, is_date}
use Rattle.calendar.specs.Places.{before, month_of, day_of, has_date, date_of_winter, has_winter_date}
use Rattle.note.specs.Peaks.{annex1, day_counts, has_peaks, peak_count, peak_start, peak_days}
use Rattle.note.proofs.Table.{at, every_part, part_at, rising, ascends, each_at}

-- ---- the one test of the whole table, year by year
is_count : ℕ → List ℕ → Bool
is_count n row = eqb (length row) n && (leb 11 n && leb n 22)

is_place : ℕ → ℕ → Bool
is_place y w = ltb w 152 && has_winter_date y w

right : ℕ → ℕ → List ℕ → Bool
right y n row = is_count n row && (rising row && all (is_place y) row)

tested : T (every_part right 2007 day_counts annex1)
unfolding right is_count is_place has_winter_date has_date is_date days_in longest leap month_lengths before month_of day_of date_of_winter all sum count day_counts annex1
tested = tt

pub table_length : length annex1 ≡ 282
unfolding annex1
table_length = refl

-- the counts of document 01, and that they are all of the table
pub counts : tab 15 2007 peak_count ≡ (20 ∷ 20 ∷ 20 ∷ 20 ∷ 20 ∷ 20 ∷ 20 ∷ 20 ∷ 20 ∷ 20 ∷ 22 ∷ 20 ∷ 11 ∷ 13 ∷ 16 ∷ [])
unfolding tab peak_count has_peaks day_counts
counts = refl

pub counts_sum : sum (tab 15 2007 peak_count) ≡ 282
unfolding sum
counts_sum = rw counts

-- ---- the years that annex 1 is used for
pub peak_years : (y : ℕ) → T (has_peaks y) → (2007 ≤ y) × (y ≤ 2021)
unfolding has_peaks
peak_years y h = (of_and (leb 2007 y) (leb y 2021) (of_le 2007 y) (of_le y 2021)).0 h

pub peak_year : (y : ℕ) → 2007 ≤ y → y ≤ 2021 → T (has_peaks y)
unfolding has_peaks
peak_year y h g = (of_and (leb 2007 y) (leb y 2021) (of_le 2007 y) (of_le y 2021)).1 (h, g)

pub count_in : (y : ℕ) → T (has_peaks y) → peak_count y ≡ get_or day_counts (y - 2007) 0
unfolding peak_count
count_in y h = rw (is_true (has_peaks y) h)

pub count_out : (y : ℕ) → has_peaks y ≡ false → peak_count y ≡ 0
unfolding peak_count
count_out y e = rw e

no_days : (y : ℕ) → has_peaks y ≡ false → peak_days y ≡ []
unfolding peak_days
no_days y e = rw (count_out y e)

-- a year with a peak day is one of them
pub has_peaks_lem : (y k : ℕ) → k < peak_count y → T (has_peaks y)
has_peaks_lem y k h = go (has_peaks y) refl
  where
    go : (b : Bool) → has_peaks y ≡ b → T b
    go true e = tt
    go false e = absurd (omega (arith, count_out y e))

-- ---- what the test says of a year
counts_length : length day_counts ≡ 15
unfolding day_counts
counts_length = refl

year_right : (y : ℕ) → T (has_peaks y) → T (right y (peak_count y) (peak_days y))
unfolding peak_days peak_start
year_right y h =
    let b = peak_years y h in
    let e : 2007 + (y - 2007) ≡ y = omega arith in
    rw (count_in y h) (rw e at (part_at right day_counts annex1 2007 tested (y - 2007) (omega (arith, counts_length))))

year_counts : (y : ℕ) → T (has_peaks y) → (length (peak_days y) ≡ peak_count y) × (11 ≤ peak_count y) × (peak_count y ≤ 22)
unfolding right is_count
year_counts y h =
    let row = peak_days y in
    let n = peak_count y in
    let s = and_parts (is_count n row) (rising row && all (is_place y) row) (year_right y h) in
    let u = and_parts (eqb (length row) n) (leb 11 n && leb n 22) s.0 in
    let b = and_parts (leb 11 n) (leb n 22) u.1 in
    (eqb→eq (length row) n u.0, leb→le 11 n b.0, leb→le n 22 b.1)

year_rows : (y : ℕ) → T (has_peaks y) → T (rising (peak_days y)) × T (all (is_place y) (peak_days y))
unfolding right
year_rows y h =
    let row = peak_days y in
    and_parts (rising row) (all (is_place y) row) (and_parts (is_count (peak_count y) row) (rising row && all (is_place y) row) (year_right y h)).1

is_place_lem : (y w : ℕ) → T (is_place y w) ↔ ((w < 152) × T (has_winter_date y w))
unfolding is_place
is_place_lem y w = of_and (ltb w 152) (has_winter_date y w) (of_lt w 152) (λ u. u, λ u. u)

-- ---- the laws, for any year: one without peak days has the empty list
pub days_length : (y : ℕ) → length (peak_days y) ≡ peak_count y
days_length y = go (has_peaks y) refl
  where
    go : (b : Bool) → has_peaks y ≡ b → length (peak_days y) ≡ peak_count y
    go true e = (year_counts y (rw e tt)).0
    go false e = rw (no_days y e, count_out y e)

pub most_days : (y : ℕ) → peak_count y ≤ 22
most_days y = go (has_peaks y) refl
  where
    go : (b : Bool) → has_peaks y ≡ b → peak_count y ≤ 22
    go true e = (year_counts y (rw e tt)).2
    go false e = omega (arith, count_out y e)

pub fewest_days : (y : ℕ) → T (has_peaks y) → 11 ≤ peak_count y
fewest_days y h = (year_counts y h).1

each_place : (y : ℕ) → Each (λ w. (w < 152) × T (has_winter_date y w)) (peak_days y)
each_place y = go (has_peaks y) refl
  where
    go : (b : Bool) → has_peaks y ≡ b → Each (λ w. (w < 152) × T (has_winter_date y w)) (peak_days y)
    go true e = (of_all (is_place y) (is_place_lem y) (peak_days y)).0 (year_rows y (rw e tt)).1
    go false e = rw (no_days y e) each_nil

pub each_winter : (y : ℕ) → Each (λ w. w < 152) (peak_days y)
each_winter y = each_map (λ w p. p.0) (each_place y)

pub each_dated : (y : ℕ) → Each (λ w. T (has_winter_date y w)) (peak_days y)
each_dated y = each_map (λ w p. p.1) (each_place y)

pub in_winter : (y k : ℕ) → k < peak_count y → get_or (peak_days y) k 0 < 152
in_winter y k h = each_at (each_winter y) k 0 (rw (days_length y) h)

pub has_date_lem : (y k : ℕ) → k < peak_count y → T (has_winter_date y (get_or (peak_days y) k 0))
has_date_lem y k h = each_at (each_dated y) k 0 (rw (days_length y) h)

pub ascending : (y k l : ℕ) → k < l → l < peak_count y → get_or (peak_days y) k 0 < get_or (peak_days y) l 0
ascending y k l h g = ascends (peak_days y) (year_rows y (has_peaks_lem y l g)).0 k l h (rw (days_length y) g)

-- ---- the starts as the code has them: each is the sum of the counts before it, and each count the step to the next
unfoldable pub starts : List ℕ
starts = 0 ∷ 20 ∷ 40 ∷ 60 ∷ 80 ∷ 100 ∷ 120 ∷ 140 ∷ 160 ∷ 180 ∷ 200 ∷ 222 ∷ 242 ∷ 253 ∷ 266 ∷ 282 ∷ []

is_start : ℕ → ℕ → Bool
is_start i x = eqb x (sum (take i day_counts))

is_step : ℕ → ℕ → Bool
is_step i n = eqb (get_or starts i 0 + n) (get_or starts (i + 1) 0)

pub start_at : (i : ℕ) → i < 16 → get_or starts i 0 ≡ sum (take i day_counts)
unfolding is_start starts sum day_counts
start_at i h = eqb→eq (get_or starts i 0) (sum (take i day_counts)) (at is_start starts tt i 0 h)

pub step_at : (i : ℕ) → i < 15 → get_or starts i 0 + get_or day_counts i 0 ≡ get_or starts (i + 1) 0
unfolding is_step starts day_counts
step_at i h = eqb→eq (get_or starts i 0 + get_or day_counts i 0) (get_or starts (i + 1) 0) (at is_step day_counts tt i 0 h)

-- ---- a year's part of the table, from its start to the next
pub part_is : (y : ℕ) → 2007 ≤ y → y ≤ 2021 → take (get_or starts (y - 2007 + 1) 0 - get_or starts (y - 2007) 0) (drop (get_or starts (y - 2007) 0) annex1) ≡ peak_days y
unfolding peak_days peak_start
part_is y h g =
    let e : get_or starts (y - 2007 + 1) 0 - get_or starts (y - 2007) 0 ≡ peak_count y =
    omega (arith, count_in y (peak_year y h g), step_at (y - 2007) (omega arith)) in
    rw (e, start_at (y - 2007) (omega arith))

pub no_part : (y : ℕ) → (2007 ≤ y → y ≤ 2021 → ⊥) → peak_days y ≡ []
no_part y n = go (has_peaks y) refl
  where
    go : (b : Bool) → has_peaks y ≡ b → peak_days y ≡ []
    go true e = let b = peak_years y (rw e tt) in absurd (n b.0 b.1)
    go false e = no_days y e
