-- Ranges that refusal 1 checks, of last dates and of numbers by year: kept by an accepted line, and by S, before which there are none.
use mathlib.Core.Path.{◌≡◌}
use mathlib.Core.Bool.{Bool, true, false, not, ◌&&◌, ◌||◌, cond}
use mathlib.Core.List.{List}
use Prim.Native.Nat.{ℕ, ◌+◌, ◌-◌, ◌*◌, ◌/◌, ◌%◌, ◌<◌}
use native.Mathlib.Nat.{zero-add}
use native.Mathlib.Omega.{arith}
use lib.Dec.{T, leb, ltb, eqb, leb→le, le→leb, eqb→eq}
use lib.ListN.{length, get_or, set}
use borrow.Author.Tests.{lt-ltb, le-ltb}
use Rattle.lists.proofs.Snoc.{all_at_map, all_at_at, all_at_set}
use Rattle.lists.proofs.Tests.{and_left, and_made, or_right}
use Rattle.calendar.specs.declared.Years.{Years}
use Rattle.calendar.specs.Dates.{is_date, is_winter}
use Rattle.calendar.specs.Places.{date_place, has_date, month_of}
use Rattle.calendar.specs.Spans.{years, among}
use Rattle.calendar.proofs.Laws.{date_day, day_place, date_at_place, among_words}
use Rattle.meaning.specs.Line.{Line, year_on, date_key}
use Rattle.meaning.specs.Record.{date_fits, year_fits, each_year}
use Rattle.meaning.specs.Calls.{one_more}
use Rattle.demands.proofs.Held.Counts.{Grows}

-- ---- tests

-- what passes of two numbers passes of the one that is picked
pub picked : (p : ℕ → Bool) (b : Bool) (q k : ℕ) → T (p k) → (T b → T (p q)) → T (p (cond b q k))
picked p true q k t h = h tt
picked p false q k t h = t

no_year_lem : (y : ℕ) → T (among (years 0 0) y) → ⊥
no_year_lem y t = omega (arith, (among_words (years 0 0) y).0 t)

-- ---- last dates and years
pub date_fits_lem : (h : Years) (w : Bool) (y m d : ℕ) → T (among h y) → T (is_date y m d) → (T w → T (is_winter m)) → T (date_fits h w (date_key y m d))
unfolding date_fits date_key
date_fits_lem h w y m d a t c =
    let day = date_day y m d t in
    let place = day_place m d day in
    let year : (366 * y + date_place m d) / 366 ≡ y = omega (arith, place.below) in
    let rest : (366 * y + date_place m d) % 366 ≡ date_place m d = omega (arith, place.below) in
    or_right (eqb (366 * y + date_place m d) 0) _
    (rw (year, rest, place.month) (and_made (among h y) _ a (and_made (has_date y (date_place m d)) _ (rw (date_at_place y m d day) at t) (only w c))))
  where
    only : (w : Bool) → (T w → T (is_winter m)) → T (not w || is_winter m)
    only true f = f tt
    only false f = tt

-- before S there is none, which is fine in any span
pub no_date_lem : (w v : Bool) (h : Years) (k : ℕ) → T (date_fits (years 0 0) w k) → T (date_fits h v k)
unfolding date_fits
no_date_lem w v h k t = go (eqb k 0) t
  where
    go : (b : Bool) → T (b || (among (years 0 0) (k / 366) && (has_date (k / 366) (k % 366) && (not w || is_winter (month_of (k % 366))))))
        → T (b || (among h (k / 366) && (has_date (k / 366) (k % 366) && (not v || is_winter (month_of (k % 366))))))
    go true u = tt
    go false u = absurd (no_year_lem (k / 366) (and_left (among (years 0 0) (k / 366)) _ u))

pub no_last_year : (h : Years) (k : ℕ) → T (year_fits (years 0 0) k) → T (year_fits h k)
unfolding year_fits
no_last_year h k t = go (eqb k 0) t
  where
    go : (b : Bool) → T (b || among (years 0 0) k) → T (b || among h k)
    go true u = tt
    go false u = absurd (no_year_lem k u)

-- ---- numbers by year
pub each_year_map : (h : Years) (f g : ℕ → ℕ → Bool) (ns : List ℕ) → ((y n : ℕ) → T (f y n) → T (g y n)) → T (each_year h f ns) → T (each_year h g ns)
unfolding each_year
each_year_map h f g ns m t = all_at_map _ _ (λ k n. go (ltb k h.count) (h.first + k) n) 0 ns t
  where
    go : (b : Bool) (y n : ℕ) → T (cond b (f y n) (eqb n 0)) → T (cond b (g y n) (eqb n 0))
    go true y n u = m y n u
    go false y n u = u

-- before S all are 0
pub no_numbers : (h : Years) (f g : ℕ → ℕ → Bool) (ns : List ℕ) → ((y : ℕ) → T (g y 0)) → T (each_year (years 0 0) f ns) → T (each_year h g ns)
unfolding each_year
no_numbers h f g ns z t = all_at_map _ _ (λ k n u. go (ltb k h.count) (h.first + k) n (rw (le-ltb k 0 (omega arith)) at u)) 0 ns t
  where
    go : (b : Bool) (y n : ℕ) → T (eqb n 0) → T (cond b (g y n) (eqb n 0))
    go true y n u = rw (eqb→eq n 0 u) (z y)
    go false y n u = u

pub each_year_at : (h : Years) (f : ℕ → ℕ → Bool) (ns : List ℕ) (y : ℕ) → T (each_year h f ns) → T (among h y) → y - h.first < length ns
    → T (f y (get_or ns (y - h.first) 0))
unfolding each_year
each_year_at h f ns y t a l =
    let span = (among_words h y).0 a in
    let here : h.first + (y - h.first) ≡ y = omega arith in
    rw (zero-add, lt-ltb (y - h.first) h.count (omega arith), here) at (all_at_at _ 0 ns t (y - h.first) 0 l)

pub each_year_set : (h : Years) (f : ℕ → ℕ → Bool) (ns : List ℕ) (y v : ℕ) → T (each_year h f ns) → T (among h y)
    → (y - h.first < length ns → T (f y v)) → T (each_year h f (set ns (y - h.first) v))
unfolding each_year
each_year_set h f ns y v t a p =
    let span = (among_words h y).0 a in
    let here : h.first + (y - h.first) ≡ y = omega arith in
    all_at_set _ 0 ns (y - h.first) v t (λ l. rw (zero-add, lt-ltb (y - h.first) h.count (omega arith), here) (p l))

pub set_by : (h : Years) (f : ℕ → ℕ → Bool) (b : Bool) (ns : List ℕ) (y v : ℕ) → T (each_year h f ns) → (T b → T (among h y)) → (T b → T (f y v))
    → T (each_year h f (cond b (set ns (y - h.first) v) ns))
set_by h f true ns y v t a p = each_year_set h f ns y v t (a tt) (λ l. p tt)
set_by h f false ns y v t a p = t

-- ---- dates by year: one more, where one more comes at or before the last
more_by : (h : Years) (f : ℕ → ℕ → ℕ) (l : Line) (k q : ℕ) (ns : List ℕ) → T (each_year h (λ y n. leb n (f y k)) ns) → T (among h (year_on l)) → Grows f (year_on l) k q
    → T (each_year h (λ y n. leb n (f y q)) (one_more h l ns))
unfolding one_more
more_by h f l k q ns t a g =
    each_year_set h (λ y n. leb n (f y q)) ns (year_on l) (get_or ns (year_on l - h.first) 0 + 1)
    (each_year_map h (λ y n. leb n (f y k)) (λ y n. leb n (f y q)) ns (λ y n u. le→leb n (f y q) (omega (arith, leb→le n (f y k) u, g.rises y))) t) a
    (λ b. le→leb (get_or ns (year_on l - h.first) 0 + 1) (f (year_on l) q)
    (omega (arith, g.more, leb→le (get_or ns (year_on l - h.first) 0) (f (year_on l) k) (each_year_at h (λ y n. leb n (f y k)) ns (year_on l) t a b))))

pub tally_by : (h : Years) (f : ℕ → ℕ → ℕ) (b : Bool) (l : Line) (k q : ℕ) (ns : List ℕ) → T (each_year h (λ y n. leb n (f y k)) ns) → (T b → T (among h (year_on l)))
    → (T b → Grows f (year_on l) k q) → T (each_year h (λ y n. leb n (f y (cond b q k))) (cond b (one_more h l ns) ns))
tally_by h f true l k q ns t a g = more_by h f l k q ns t (a tt) (g tt)
tally_by h f false l k q ns t a g = t
