-- Room for lines: each accepted line finds one more place among those of its tag, and there are 8,031 places in all.
use mathlib.Core.Path.{◌≡◌, refl}
use mathlib.Core.Logic.{◌⊎◌, inl, inr}
use mathlib.Core.Bool.{Bool, true, false, not, ◌&&◌, ◌||◌, cond}
use Prim.Native.Nat.{ℕ, zero, suc, ◌+◌, ◌-◌, ◌≤◌}
use native.Mathlib.Omega.{arith}
use lib.Dec.{T, leb, ltb, eqb, leb→le}
use borrow.Author.Tests.{ne_eqb}
use Rattle.lists.specs.Lists.{sum, tab}
use Rattle.lists.proofs.Snoc.{one}
use Rattle.lists.proofs.Tests.{is_false, passed, and_parts}
use Rattle.calendar.specs.declared.Years.{Years}
use Rattle.calendar.specs.Dates.{leap, all_winter_dates, all_dates}
use Rattle.calendar.specs.Spans.{years, among, history_length, is_known, history_years, axis_years}
use Rattle.calendar.proofs.Tables.{at}
use Rattle.calendar.proofs.Laws.{known_parts, known_history, no_history, length_5_10}
use Rattle.meaning.specs.Filing.{Meter}
use Rattle.meaning.specs.Line.{Tag, S, C, X, D, P, B, R, E, other, rank, is}
use Rattle.meaning.specs.Refusals.{most_readings}
use Rattle.meaning.specs.File.{is_index_meter}
use Rattle.meaning.specs.Record.{Rec, site_of_rec, history_of_site, history_of_rec, axis_of_rec, misplaced_by}
use Rattle.demands.proofs.Held.Counts.{dates_by, winter_dates_by, years_by, over, marks, lines_by, Grows, over_grows, over_rises, dates_most, winters_most, years_most}
use Rattle.demands.proofs.Held.Order.{later_line}

-- ---- one more
pub part : (h : Years) (f : ℕ → ℕ → ℕ) (b : Bool) (y k q : ℕ) → (T b → T (among h y)) → (T b → Grows f y k q)
    → over h (λ z. f z k) + one b ≤ over h (λ z. f z (cond b q k))
part h f true y k q a g = over_grows h f y k q (a tt) (g tt)
part h f false y k q a g = omega arith

pub one_reading : (b : Bool) (n : ℕ) → cond b (n + 1) n ≡ n + one b
one_reading true n = refl
one_reading false n = omega arith

-- a known tag is one of the eight
pub one_tag : (t : Tag) → T (not (eqb (rank t) 0))
    → (one (is S t) + one (is E t)) + (one (is C t) + (one (is X t) + (one (is D t) + (one (is P t) + (one (is B t) + one (is R t)))))) ≡ 1
one_tag S h = refl
one_tag C h = refl
one_tag X h = refl
one_tag D h = refl
one_tag P h = refl
one_tag B h = refl
one_tag R h = refl
one_tag E h = refl
one_tag other h = absurd h

-- S is the first line and E the last
marks_before : (n : ℕ) (m : Meter) (t : Tag) → T (not (misplaced_by (suc n) m t)) → T (not (is S t)) → marks (suc n) ≤ 1
unfolding misplaced_by marks
marks_before n m t h u = rw (is_false (eqb 8 (suc n)) (go (ltb (rank t) (suc n)) (is S t) (eqb 8 (suc n)) (is C t && is_index_meter m) h), ne_eqb (suc n) 0 (λ e. omega arith)) (omega arith)
  where
    go : (a b c d : Bool) → T (not ((a || (b || c)) || d)) → T (not c)
    go true b c d h = absurd h
    go false true c d h = absurd h
    go false false true d h = absurd h
    go false false false d h = tt

marks_after : (t : Tag) → T (not (eqb (rank t) 0)) → marks (rank t) ≡ one (is E t) + 1
unfolding marks
marks_after S h = refl
marks_after C h = refl
marks_after X h = refl
marks_after D h = refl
marks_after P h = refl
marks_after B h = refl
marks_after R h = refl
marks_after E h = refl
marks_after other h = absurd h

pub marks_later : (n : ℕ) (m : Meter) (t : Tag) → T (not (misplaced_by n m t)) → T (not (eqb (rank t) 0)) → T (not (is S t))
    → marks n + (one (is S t) + one (is E t)) ≤ marks (rank t)
marks_later zero m t h k u = absurd (later_line zero m t h u)
marks_later (suc n) m t h k u = rw (is_false (is S t) u) (omega (arith, marks_before n m t h u, marks_after t k))

-- ---- how many places there are
marks_most : (n : ℕ) → marks n ≤ 2
unfolding marks
marks_most n = go (eqb n 0) (eqb 8 n)
  where
    go : (a b : Bool) → cond a 0 (cond b 2 1) ≤ 2
    go true b = omega arith
    go false true = omega arith
    go false false = omega arith

-- a span of history years, and its axis, have few dates: at most 3 leap years in 10, and in 12
few_dates : Years → Bool
few_dates h = leb (over h all_winter_dates) 1513 && (leb (over (axis_years h) all_dates) 4383 && leb (over h (λ y. 1)) 10)

few_test : ℕ → ℕ → Bool
unfolding few_dates over sum tab axis_years all_winter_dates all_dates leap
few_test n i = few_dates (years (2021 + i - (n + 4)) n)

few_known : (al n : ℕ) → 2021 ≤ al → al ≤ 2026 → (n ≡ 5) ⊎ (n ≡ 10) → T (few_dates (years (al - (n + 4)) n))
unfolding few_test
few_known al n a b (inl e) = let z : 2021 + (al - 2021) ≡ al = omega arith in rw (e, ← z) (at (few_test 5) 6 tt (al - 2021) (omega arith))
few_known al n a b (inr e) = let z : 2021 + (al - 2021) ≡ al = omega arith in rw (e, ← z) (at (few_test 10) 6 tt (al - 2021) (omega arith))

few_dates_lem : (al f : ℕ) → T (few_dates (history_years al f))
unfolding few_dates over sum tab axis_years
few_dates_lem al f = go (is_known al f) refl
  where
    go : (b : Bool) → is_known al f ≡ b → T (few_dates (history_years al f))
    go true e = let t = passed (is_known al f) e in let k = known_parts al f t in rw (known_history al f t) (few_known al (history_length f) k.first_al_lem k.last_al (length_5_10 f))
    go false e = rw (no_history al f (rw e tt)) tt

pub lines_most : (s : Rec) → s.readings ≤ most_readings → lines_by s ≤ 8031
unfolding lines_by history_of_rec history_of_site axis_of_rec few_dates
lines_most s r = omega (
  arith,
  marks_most s.last,
  over_rises h (λ y. winter_dates_by y s.lasts.c) all_winter_dates (λ y. winters_most y s.lasts.c),
  over_rises h (λ y. winter_dates_by y s.lasts.p) all_winter_dates (λ y. winters_most y s.lasts.p),
  over_rises (axis_years h) (λ y. dates_by y s.lasts.d) all_dates (λ y. dates_most y s.lasts.d),
  over_rises h (λ y. years_by y s.lasts.b) (λ y. 1) (λ y. years_most y s.lasts.b),
  over_rises h (λ y. years_by y s.lasts.r) (λ y. 1) (λ y. years_most y s.lasts.r),
  leb→le (over h all_winter_dates) 1513 t1.0,
  leb→le (over (axis_years h) all_dates) 4383 t2.0,
  leb→le (over h (λ y. 1)) 10 t2.1,
)
  where
    h : Years
    h = history_years (site_of_rec s).al (site_of_rec s).filiere

    t1 : T (leb (over h all_winter_dates) 1513) × T (leb (over (axis_years h) all_dates) 4383 && leb (over h (λ y. 1)) 10)
    t1 = and_parts (leb (over h all_winter_dates) 1513) _ (few_dates_lem (site_of_rec s).al (site_of_rec s).filiere)

    t2 : T (leb (over (axis_years h) all_dates) 4383) × T (leb (over h (λ y. 1)) 10)
    t2 = and_parts (leb (over (axis_years h) all_dates) 4383) _ t1.1
