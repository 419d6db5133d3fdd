-- Months: how long they are and where they begin.
use mathlib.Core.Path.{◌≡◌, refl, ap}
use mathlib.Core.Bool.{Bool, true, false, not, ◌||◌, cond}
use Prim.Native.Nat.{ℕ, zero, suc, ◌+◌, ◌/◌, ◌≤◌, ◌<◌}
use native.Mathlib.Omega.{arith}
use lib.Dec.{T, leb, ltb, eqb, leb→le, le→leb, lt→ltb, eqb→eq}
use lib.ListN.{get_or-eq_default}
use lib.Seq.{take_all}
use borrow.Author.Tests.{ltb-true, ltb-false, le-leb, lt-leb}
use Rattle.lists.specs.Lists.{all, sum, keep, count}
use Rattle.calendar.specs.Dates.{month_lengths, longest, is_winter}
use Rattle.calendar.specs.Places.{months, before, month_of, winter_before}
use Rattle.calendar.proofs.Tables.{given, count_all, at, at_pair}

-- ---- lengths
-- no month has more than 31 days
short_month : ℕ → Bool
unfolding month_lengths longest
short_month m = leb (longest m) 31

-- there is no month 13
pub no_month : (m : ℕ) → 13 ≤ m → longest m ≡ 0
unfolding longest month_lengths
no_month m h = get_or-eq_default month_lengths 0 h

-- there is no month 0
pub from_january : (m : ℕ) → 1 ≤ longest m → 1 ≤ m
unfolding longest month_lengths
from_january zero h = h
from_january (suc m) h = omega arith

pub to_december : (m : ℕ) → 1 ≤ longest m → m ≤ 12
to_december m h = go (ltb m 13) refl
  where
    go : (b : Bool) → ltb m 13 ≡ b → m ≤ 12
    go false e = absurd (omega (arith, no_month m (ltb-false m 13 e)))
    go true e = omega (arith, ltb-true m 13 e)

pub longest_31 : (m : ℕ) → longest m ≤ 31
unfolding short_month
longest_31 m = go (ltb m 13) refl
  where
    go : (b : Bool) → ltb m 13 ≡ b → longest m ≤ 31
    go false e = omega (arith, no_month m (ltb-false m 13 e))
    go true e = leb→le (longest m) 31 (at short_month 13 tt m (ltb-true m 13 e))

-- ---- beginnings
-- past December there are all days of the year
pub before_past : (m : ℕ) → 13 ≤ m → before m ≡ 366
unfolding before month_lengths sum
before_past m h = ap sum (take_all m month_lengths h)

month_test : ℕ → ℕ → Bool
unfolding longest before month_lengths sum
month_test m n = not (ltb m n) || leb (before m + longest m) (before n)

-- a month's days are over where a later month begins
pub month_over : (m n : ℕ) → m < n → n ≤ 12 → before m + longest m ≤ before n
unfolding month_test
month_over m n h k = leb→le _ _ (given (ltb m n) _ (at_pair month_test 13 13 tt m n (omega arith) (omega arith)) (lt→ltb m n h))

-- ---- the month of a place
december_test : ℕ → Bool
unfolding before month_lengths sum
december_test m = leb (before m) 335

-- every month begins at place 335 or before it
pub december : (p : ℕ) → 335 ≤ p → month_of p ≡ 12
unfolding month_of december_test all
december p h = count_all december_test (λ m. leb (before m) p) (λ m t. le→leb (before m) p (omega (arith, leb→le (before m) 335 t))) months tt

-- a division by 31 finds the month or the one before it
by_31_test : ℕ → Bool
unfolding before month_lengths month_of sum count
by_31_test p = eqb (month_of p) (cond (leb (before (p / 31 + 1 + 1)) p) (p / 31 + 1 + 1) (p / 31 + 1))

by_31 : (p : ℕ) → p < 335 → month_of p ≡ cond (leb (before (p / 31 + 1 + 1)) p) (p / 31 + 1 + 1) (p / 31 + 1)
unfolding by_31_test
by_31 p h = eqb→eq _ _ (at by_31_test 335 tt p h)

pub next_month : (p : ℕ) → p < 335 → before (p / 31 + 1 + 1) ≤ p → month_of p ≡ p / 31 + 1 + 1
next_month p h k = rw (by_31 p h, le-leb _ _ k)

pub this_month : (p : ℕ) → p < 335 → p < before (p / 31 + 1 + 1) → month_of p ≡ p / 31 + 1
this_month p h k = rw (by_31 p h, lt-leb _ _ k)

-- ---- winter months
winter_month_test : ℕ → Bool
unfolding is_winter month_lengths longest before winter_before sum keep
winter_month_test m =
    not (is_winter m) || cond (leb m 3) (eqb (winter_before m) (before m)) (eqb (winter_before m + 214) (before m))

winter_month : (m : ℕ) → m ≤ 12 → T (is_winter m) → T (cond (leb m 3) (eqb (winter_before m) (before m)) (eqb (winter_before m + 214) (before m)))
unfolding winter_month_test
winter_month m h t = given (is_winter m) _ (at winter_month_test 13 tt m (omega arith)) t

-- January to March come before all other months
pub winter_start : (m : ℕ) → m ≤ 3 → T (is_winter m) → winter_before m ≡ before m
winter_start m h t = eqb→eq _ _ (rw (le-leb m 3 h) at (winter_month m (omega arith) t))

-- before November and December come the 214 days of April to October too
pub winter_end : (m : ℕ) → 3 < m → m ≤ 12 → T (is_winter m) → winter_before m + 214 ≡ before m
winter_end m h k t = eqb→eq _ _ (rw (lt-leb m 3 h) at (winter_month m k t))
