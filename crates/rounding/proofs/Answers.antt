-- What an answer with 18 says, in plain words.
use mathlib.Core.Bool.{Bool, true, false}
use mathlib.Core.Path.{◌≡◌, refl, ap}
use Rattle.std.specs.Prelude.{Result, Ok, Err}
use Prim.Native.Nat.{ℕ, ◌≤◌, ◌<◌}
use native.Mathlib.Omega.{arith}
use lib.Dec.{ltb}
use borrow.Author.Tests.{lt-ltb, le-ltb, ltb-true, ltb-false}
use Rattle.rounding.specs.Points.{exceeds, most_point}
use Rattle.rounding.specs.Units.{in_mw}
use Rattle.rounding.specs.Answers.{within, refusal, limit_view, limited, limited_point}
use Rattle.rounding.specs.declared.Power.{Power}
use Rattle.rounding.specs.declared.Exceeds.{Exceeds}

-- ---- no two answers say the same, and what each says of the test
pub limit_same : {A : Type 0} (a b : Result A Exceeds) → limit_view a ≡ limit_view b → a ≡ b
unfolding limit_view
limit_same (Ok x) (Ok y) e = cc
limit_same (Ok x) (Err f) e = cc
limit_same (Err d) (Ok y) e = cc
limit_same (Err d) (Err f) e = refl

-- the limit kept: the value itself
pub limit_ok : {A : Type 0} (r : Result A Exceeds) (b : Bool) (a : A) → limit_view r ≡ limited b a → b ≡ false → r ≡ Ok a
unfolding limit_view limited
limit_ok r b a e f = limit_same r (Ok a) (rw f at e)

-- exceeded: 18
pub limit_err : {A : Type 0} (r : Result A Exceeds) (b : Bool) (a : A) → limit_view r ≡ limited b a → b ≡ true → r ≡ Err (record {})
unfolding limit_view limited
limit_err r b a e t = limit_same r (Err (record {})) (rw t at e)

-- ---- a power: up to the limit, itself included, a point; above it 18
pub point_within : (p : Power) → p.0 ≤ most_point → limit_view (Ok p) ≡ limited_point p.0
unfolding limit_view limited_point limited exceeds
point_within p h = simp (le-ltb most_point p.0 h)

pub point_exceeds : (p : Power) → most_point < p.0 → limit_view {A = Power} (Err (record {})) ≡ limited_point p.0
unfolding limit_view limited_point limited exceeds
point_exceeds p h = simp (lt-ltb most_point p.0 h)

-- the same in document 01's words
pub said_point : (n : ℕ) → n ≤ most_point → limited_point n ≡ within (in_mw n)
unfolding limited_point limited exceeds
said_point n h = simp (le-ltb most_point n h)

pub said_exceeds : (n : ℕ) → most_point < n → limited_point n ≡ refusal 18
unfolding limited_point limited exceeds
said_exceeds n h = simp (lt-ltb most_point n h)

-- and back: what an answer says of the number
pub is_point_lem : (n : ℕ) (p : Power) → limited_point n ≡ within p → (p.0 ≡ n) × (p.0 ≤ most_point)
unfolding limited_point limited exceeds
is_point_lem n p e = by (ltb most_point n) refl e
  where
    by : (b : Bool) → ltb most_point n ≡ b → limited b (in_mw n) ≡ within p → (p.0 ≡ n) × (p.0 ≤ most_point)
    by true t q = let z : ◌≡◌ {A = ℕ} 0 1 = cc in omega arith
    by false t q =
        let v : p.0 ≡ n = ap (λ (x : Power). x.0) (cc) in
        omega (arith, ltb-false most_point n t)

pub is_over : (n : ℕ) → limited_point n ≡ refusal 18 → most_point < n
unfolding limited_point limited exceeds
is_over n e = by (ltb most_point n) refl e
  where
    by : (b : Bool) → ltb most_point n ≡ b → limited b (in_mw n) ≡ refusal 18 → most_point < n
    by true t q = ltb-true most_point n t
    by false t q = let z : ◌≡◌ {A = ℕ} 0 1 = cc in omega arith
