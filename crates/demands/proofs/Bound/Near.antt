-- How near a number lies to a fraction, and how each step of the chain keeps it: the arithmetic alone.
use mathlib.Core.List.{List, [], ◌∷◌, map}
use mathlib.Core.Option.{Option, some, none}
use Prim.Native.Nat.{ℕ, suc, ◌+◌, ◌*◌, ◌≤◌, ◌<◌}
use native.Mathlib.Nat.{le_refl, le_trans, add-le-add, mul-le-mul_right, mul-pos}
use native.Mathlib.Omega.{arith}
use lib.ListN.{length}
use Rattle.lists.specs.Lists.{sum, present, Each, each_nil, each_cons}
use Rattle.rounding.specs.Rounding.{half_up}
use Rattle.rounding.specs.Points.{Fraction, over}
use Rattle.rounding.proofs.Laws.{half_up_above, half_up_below, half_up_whole}
use Rattle.demands.specs.Exact.{plus, times, divided_by, total}
use Rattle.demands.specs.Demands.{bound_over, Within}

-- n lies within a / b of the fraction q
pub record Near (a b n : ℕ) (q : Fraction) : Type 0 where
  pub positive : 0 < q.den
  pub above : b * n * q.den ≤ b * q.num + a * q.den
  pub below : b * q.num ≤ b * n * q.den + a * q.den

-- ---- one number
pub near_rounded : (a d : ℕ) → 0 < d → Near 1 2 (half_up a d) (over a d)
near_rounded a d p = record { positive = p; above = omega (arith, half_up_above a d p); below = omega (arith, half_up_below a d p) }

pub near_whole : (n : ℕ) → Near 0 2 n (over n 1)
near_whole n = record { positive = omega arith; above = omega arith; below = omega arith }

pub near_wider : {a c b n : ℕ} {q : Fraction} → a ≤ c → Near a b n q → Near c b n q
near_wider {a} {c} {b} {n} {q} h k =
    let w = mul-le-mul_right q.den h in
    record { positive = k.positive; above = omega arith; below = omega arith }

-- ---- sums
-- two lists of one length, place by place
pub data Both {A B : Type 0} (R : A → B → Type 0) : List A → List B → Type 0 where
  both_nil : Both R [] []
  both_cons : {x : A} {y : B} {xs : List A} {ys : List B} → R x y → Both R xs ys → Both R (x ∷ xs) (y ∷ ys)

add_above : (a b n s k : ℕ) (p q : Fraction)
    → b * n * p.den ≤ b * p.num + a * p.den
    → b * s * q.den ≤ b * q.num + k * a * q.den
    → b * (n + s) * (p.den * q.den) ≤ b * (p.num * q.den + q.num * p.den) + suc k * a * (p.den * q.den)
add_above a b n s k p q h g = omega (arith, mul-le-mul_right q.den h, mul-le-mul_right p.den g)

add_below : (a b n s k : ℕ) (p q : Fraction)
    → b * p.num ≤ b * n * p.den + a * p.den
    → b * q.num ≤ b * s * q.den + k * a * q.den
    → b * (p.num * q.den + q.num * p.den) ≤ b * (n + s) * (p.den * q.den) + suc k * a * (p.den * q.den)
add_below a b n s k p q h g = omega (arith, mul-le-mul_right q.den h, mul-le-mul_right p.den g)

-- as many errors as numbers
pub near_total : {a b : ℕ} {xs : List ℕ} {qs : List Fraction} → Both (Near a b) xs qs → Near (length xs * a) b (sum xs) (total qs)
unfolding sum total plus
near_total both_nil = record { positive = omega arith; above = omega arith; below = omega arith }
near_total {a} {b} (both_cons {x = n} {y = p} {xs = xs} {ys = qs} h r) =
    let k = near_total r in
    record {
      positive = mul-pos h.positive k.positive;
      above = add_above a b n (sum xs) (length xs) p (total qs) h.above k.above;
      below = add_below a b n (sum xs) (length xs) p (total qs) h.below k.below;
    }

-- two functions over one list
pub both_map : {A B C : Type 0} {R : B → C → Type 0} (f : A → B) (g : A → C) {xs : List A} → Each (λ x. R (f x) (g x)) xs → Both R (map f xs) (map g xs)
both_map f g each_nil = both_nil
both_map f g (each_cons p r) = both_cons p (both_map f g r)

-- both are missing, or the number lies within a / b of the fraction
abbrev pub Agree : ℕ → ℕ → Option ℕ → Option Fraction → Type 0
Agree a b none none = Unit {0}
Agree a b none (some q) = ⊥
Agree a b (some n) none = ⊥
Agree a b (some n) (some q) = Near a b n q

pub both_present : {a b : ℕ} {os : List (Option ℕ)} {ps : List (Option Fraction)} → Both (Agree a b) os ps → Both (Near a b) (present os) (present ps)
unfolding present
both_present both_nil = both_nil
both_present (both_cons {x = none} {y = none} h r) = both_present r
both_present (both_cons {x = none} {y = some q} h r) = absurd h
both_present (both_cons {x = some n} {y = none} h r) = absurd h
both_present (both_cons {x = some n} {y = some q} h r) = both_cons h (both_present r)

pub agree_wider : (a c b : ℕ) → a ≤ c → (o : Option ℕ) (p : Option Fraction) → Agree a b o p → Agree c b o p
agree_wider a c b l none none h = tt
agree_wider a c b l none (some q) h = h
agree_wider a c b l (some n) none h = h
agree_wider a c b l (some n) (some q) h = near_wider l h

-- ---- a rebuilt point: by the twofold rule k donors, each h halves off, bring 2 h halves at most; and its own half
rebuilt_above : (h k ca cas n x : ℕ) (q : Fraction)
    → ca * k ≤ 2 * cas
    → 2 * n * q.den ≤ 2 * q.num + k * h * q.den
    → 2 * cas * x ≤ 2 * (ca * n) + cas
    → 2 * x * (q.den * cas) ≤ 2 * (ca * q.num) + (1 + 2 * h) * (q.den * cas)
rebuilt_above h k ca cas n x q w g r = omega (arith, mul-le-mul_right (h * q.den) w, mul-le-mul_right ca g, mul-le-mul_right q.den r)

rebuilt_below : (h k ca cas n x : ℕ) (q : Fraction)
    → ca * k ≤ 2 * cas
    → 2 * q.num ≤ 2 * n * q.den + k * h * q.den
    → 2 * (ca * n) ≤ 2 * cas * x + cas
    → 2 * (ca * q.num) ≤ 2 * x * (q.den * cas) + (1 + 2 * h) * (q.den * cas)
rebuilt_below h k ca cas n x q w g r = omega (arith, mul-le-mul_right (h * q.den) w, mul-le-mul_right ca g, mul-le-mul_right q.den r)

pub near_rebuilt : (h k ca cas n : ℕ) (q : Fraction) → 0 < cas → ca * k ≤ 2 * cas → Near (k * h) 2 n q → Near (1 + 2 * h) 2 (half_up (ca * n) cas) (divided_by (times ca q) cas)
unfolding divided_by times
near_rebuilt h k ca cas n q p w g =
    let x = half_up (ca * n) cas in
    record {
      positive = mul-pos g.positive p;
      above = rebuilt_above h k ca cas n x q w g.above (half_up_above (ca * n) cas p);
      below = rebuilt_below h k ca cas n x q w g.below (omega (arith, half_up_below (ca * n) cas p));
    }

-- ---- the rate: h halves become h × 1000 / t at most, and a half where the rate rounds
pub point_over : ℕ → ℕ → ℕ → ℕ
point_over halves rates t = rates * t + 1000 * halves

rated_above : (h t r n x : ℕ) (q : Fraction)
    → t ≤ r
    → 2 * n * q.den ≤ 2 * q.num + h * q.den
    → 2 * r * x ≤ 2 * (n * 1000) + r
    → 2 * t * x * (q.den * r) ≤ 2 * t * (1000 * q.num) + (1 * t + 1000 * h) * (q.den * r)
rated_above h t r n x q l g k = omega (arith, mul-le-mul_right (h * q.den) l, mul-le-mul_right t g, mul-le-mul_right (t * q.den) k)

rated_below : (h t r n x : ℕ) (q : Fraction)
    → t ≤ r
    → 2 * q.num ≤ 2 * n * q.den + h * q.den
    → 2 * (n * 1000) ≤ 2 * r * x + r
    → 2 * t * (1000 * q.num) ≤ 2 * t * x * (q.den * r) + (1 * t + 1000 * h) * (q.den * r)
rated_below h t r n x q l g k = omega (arith, mul-le-mul_right (h * q.den) l, mul-le-mul_right t g, mul-le-mul_right (t * q.den) k)

pub near_rated : (h t r n : ℕ) (q : Fraction) → 0 < r → t ≤ r → Near h 2 n q → Near (point_over h 1 t) (2 * t) (half_up (n * 1000) r) (divided_by (times 1000 q) r)
unfolding divided_by times point_over
near_rated h t r n q p l g =
    let x = half_up (n * 1000) r in
    record {
      positive = mul-pos g.positive p;
      above = rated_above h t r n x q l g.above (half_up_above (n * 1000) r p);
      below = rated_below h t r n x q l g.below (omega (arith, half_up_below (n * 1000) r p));
    }

-- a point without a rate, and one with the rate 1000, which rounds nothing
pub near_unrated : (h rates t n : ℕ) (q : Fraction) → t ≤ 1000 → Near h 2 n q → Near (point_over h rates t) (2 * t) n q
unfolding point_over
near_unrated h rates t n q l g =
    let w = mul-le-mul_right (h * q.den) l in
    let a = mul-le-mul_right t g.above in
    let b = mul-le-mul_right t g.below in
    record { positive = g.positive; above = omega arith; below = omega arith }

pub near_full : (h rates t n : ℕ) (q : Fraction) → t ≤ 1000 → Near h 2 n q → Near (point_over h rates t) (2 * t) (half_up (n * 1000) 1000) (divided_by (times 1000 q) 1000)
unfolding divided_by times
near_full h rates t n q l g =
    let k = near_unrated h rates t n q l g in
    rw (half_up_whole n 1000 (omega arith)) (record { positive = omega (arith, k.positive); above = omega (arith, k.above); below = omega (arith, k.below) })

-- ---- the level: C is at most 100 hundredths, the mean keeps the error, and whole watts bring 500 mW
level_above : (t c k e s x : ℕ) (q : Fraction)
    → c ≤ 100
    → 2 * t * s * q.den ≤ 2 * t * q.num + k * e * q.den
    → 2 * (100000 * k) * x ≤ 2 * (c * s) + 100000 * k
    → 2 * t * (1000 * x) * (q.den * (100 * k)) ≤ 2 * t * (c * q.num) + (1000 * t + e) * (q.den * (100 * k))
level_above t c k e s x q l g r = omega (arith, mul-le-mul_right (k * e * q.den) l, mul-le-mul_right c g, mul-le-mul_right (t * q.den) r)

level_below : (t c k e s x : ℕ) (q : Fraction)
    → c ≤ 100
    → 2 * t * q.num ≤ 2 * t * s * q.den + k * e * q.den
    → 2 * (c * s) ≤ 2 * (100000 * k) * x + 100000 * k
    → 2 * t * (c * q.num) ≤ 2 * t * (1000 * x) * (q.den * (100 * k)) + (1000 * t + e) * (q.den * (100 * k))
level_below t c k e s x q l g r = omega (arith, mul-le-mul_right (k * e * q.den) l, mul-le-mul_right c g, mul-le-mul_right (t * q.den) r)

-- the statement's bound leaves room for both
room : (halves rates t : ℕ) → 1000 * t + point_over halves rates t ≤ bound_over halves rates t
unfolding bound_over point_over
room halves rates t = omega arith

pub near_level : (halves rates t c k s : ℕ) (q : Fraction) → 0 < t → c ≤ 100 → 0 < k → Near (k * point_over halves rates t) (2 * t) s q
    → Within halves rates t (half_up (c * s) (100000 * k)) (divided_by (times c q) (100 * k))
unfolding divided_by times
near_level halves rates t c k s q p l o g =
    let e = point_over halves rates t in
    let d : 0 < 100000 * k = omega arith in
    let x = half_up (c * s) (100000 * k) in
    let w = mul-le-mul_right (q.den * (100 * k)) (room halves rates t) in
    record {
      positive = mul-pos g.positive (omega arith);
      least = p;
      above = le_trans (level_above t c k e s x q l g.above (half_up_above (c * s) (100000 * k) d)) (add-le-add (le_refl (2 * t * (c * q.num))) w);
      below = le_trans (level_below t c k e s x q l g.below (omega (arith, half_up_below (c * s) (100000 * k) d))) (add-le-add (le_refl (2 * t * (1000 * x) * (q.den * (100 * k)))) w);
    }
