-- What holds of rounding half up, over naturals alone.
use mathlib.Core.Path.{◌≡◌}
use Prim.Native.Nat.{ℕ, ◌+◌, ◌-◌, ◌*◌, ◌/◌, ◌%◌, ◌≤◌, ◌<◌}
use native.Mathlib.Nat.{div-eq_of_lt-le, div-add-mod, mod-lt, mul-le-mul_left, lt_of_mul-lt-mul_left, mul-div-mul_left}
use native.Mathlib.Omega.{arith}
use Rattle.rounding.specs.Rounding.{half_up}

-- ---- within one half, and the only number that is
pub half_up_above : (a d : ℕ) → 0 < d → 2 * d * half_up a d ≤ 2 * a + d
unfolding half_up
half_up_above a d p = omega (arith, div-add-mod (2 * a + d) (2 * d))

pub half_up_below : (a d : ℕ) → 0 < d → 2 * a + d < 2 * d * (half_up a d + 1)
unfolding half_up
half_up_below a d p =
    let q : 0 < 2 * d = omega arith in
    omega (arith, div-add-mod (2 * a + d) (2 * d), mod-lt (2 * a + d) q)

pub half_up_only : (a d x : ℕ) → 2 * d * x ≤ 2 * a + d → 2 * a + d < 2 * d * (x + 1) → half_up a d ≡ x
unfolding half_up
half_up_only a d x h k = div-eq_of_lt-le (2 * d) (omega arith) (omega arith)

-- ---- down where the remainder is nearer to 0 than to the divisor, else up
pub half_up_quotient : (a d : ℕ) → 0 < d → a % d < d - a % d → half_up a d ≡ a / d
half_up_quotient a d p h = half_up_only a d (a / d) (omega (arith, div-add-mod a d)) (omega (arith, div-add-mod a d))

pub half_up_next : (a d : ℕ) → 0 < d → d - a % d ≤ a % d → half_up a d ≡ a / d + 1
half_up_next a d p h = half_up_only a d (a / d + 1) (omega (arith, div-add-mod a d)) (omega (arith, div-add-mod a d, mod-lt a p))

-- ---- exact multiples, and parts that come out whole
pub half_up_split : (k q r d : ℕ) → 0 < d → half_up (k * (q * d + r)) d ≡ k * q + half_up (k * r) d
half_up_split k q r d p =
    half_up_only (k * (q * d + r)) d (k * q + half_up (k * r) d)
    (omega (arith, half_up_above (k * r) d p))
    (omega (arith, half_up_below (k * r) d p))

pub half_up_whole : (a d : ℕ) → 0 < d → half_up (a * d) d ≡ a
half_up_whole a d p = half_up_only (a * d) d a (omega arith) (omega arith)

pub half_up_scaled : (c a d : ℕ) → 0 < c → half_up (c * a) (c * d) ≡ half_up a d
unfolding half_up
half_up_scaled c a d p =
    let above : 2 * (c * a) + c * d ≡ c * (2 * a + d) = omega arith in
    let below : 2 * (c * d) ≡ c * (2 * d) = omega arith in
    rw (above, below) (mul-div-mul_left (2 * a + d) (2 * d) p)

-- ---- order and bounds
pub half_up_at_most : (m a d : ℕ) → 0 < d → a ≤ m * d → half_up a d ≤ m
half_up_at_most m a d p h =
    let k : 2 * d * half_up a d < 2 * d * (m + 1) = omega (arith, half_up_above a d p) in
    omega (arith, lt_of_mul-lt-mul_left (2 * d) k)

pub half_up_at_least : (m a d : ℕ) → 0 < d → m * d ≤ a → m ≤ half_up a d
half_up_at_least m a d p h =
    let k : 2 * d * m < 2 * d * (half_up a d + 1) = omega (arith, half_up_below a d p) in
    omega (arith, lt_of_mul-lt-mul_left (2 * d) k)

pub half_up_rising : (a b d : ℕ) → 0 < d → a ≤ b → half_up a d ≤ half_up b d
half_up_rising a b d p h =
    let k : 2 * d * half_up a d < 2 * d * (half_up b d + 1) = omega (arith, half_up_above a d p, half_up_below b d p) in
    omega (arith, lt_of_mul-lt-mul_left (2 * d) k)

pub half_up_no_more : (a d : ℕ) → 0 < d → half_up a d ≤ a
half_up_no_more a d p = half_up_at_most a a d p (omega (arith, mul-le-mul_left a p))
