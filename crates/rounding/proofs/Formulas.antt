-- The formulas of the points, split so that each part fits 64 bits, and how large a point after its rate and the level can be.
use mathlib.Core.Path.{◌≡◌, ap, sym, ◌∙◌}
use Prim.Native.Nat.{ℕ, ◌+◌, ◌*◌, ◌/◌, ◌%◌, ◌≤◌, ◌<◌}
use native.Mathlib.Nat.{div-add-mod', div-le_self, mod-lt, mul-le-mul, mul-le-mul_left}
use native.Mathlib.Omega.{arith}
use Rattle.rounding.specs.Rounding.{half_up}
use Rattle.rounding.specs.Points.{rounded, profiled, by_default, rated, level, most_point}
use Rattle.rounding.proofs.Laws.{half_up_split, half_up_at_most, half_up_no_more}

-- ---- a product over d, with one factor split by d
parted : (k a d : ℕ) → 0 < d → half_up (k * a) d ≡ k * (a / d) + half_up (k * (a % d)) d
parted k a d p = ap (λ (x : ℕ). half_up (k * x) d) (sym (div-add-mod' a d)) ∙ half_up_split k (a / d) (a % d) d p

pub profiled_parted : (e profile total : ℕ) → 0 < total
    → rounded (profiled e profile total) ≡ 2000 * (e / total * profile) + half_up (2000 * (e % total * profile)) total
unfolding rounded profiled
profiled_parted e profile total p =
    let above : 2000 * e * profile ≡ 2000 * profile * e = omega arith in
    let whole : 2000 * profile * (e / total) ≡ 2000 * (e / total * profile) = omega arith in
    let part : 2000 * profile * (e % total) ≡ 2000 * (e % total * profile) = omega arith in
    rw above (parted (2000 * profile) e total p ∙ rw (whole, part))

pub default_parted : (ps theta profile ca n cas : ℕ) → 0 < cas
    → rounded (by_default ps theta profile ca n cas)
    ≡ ca * n * (ps * theta * profile / (1000000 * cas)) + half_up (ca * n * (ps * theta * profile % (1000000 * cas))) (1000000 * cas)
unfolding rounded by_default
default_parted ps theta profile ca n cas p =
    let above : ps * theta * profile * ca * n ≡ ca * n * (ps * theta * profile) = omega arith in
    rw above (parted (ca * n) (ps * theta * profile) (1000000 * cas) (omega arith))

-- ---- the parts' sizes
pub record ProfiledSizes (e profile total : ℕ) : Type 0 where
  pub whole : e / total * profile ≤ 65535000000000000
  pub part : e % total * profile ≤ 905420193609600
  pub near : half_up (2000 * (e % total * profile)) total ≤ 2000 * (e % total * profile)

pub profiled_sizes : (e profile total : ℕ) → e ≤ 1000000000000 → profile ≤ 65535 → 0 < total → total ≤ 13815826560 → ProfiledSizes e profile total
profiled_sizes e profile total he hp h ht =
    let q : e / total ≤ 1000000000000 = omega (arith, div-le_self e total) in
    let r : e % total ≤ 13815826560 = omega (arith, mod-lt e h) in
    record {
      whole = omega (arith, mul-le-mul q hp);
      part = omega (arith, mul-le-mul r hp);
      near = half_up_no_more (2000 * (e % total * profile)) total h;
    }

-- where the whole part alone exceeds the limit, so does the point
pub profiled_large : (e profile total : ℕ) → 0 < total → 100000000 < e / total * profile → most_point < rounded (profiled e profile total)
profiled_large e profile total p h = omega (arith, profiled_parted e profile total p)

pub record DefaultSizes (k a d : ℕ) : Type 0 where
  pub whole : k * (a / d) ≤ 65528446500000000
  pub part : k * (a % d) ≤ 9998000100000000
  pub near : half_up (k * (a % d)) d ≤ k * (a % d)

pub default_sizes : (k a d : ℕ) → k ≤ 99990 → a ≤ 655350000000000000 → 1000000 ≤ d → d ≤ 99990000000 → DefaultSizes k a d
default_sizes k a d hk ha hd hd' =
    let p : 0 < d = omega arith in
    let q : a / d ≤ 655350000000 = omega (arith, mul-le-mul_left (a / d) hd, div-add-mod' a d) in
    let r : a % d ≤ 99990000000 = omega (arith, mod-lt a p) in
    record {
      whole = omega (arith, mul-le-mul hk q);
      part = omega (arith, mul-le-mul hk r);
      near = half_up_no_more (k * (a % d)) d p;
    }

-- ---- how large a point after its rate and the level can be
pub rated_most : (point rate : ℕ) → point ≤ most_point → 10 ≤ rate → rounded (rated point rate) ≤ 20000000000000
unfolding rounded rated
rated_most point rate hp hr = half_up_at_most 20000000000000 (point * 1000) rate (omega arith) (omega arith)

pub level_most : (c points n : ℕ) → c ≤ 100 → 0 < n → points ≤ n * 20000000000000 → rounded (level c points n) ≤ 20000000000
unfolding rounded level
level_most c points n hc hn hp = half_up_at_most 20000000000 (c * points) (100000 * n) (omega arith) (omega (arith, mul-le-mul hc hp))
