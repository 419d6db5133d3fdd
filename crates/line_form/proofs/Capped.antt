-- Numbers capped at 10^18: capping changes no test that has one result from 10^18 on, and a number within a range below it is not capped.
use mathlib.Core.Path.{◌≡◌, refl, sym, ◌∙◌}
use mathlib.Core.Bool.{Bool, true, false, not, ◌&&◌, cond}
use Prim.Native.Nat.{ℕ, zero, suc, ◌+◌, ◌-◌, ◌≤◌, ◌<◌, min}
use native.Mathlib.Omega.{arith}
use lib.Dec.{T, leb, ltb, eqb, leb-zero, leb-suc-zero}
use borrow.Author.Tests.{ltb-false, leb-true, leb-false, lt-ltb, le-ltb, lt-leb, ne_eqb}
use Rattle.lists.proofs.Tests.{and_false}
use Rattle.calendar.specs.declared.Years.{Years}
use Rattle.calendar.specs.Dates.{days_in, is_date, is_winter}
use Rattle.calendar.specs.Spans.{years, among, axis_years, history_years, is_known}
use Rattle.calendar.proofs.Laws.{no_month, longest_31, days_in_longest, history_bounds, no_history}
use Rattle.text.specs.Numbers.{most}
use Rattle.text.proofs.NumberLaws.{ltb_capped}
use Rattle.meaning.specs.Record.{is_within}

-- ---- capping under a test
module _ {A : Type 0} (p : ℕ → A) (d : A) (n : ℕ) (above : (v : ℕ) → n ≤ v → p v ≡ d) (v : ℕ) where
  pub capped : p (min v n) ≡ p v
  capped = go (leb n v) refl
    where
      go : (b : Bool) → leb n v ≡ b → p (min v n) ≡ p v
      go true e =
          let h : n ≤ v = leb-true n v e in
          above (min v n) (omega arith) ∙ sym (above v h)
      go false e =
          let h : v < n = leb-false n v e in
          let z : min v n ≡ v = omega arith in
          rw z

pub exact : (p : ℕ → Bool) (n : ℕ) → ((v : ℕ) → n ≤ v → p v ≡ false) → (v : ℕ) → T (p (min v n)) → min v n ≡ v
exact p n above v t = go (leb n v) refl
  where
    go : (b : Bool) → leb n v ≡ b → min v n ≡ v
    go true e =
        let h : n ≤ v = leb-true n v e in
        absurd (rw (above (min v n) (omega arith)) at t)
    go false e = let h : v < n = leb-false n v e in omega arith

-- ---- ranges and spans

within_above : (a b n : ℕ) → b < n → (v : ℕ) → n ≤ v → is_within a b v ≡ false
unfolding is_within
within_above a b n h v k = rw (lt-leb v b (omega arith)) (and_false (leb a v))

among_above : (s : Years) (n : ℕ) → s.first + s.count ≤ n → (v : ℕ) → n ≤ v → among s v ≡ false
unfolding among
among_above s n h v k = rw (le-ltb v (s.first + s.count) (omega arith)) (and_false (leb s.first v))

pub within_capped : (a b v : ℕ) → b < most → is_within a b (min v most) ≡ is_within a b v
within_capped a b v h = capped (is_within a b) false most (within_above a b most h) v

pub within_exact : (a b v : ℕ) → b < most → T (is_within a b (min v most)) → min v most ≡ v
within_exact a b v h t = exact (is_within a b) most (within_above a b most h) v t

pub among_capped : (s : Years) (v : ℕ) → s.first + s.count ≤ most → among s (min v most) ≡ among s v
among_capped s v h = capped (among s) false most (among_above s most h) v

pub among_exact : (s : Years) (v : ℕ) → s.first + s.count ≤ most → T (among s (min v most)) → min v most ≡ v
among_exact s v h t = exact (among s) most (among_above s most h) v t

-- a number with 0 as its lower bound
pub not_leb : (v b : ℕ) → not (leb v b) ≡ ltb b v
not_leb v b = go (leb v b) refl
  where
    go : (x : Bool) → leb v b ≡ x → not x ≡ ltb b v
    go true e = let h : v ≤ b = leb-true v b e in sym (le-ltb b v h)
    go false e = let h : b < v = leb-false v b e in sym (lt-ltb b v h)

pub above_capped : (b v : ℕ) → b < most → not (leb 0 v && leb v b) ≡ ltb b (min v most)
above_capped b v h = rw (leb-zero v) (not_leb v b ∙ sym (ltb_capped most v b h))

pub above_exact : (b v : ℕ) → b < most → ltb b (min v most) ≡ false → min v most ≡ v
above_exact b v h e = let k : min v most ≤ b = ltb-false b (min v most) e in omega arith

-- ---- the years of a file are far below the cap
abbrev pub Early : Years → Type 0
Early h = h.first + h.count + 2 ≤ most

pub early_axis : (h : Years) → Early h → (axis_years h).first + (axis_years h).count ≤ most
unfolding axis_years
early_axis h e = go (eqb h.count 0)
  where
    go : (b : Bool) → (cond b (years 0 0) (years (h.first - 1) (h.count + 2))).first + (cond b (years 0 0) (years (h.first - 1) (h.count + 2))).count ≤ most
    go true = omega arith
    go false = omega arith

pub early_history : (al f : ℕ) → Early (history_years al f)
early_history al f = go (is_known al f) refl
  where
    go : (b : Bool) → is_known al f ≡ b → Early (history_years al f)
    go true e = omega (arith, (history_bounds al f (rw e tt)).to)
    go false e = rw (no_history al f (rw e tt)) (omega arith)

-- ---- dates
date_month_above : (y d m : ℕ) → most ≤ m → is_date y m d ≡ false
unfolding is_date days_in
date_month_above y d m h = rw (ne_eqb m 2 (λ (e : m ≡ 2). omega arith), no_month m (omega arith)) (go d)
  where
    go : (d : ℕ) → (leb 1 d && leb d 0) ≡ false
    go zero = refl
    go (suc d) = rw (leb-suc-zero d) (and_false (leb 1 (suc d)))

date_day_above : (y m d : ℕ) → most ≤ d → is_date y m d ≡ false
unfolding is_date
date_day_above y m d h = rw (lt-leb d (days_in y m) (omega (arith, days_in_longest y m, longest_31 m))) (and_false (leb 1 d))

pub date_capped : (y m d : ℕ) → is_date y (min m most) (min d most) ≡ is_date y m d
date_capped y m d =
    capped (λ n. is_date y n (min d most)) false most (date_month_above y (min d most)) m ∙ capped (λ n. is_date y m n) false most (date_day_above y m) d

pub date_exact : (y m d : ℕ) → T (is_date y (min m most) (min d most)) → (min m most ≡ m) × (min d most ≡ d)
date_exact y m d t =
    (exact (λ n. is_date y n (min d most)) most (date_month_above y (min d most)) m t, exact (λ n. is_date y (min m most) n) most (date_day_above y (min m most)) d t)

winter_above : (m : ℕ) → most ≤ m → is_winter m ≡ false
unfolding is_winter
winter_above m h = rw (lt-leb m 3 (omega arith), lt-leb m 12 (omega arith), and_false (leb 1 m)) (and_false (leb 11 m))

pub winter_capped : (m : ℕ) → is_winter (min m most) ≡ is_winter m
winter_capped m = capped is_winter false most winter_above m
