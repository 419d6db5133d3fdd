-- Theta (annex 2) and C (annex 4): how large they can be, and that no filière has 0.
use mathlib.Core.Path.{◌≡◌, refl}
use mathlib.Core.Bool.{Bool, true, false, ◌&&◌, cond}
use mathlib.Core.List.{List}
use Prim.Native.Nat.{ℕ, ◌≤◌, ◌<◌}
use native.Mathlib.Omega.{arith}
use lib.Dec.{T, eqb, leb, ltb, leb→le, le→leb}
use lib.ListN.{length, get_or, get_or-eq_default}
use borrow.Author.Tests.{ltb-true, ltb-false}
use Rattle.lists.proofs.Tests.{and_parts}
use Rattle.note.specs.Coefficients.{thetas, theta, coefficients, coefficient_c}
use Rattle.note.proofs.Table.{implied, given, every, at}

-- ---- one test for either table: no entry is above the limit, and none but the one of place 0 is 0
right : ℕ → ℕ → ℕ → Bool
right most f x = leb x most && implied (leb 1 f) (leb 1 x)

entry_right : (most : ℕ) (xs : List ℕ) → T (every (right most) 0 xs) → (f : ℕ) → f < length xs → (get_or xs f 0 ≤ most) × (1 ≤ f → 0 < get_or xs f 0)
unfolding right
entry_right most xs t f h =
    let s = and_parts (leb (get_or xs f 0) most) (implied (leb 1 f) (leb 1 (get_or xs f 0))) (at (right most) xs t f 0 h) in
    (leb→le (get_or xs f 0) most s.0, λ g. leb→le 1 (get_or xs f 0) (given (leb 1 f) (leb 1 (get_or xs f 0)) s.1 (le→leb 1 f g)))

entry_most : (most : ℕ) (xs : List ℕ) → T (every (right most) 0 xs) → (f : ℕ) → get_or xs f 0 ≤ most
entry_most most xs t f = go (ltb f (length xs)) refl
  where
    go : (b : Bool) → ltb f (length xs) ≡ b → get_or xs f 0 ≤ most
    go true e = (entry_right most xs t f (ltb-true f (length xs) e)).0
    go false e = omega (arith, get_or-eq_default xs 0 (ltb-false f (length xs) e))

-- ---- theta
thetas_right : T (every (right 57730) 0 thetas)
unfolding right thetas
thetas_right = tt

pub theta_most : (f : ℕ) → theta f ≤ 57730
unfolding theta
theta_most f = entry_most 57730 thetas thetas_right f

pub theta_positive : (f : ℕ) → 1 ≤ f → f ≤ 11 → 0 < theta f
unfolding theta thetas
theta_positive f h g = (entry_right 57730 thetas thetas_right f (omega arith)).1 h

-- ---- C, whatever the AL
coefficients_right : T (every (right 100) 0 coefficients)
unfolding right coefficients
coefficients_right = tt

pub c_most : (al f : ℕ) → coefficient_c al f ≤ 100
unfolding coefficient_c
c_most al f = pick (eqb f 3 && eqb al 2021)
  where
    pick : (b : Bool) → cond b 100 (get_or coefficients f 0) ≤ 100
    pick true = omega arith
    pick false = entry_most 100 coefficients coefficients_right f

pub c_positive : (al f : ℕ) → 1 ≤ f → f ≤ 11 → 0 < coefficient_c al f
unfolding coefficient_c coefficients
c_positive al f h g = pick (eqb f 3 && eqb al 2021)
  where
    pick : (b : Bool) → 0 < cond b 100 (get_or coefficients f 0)
    pick true = omega arith
    pick false = (entry_right 100 coefficients coefficients_right f (omega arith)).1 h
