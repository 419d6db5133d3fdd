-- The bound in figures.
use mathlib.Core.Path.{◌≡◌, refl}
use mathlib.Core.List.{List, [], ◌∷◌, map}
use Prim.Native.Nat.{ℕ, ◌+◌, ◌*◌, ◌≤◌}
use native.Mathlib.Omega.{arith}
use Rattle.rounding.specs.Points.{over}
use Rattle.demands.specs.Demands.{bound_over, Within}

-- halves before the rate, whether rates round, T, and the bound: whole mW and halves of one
pub record Row : Type 0 where
  pub halves : ℕ
  pub rates : ℕ
  pub t : ℕ
  pub whole : ℕ
  pub half : ℕ

row : ℕ → ℕ → ℕ → ℕ → ℕ → Row
row a b t w h = record { halves = a; rates = b; t = t; whole = w; half = h }

pub table : List Row
unfolding row
table =
    row 3 1 1000 502 0
    ∷ row 3 1 500 503 1
    ∷ row 3 1 10 650 1
    ∷ row 1 1 1000 501 0
    ∷ row 1 1 500 501 1
    ∷ row 1 1 10 550 1
    ∷ row 0 0 1000 500 0
    ∷ row 0 0 10 500 0
    ∷ []

pub rows : map (λ (r : Row). bound_over r.halves r.rates r.t) table ≡ map (λ (r : Row). 2 * r.t * r.whole + r.t * r.half) table
unfolding table row bound_over
rows = refl

-- what it says of n watts and a fraction that is q whole mW, at T 1000 and at T 10
pub at_1000 : (n q : ℕ) → Within 3 1 1000 n (over q 1) → (1000 * n ≤ q + 502) × (q ≤ 1000 * n + 502)
unfolding bound_over
at_1000 n q w = (omega (arith, w.above), omega (arith, w.below))

pub at_10 : (n q : ℕ) → Within 3 1 10 n (over q 1) → (2 * (1000 * n) ≤ 2 * q + 1301) × (2 * q ≤ 2 * (1000 * n) + 1301)
unfolding bound_over
at_10 n q w = (omega (arith, w.above), omega (arith, w.below))
