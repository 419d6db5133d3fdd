-- Laws of lines: the ranks of tags, what follows where 9 does not hold, and the first line of an input.
use mathlib.Core.Path.{◌≡◌, refl}
use mathlib.Core.Logic.{◌≢◌}
use mathlib.Core.Bool.{Bool, true, false, not}
use mathlib.Core.List.{List, ◌∷◌}
use Prim.Native.Nat.{ℕ, ◌≤◌}
use native.Mathlib.Omega.{arith}
use lib.Dec.{T, ltb}
use borrow.Author.Tests.{le-leb, ltb-false, ne_eqb}
use Rattle.meaning.specs.Line.{Tag, S, C, X, D, P, B, R, E, other, rank}
use Rattle.meaning.specs.Refusals.{is_too_soon}
use Rattle.meaning.specs.Input.{ahead, lines_of}

pub rank_most : (t : Tag) → rank t ≤ 8
rank_most S = omega arith
rank_most C = omega arith
rank_most X = omega arith
rank_most D = omega arith
rank_most P = omega arith
rank_most B = omega arith
rank_most R = omega arith
rank_most E = omega arith
rank_most other = omega arith

-- 9 does not hold
pub timely : (al f : ℕ) → T (not (is_too_soon al f)) → 6 ≤ f → 2023 ≤ al
unfolding is_too_soon
timely al f t h = go (ltb al 2023) refl (rw (le-leb 6 f h) at t)
  where
    go : (b : Bool) → ltb al 2023 ≡ b → T (not b) → 2023 ≤ al
    go true e n = absurd n
    go false e n = ltb-false al 2023 e

-- a byte that ends no line is the first of the first line
pub lines_next : (b : ℕ) (bs : List ℕ) → b ≢ 10 → lines_of (b ∷ bs) ≡ ahead b (lines_of bs)
unfolding lines_of
lines_next b bs h = rw (ne_eqb b 10 h)
