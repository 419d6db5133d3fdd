-- The letter of a kind: R and C are trusted.
use mathlib.Core.Path.{◌≡◌, refl}
use mathlib.Core.Bool.{Bool, true, false, ◌||◌, cond}
use Prim.Native.Nat.{ℕ}
use lib.Dec.{eqb}
use Rattle.meaning.specs.Filing.{real, corrected, estimated, no_kind, is_trusted}
use Rattle.meaning.specs.Line.{kind_of_letter}

pub of_letter : (b : ℕ) → is_trusted (kind_of_letter b) ≡ (eqb b 82 || eqb b 67)
unfolding kind_of_letter
of_letter b = go (eqb b 82) (eqb b 67) (eqb b 69)
  where
    go : (r c e : Bool) → is_trusted (cond r real (cond c corrected (cond e estimated no_kind))) ≡ (r || c)
    go true c e = refl
    go false true e = refl
    go false false true = refl
    go false false false = refl
