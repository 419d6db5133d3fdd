-- Pending bytes and the piece after them.
use mathlib.Core.Path.{◌≡◌, refl, sym, ◌∙◌}
use mathlib.Core.Bool.{Bool, true, false}
use mathlib.Core.List.{List}
use Prim.Native.Nat.{ℕ, ◌+◌, ◌-◌, ◌≤◌, min}
use native.Mathlib.Omega.{arith}
use lib.Dec.{leb}
use lib.ListN.{length, take, length-take}
use lib.Seq.{take_all}
use borrow.Author.Tests.{leb-true, leb-false}
use Rattle.text.specs.Written.{written}
use Rattle.text.proofs.Written.{take_written}
use Rattle.pieces.specs.Parts.{end_at}
use Rattle.pieces.proofs.Parts.{end_within}

-- h bytes are held, of which k count; of the piece t, n bytes can belong to the line and e do
module _ (t : List ℕ) (h k n e : ℕ) (held : k ≡ min h 320) (limit : n ≡ min (321 - k) (length t)) where
  pub limited : n ≡ length (take n t)
  limited = omega (arith, limit, length-take n t)

  module _ (end : e ≡ end_at (take n t)) where
    pub bytes_fit : (n ≤ length t) × (e ≤ n) × (k + e ≤ 321)
    bytes_fit = (omega (arith, limit), omega (arith, end, end_within (take n t), limited), omega (arith, end, end_within (take n t), limited, held, limit))

    pub added : e ≡ length (take e t)
    added = omega (arith, length-take e t, bytes_fit)

-- ---- the first bytes of a line that goes on
first_bytes : (bs : List ℕ) → take (min (length bs) 320) bs ≡ take 320 bs
first_bytes bs = go (leb (length bs) 320) refl
  where
    go : (c : Bool) → leb (length bs) 320 ≡ c → take (min (length bs) 320) bs ≡ take 320 bs
    go true e = let h = leb-true (length bs) 320 e in take_all (min (length bs) 320) bs (omega arith) ∙ sym (take_all 320 bs h)
    go false e = let h = leb-false (length bs) 320 e in let q : min (length bs) 320 ≡ 320 = omega arith in rw q

pub kept_is : (w bs more : List ℕ) (h : ℕ) → length w ≡ 321 → h ≡ min (length bs) 320 → more ≡ written w 0 (take h bs) → take (min h 320) more ≡ take 320 bs
kept_is w bs more h long few r =
    let q : min h 320 ≡ 0 + length (take h bs) = omega (arith, length-take h bs) in
    rw r (rw q (take_written w 0 (take h bs) (omega (arith, length-take h bs)) ∙ rw few (first_bytes bs)))
