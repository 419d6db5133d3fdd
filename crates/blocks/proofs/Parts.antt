-- Laws of a row as a part of its block, and of the tests that pick it.
use mathlib.Core.Path.{◌≡◌, refl}
use mathlib.Core.Bool.{Bool, true, false, ◌&&◌}
use mathlib.Core.List.{List}
use Prim.Native.Nat.{ℕ, ◌+◌, ◌-◌, ◌≤◌, ◌<◌, min}
use native.Mathlib.Omega.{arith}
use lib.Dec.{T, leb, leb→le}
use lib.ListN.{length, take, drop, length-drop, drop_of_length-le}
use borrow.Author.Tests.{leb-true, leb-false}
use Rattle.std.proofs.lemmas.List.{take_min}
use Rattle.lists.proofs.Tests.{and_parts}
use Rattle.blocks.specs.Rows.{holds_year, part}

-- from the start or the block's end to 3,040 places on or the block's end
pub part_cut : (xs : List ℕ) (a b e : ℕ) → b ≡ min a (length xs) → e ≡ min (b + 3040) (length xs) → take (e - b) (drop b xs) ≡ part xs a
unfolding part
part_cut xs a b e p q = go (leb a (length xs)) refl
  where
    go : (t : Bool) → leb a (length xs) ≡ t → take (e - b) (drop b xs) ≡ take 3040 (drop a xs)
    go true h =
        let l : a ≤ length xs = leb-true a (length xs) h in
        let n : b ≡ a = omega arith in
        let m : e - b ≡ min 3040 (length (drop a xs)) = omega (arith, length-drop a xs) in
        rw (m, n) (take_min 3040 (drop a xs))
    go false h =
        let l : length xs < a = leb-false a (length xs) h in
        let n : e - b ≡ 0 = omega arith in
        rw (n, drop_of_length-le xs {i = a} (omega arith)) refl

-- what follows where the blocks hold a year for an AL
pub record Held (al y : ℕ) : Type 0 where
  pub first : 2021 ≤ al
  pub last : al ≤ 2026
  pub from : al - 14 ≤ y
  pub to : y ≤ al - 5

pub held : (al y : ℕ) → T (holds_year al y) → Held al y
unfolding holds_year
held al y t =
    let p = and_parts (leb 2021 al && leb al 2026) (leb (al - 14) y && leb y (al - 5)) t in
    let q = and_parts (leb 2021 al) (leb al 2026) p.0 in
    let r = and_parts (leb (al - 14) y) (leb y (al - 5)) p.1 in
    record { first = leb→le _ _ q.0; last = leb→le _ _ q.1; from = leb→le _ _ r.0; to = leb→le _ _ r.1 }
