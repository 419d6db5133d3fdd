-- A rule of a table: one test of the whole table, computed in one walk, and the laws that carry it to each entry and to each part.
use mathlib.Core.Path.{◌∙◌, sym, subst}
use mathlib.Core.Bool.{Bool, true, false, ◌&&◌}
use mathlib.Core.List.{List, [], ◌∷◌}
use Prim.Native.Nat.{ℕ, zero, suc, ◌+◌, ◌<◌}
use native.Mathlib.Nat.{add-zero, zero-add, add-suc, suc-add, le_of_suc-le-suc, not-suc-le-zero, lt_trans}
use lib.Dec.{T, ltb, ltb→lt}
use lib.ListN.{length, get_or, take, drop}
use lib.Seq.{drop-drop}
use Rattle.lists.specs.Lists.{sum, Each, each_nil, each_cons}
use Rattle.lists.proofs.Tests.{and_parts}

-- b wherever a holds
abbrev pub implied : Bool → Bool → Bool
implied true b = b
implied false b = true

pub given : (a b : Bool) → T (implied a b) → T a → T b
given true b t h = t
given false b t h = absurd h

-- ---- entries
-- the test passes at each entry and its place, counted from i
abbrev pub every : (ℕ → ℕ → Bool) → ℕ → List ℕ → Bool
every f i [] = true
every f i (x ∷ xs) = f i x && every f (suc i) xs

from : (f : ℕ → ℕ → Bool) (xs : List ℕ) (i : ℕ) → T (every f i xs) → (k d : ℕ) → k < length xs → T (f (i + k) (get_or xs k d))
from f [] i t k d h = absurd (not-suc-le-zero h)
from f (x ∷ xs) i t zero d h = rw add-zero (and_parts (f i x) (every f (suc i) xs) t).0
from f (x ∷ xs) i t (suc k) d h =
    subst (λ (m : ℕ). T (f m (get_or xs k d))) (suc-add i k ∙ sym (add-suc i k))
    (from f xs (suc i) (and_parts (f i x) (every f (suc i) xs) t).1 k d (le_of_suc-le-suc h))

pub at : (f : ℕ → ℕ → Bool) (xs : List ℕ) → T (every f 0 xs) → (k d : ℕ) → k < length xs → T (f k (get_or xs k d))
at f xs t k d h = rw zero-add at (from f xs 0 t k d h)

-- ---- parts, one after the other, of given lengths
-- the test passes at each part: its place, counted from i, its given length and its entries
abbrev pub every_part : (ℕ → ℕ → List ℕ → Bool) → ℕ → List ℕ → List ℕ → Bool
every_part f i [] xs = true
every_part f i (n ∷ ns) xs = f i n (take n xs) && every_part f (suc i) ns (drop n xs)

pub part_at :
    (f : ℕ → ℕ → List ℕ → Bool) (ns xs : List ℕ) (i : ℕ)
    → T (every_part f i ns xs)
    → (k : ℕ)
    → k < length ns
    → T (f (i + k) (get_or ns k 0) (take (get_or ns k 0) (drop (sum (take k ns)) xs)))
unfolding sum
part_at f [] xs i t k h = absurd (not-suc-le-zero h)
part_at f (n ∷ ns) xs i t zero h = rw add-zero (and_parts (f i n (take n xs)) (every_part f (suc i) ns (drop n xs)) t).0
part_at f (n ∷ ns) xs i t (suc k) h =
    rw (← drop-drop (sum (take k ns)) n xs)
    (subst (λ (m : ℕ). T (f m (get_or ns k 0) (take (get_or ns k 0) (drop (sum (take k ns)) (drop n xs))))) (suc-add i k ∙ sym (add-suc i k))
    (part_at f ns (drop n xs) (suc i) (and_parts (f i n (take n xs)) (every_part f (suc i) ns (drop n xs)) t).1 k (le_of_suc-le-suc h)))

-- ---- rising entries
abbrev pub rises_from : ℕ → List ℕ → Bool
rises_from x [] = true
rises_from x (y ∷ ys) = ltb x y && rises_from y ys

abbrev pub rising : List ℕ → Bool
rising [] = true
rising (x ∷ xs) = rises_from x xs

above : (x : ℕ) (ys : List ℕ) → T (rises_from x ys) → (l : ℕ) → l < length ys → x < get_or ys l 0
above x [] t l h = absurd (not-suc-le-zero h)
above x (y ∷ ys) t zero h = ltb→lt x y (and_parts (ltb x y) (rises_from y ys) t).0
above x (y ∷ ys) t (suc l) h =
    let s = and_parts (ltb x y) (rises_from y ys) t in
    lt_trans (ltb→lt x y s.0) (above y ys s.1 l (le_of_suc-le-suc h))

tail_rises : (x : ℕ) (ys : List ℕ) → T (rises_from x ys) → T (rising ys)
tail_rises x [] t = tt
tail_rises x (y ∷ ys) t = (and_parts (ltb x y) (rises_from y ys) t).1

pub ascends : (xs : List ℕ) → T (rising xs) → (k l : ℕ) → k < l → l < length xs → get_or xs k 0 < get_or xs l 0
ascends [] t k l h g = absurd (not-suc-le-zero g)
ascends (x ∷ xs) t k zero h g = absurd (not-suc-le-zero h)
ascends (x ∷ xs) t zero (suc l) h g = above x xs t l (le_of_suc-le-suc g)
ascends (x ∷ xs) t (suc k) (suc l) h g = ascends xs (tail_rises x xs t) k l (le_of_suc-le-suc h) (le_of_suc-le-suc g)

-- ---- what holds of each element holds of the one at a place
pub each_at : {A : Type 0} {P : A → Type 0} {xs : List A} → Each P xs → (k : ℕ) (d : A) → k < length xs → P (get_or xs k d)
each_at each_nil k d h = absurd (not-suc-le-zero h)
each_at (each_cons p r) zero d h = p
each_at (each_cons p r) (suc k) d h = each_at r k d (le_of_suc-le-suc h)
