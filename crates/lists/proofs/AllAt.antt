-- Tests of every element and its place, part by part and one by one.
use mathlib.Core.Path.{◌≡◌, refl, ap, sym, ◌∙◌, subst}
use mathlib.Core.Bool.{Bool, true, false, ◌&&◌}
use mathlib.Core.List.{List, [], ◌∷◌}
use Prim.Native.Nat.{ℕ, zero, suc, ◌+◌, ◌≤◌, ◌<◌}
use native.Mathlib.Nat.{zero-add, add-zero, add-suc, suc-add}
use native.Mathlib.Omega.{arith}
use lib.Dec.{T, leb}
use lib.ListN.{length, get_or, take, drop, get_or-eq_default}
use lib.Seq.{get_or-drop}
use borrow.Author.Tests.{leb-true, leb-false}
use Rattle.lists.specs.Lists.{all, all_at}
use Rattle.lists.proofs.Snoc.{all_at_at}
use Rattle.lists.proofs.Tests.{is_true, and_assoc}

-- ---- a list in two parts
pub all_at_parts : {A : Type 0} (p : ℕ → A → Bool) (k i : ℕ) (xs : List A) → all_at p i xs ≡ (all_at p i (take k xs) && all_at p (i + k) (drop k xs))
unfolding all_at
all_at_parts p zero i xs = rw (add-zero i)
all_at_parts p (suc k) i [] = refl
all_at_parts p (suc k) i (x ∷ xs) =
    rw (all_at_parts p k (suc i) xs, suc-add i k, add-suc i k) (sym (and_assoc (p i x) (all_at p (suc i) (take k xs)) (all_at p (suc (i + k)) (drop k xs))))

-- where a test does not look at the place
pub all_at_all : {A : Type 0} (p : ℕ → A → Bool) (q : A → Bool) (i : ℕ) (xs : List A) → ((k : ℕ) → k < length xs → (x : A) → p (i + k) x ≡ q x) → all_at p i xs ≡ all q xs
unfolding all_at all
all_at_all p q i [] h = refl
all_at_all p q i (x ∷ xs) h =
    rw (← add-zero i) (rw (h 0 (omega arith) x, add-zero i, all_at_all p q (suc i) xs (λ k l y. rw (suc-add i k, ← add-suc i k) (h (suc k) (omega arith) y))))

-- ---- what stands in a list

-- at a place, a part of a list has at most the number that the list has there
pub get_d_part : (n i k : ℕ) (xs : List ℕ) → get_or (take n (drop i xs)) k 0 ≤ get_or xs (i + k) 0
get_d_part n i k xs = rw (← get_or-drop i xs k 0) (go n k (drop i xs))
  where
    go : (n k : ℕ) (ys : List ℕ) → get_or (take n ys) k 0 ≤ get_or ys k 0
    go zero k ys = omega arith
    go (suc n) k [] = omega arith
    go (suc n) zero (y ∷ ys) = omega arith
    go (suc n) (suc k) (y ∷ ys) = go n k ys

pub all_made : (p : ℕ → Bool) (xs : List ℕ) → ((k : ℕ) → T (p (get_or xs k 0))) → all p xs ≡ true
unfolding all
all_made p [] h = refl
all_made p (x ∷ xs) h = rw (is_true (p x) (h 0)) (all_made p xs (λ k. h (suc k)))

-- where the default passes at every place, so does what is read past the end
pub all_at_read : {A : Type 0} (p : ℕ → A → Bool) (xs : List A) (d : A) → T (all_at p 0 xs) → ((k : ℕ) → T (p k d)) → (k : ℕ) → T (p k (get_or xs k d))
all_at_read p xs d t u k = go (leb (length xs) k) refl
  where
    go : (b : Bool) → leb (length xs) k ≡ b → T (p k (get_or xs k d))
    go true e = rw (get_or-eq_default xs d (leb-true (length xs) k e)) (u k)
    go false e = subst (λ (n : ℕ). T (p n (get_or xs k d))) (zero-add k) (all_at_at p 0 xs t k d (leb-false (length xs) k e))

-- ---- a loop that stops at the first that does not pass

-- x says that this one passes (a) and that the rest does (b)
pub stops : {x a : Bool} (b : Bool) → x ≡ (a && b) → a ≡ false → false ≡ x
stops b e f = sym (e ∙ ap (λ (a : Bool). a && b) f)
