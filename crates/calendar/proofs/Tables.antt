-- Tests: what a test of two parts says of each, and a rule of the numbers below a bound, proved of each by one test that antt
-- computes, one number after the other.
use mathlib.Core.Path.{◌≡◌, refl, ◌∙◌, sym, subst}
use mathlib.Core.Logic.{◌⊎◌, inl, inr}
use mathlib.Core.Bool.{Bool, true, false, not, ◌&&◌, ◌||◌, beq}
use mathlib.Core.List.{List, [], ◌∷◌}
use Prim.Native.Nat.{ℕ, zero, suc, ◌+◌, ◌<◌}
use native.Mathlib.Nat.{add-zero, zero-add, add-suc, suc-add, le_of_suc-le-suc, not-suc-le-zero}
use native.Mathlib.Omega.{arith}
use lib.Dec.{T, ltb}
use lib.ListN.{length}
use borrow.Author.Tests.{ltb-true, ltb-false}
use Rattle.lists.specs.Lists.{all, count, tab, range}
use Rattle.lists.proofs.Tests.{is_true, and_left, and_right}

-- a test that checks b only where a holds
pub given : (a b : Bool) → T (not a || b) → T a → T b
given true b t h = t
given false b t h = absurd h

pub beq→eq : (a b : Bool) → T (beq a b) → a ≡ b
beq→eq true true t = refl
beq→eq true false t = absurd t
beq→eq false true t = absurd t
beq→eq false false t = refl

-- of two numbers the first is less, equal or more
pub tri : (m n : ℕ) → (m < n) ⊎ ((m ≡ n) ⊎ (n < m))
tri m n = go (ltb m n) refl (ltb n m) refl
  where
    go : (a : Bool) → ltb m n ≡ a → (b : Bool) → ltb n m ≡ b → (m < n) ⊎ ((m ≡ n) ⊎ (n < m))
    go true e b f = inl (ltb-true m n e)
    go false e true f = inr (inr (ltb-true n m f))
    go false e false f = inr (inl (omega (arith, ltb-false m n e, ltb-false n m f)))

-- where each element passes f, and with it g, all are counted
pub count_all : {A : Type 0} (f g : A → Bool) → ((x : A) → T (f x) → T (g x)) → (xs : List A) → T (all f xs) → count g xs ≡ length xs
unfolding all count
count_all f g h [] t = refl
count_all f g h (x ∷ xs) t = rw (is_true (g x) (h x (and_left (f x) (all f xs) t)), count_all f g h xs (and_right (f x) (all f xs) t))

-- the test f passes at n numbers from i on
abbrev pub every : (ℕ → Bool) → ℕ → ℕ → Bool
every f i zero = true
every f i (suc n) = f i && every f (suc i) n

from : (f : ℕ → Bool) (n i : ℕ) → T (every f i n) → (k : ℕ) → k < n → T (f (i + k))
from f zero i t k h = absurd (not-suc-le-zero h)
from f (suc n) i t zero h = subst (λ (m : ℕ). T (f m)) (sym (add-zero i)) (and_left (f i) (every f (suc i) n) t)
from f (suc n) i t (suc k) h =
    subst (λ (m : ℕ). T (f m)) (suc-add i k ∙ sym (add-suc i k))
    (from f n (suc i) (and_right (f i) (every f (suc i) n) t) k (le_of_suc-le-suc h))

-- what passes at each number below n holds of each
pub at : (f : ℕ → Bool) (n : ℕ) → T (every f 0 n) → (k : ℕ) → k < n → T (f k)
at f n t k h = subst (λ (m : ℕ). T (f m)) (zero-add k) (from f n 0 t k h)

-- the same of pairs of numbers
pub at_pair : (f : ℕ → ℕ → Bool) (n m : ℕ) → T (every (λ i. every (f i) 0 m) 0 n) → (i j : ℕ) → i < n → j < m → T (f i j)
at_pair f n m t i j h k = at (f i) m (at (λ l. every (f l) 0 m) n t i h) j k

-- tests that agree on some numbers in a row pass as many of them
pub count_same : (f g : ℕ → Bool) (n i : ℕ) → ((k : ℕ) → k < i + n → f k ≡ g k) → count f (range i n) ≡ count g (range i n)
unfolding range tab count
count_same f g zero i h = refl
count_same f g (suc n) i h = rw (h i (omega arith), count_same f g n (suc i) (λ k l. h k (omega arith)))
