-- A list that grows or changes by one: one more at the end, one place set, one more that passes, one term of a sum that is larger.
use mathlib.Core.Path.{◌≡◌, refl, sym}
use mathlib.Core.Bool.{Bool, true, false, cond}
use mathlib.Core.List.{List, [], ◌∷◌, ◌++◌}
use mathlib.Core.Option.{Option, some, none}
use Prim.Native.Nat.{ℕ, zero, suc, ◌+◌, ◌≤◌, ◌<◌}
use native.Mathlib.Nat.{le_of_suc-le-suc, not-suc-le-zero}
use native.Mathlib.Omega.{arith}
use lib.Dec.{T, eqb}
use lib.ListN.{length, get_or, set}
use borrow.Author.Tests.{eqb-true, eqb-false}
use Rattle.lists.specs.Lists.{or, latest, tab, range, sum, count, all_at}
use Rattle.lists.proofs.Laws.{or_none}
use Rattle.lists.proofs.Tests.{and_parts, and_made}

-- ---- one more at the end
pub latest_snoc : {A B : Type 0} (f : A → Option B) (xs : List A) (x : A) → latest f (xs ++ (x ∷ [])) ≡ or (f x) (latest f xs)
unfolding latest
latest_snoc f [] x = sym (or_none (f x))
latest_snoc {A} {B} f (y ∷ xs) x = rw (latest_snoc f xs x) (more (f x))
  where
    more : (o : Option B) → or (or o (latest f xs)) (f y) ≡ or o (or (latest f xs) (f y))
    more none = refl
    more (some b) = refl

pub count_snoc : {A : Type 0} (p : A → Bool) (xs : List A) (x : A) → count p (xs ++ (x ∷ [])) ≡ cond (p x) (count p xs + 1) (count p xs)
unfolding count
count_snoc p [] x = one (p x)
  where
    one : (b : Bool) → cond {A = ℕ} b 1 0 ≡ cond b (0 + 1) 0
    one true = refl
    one false = refl
count_snoc p (y ∷ xs) x = rw (count_snoc p xs x) (more (p y) (p x) (count p xs))
  where
    more : (a b : Bool) (n : ℕ) → cond a (suc (cond b (n + 1) n)) (cond b (n + 1) n) ≡ cond b (cond a (suc n) n + 1) (cond a (suc n) n)
    more true true n = omega arith
    more true false n = refl
    more false true n = refl
    more false false n = refl

-- ---- a test of each element and its place

pub all_at_map : {A : Type 0} (p q : ℕ → A → Bool) → ((k : ℕ) (x : A) → T (p k x) → T (q k x)) → (i : ℕ) (xs : List A) → T (all_at p i xs) → T (all_at q i xs)
unfolding all_at
all_at_map p q h i [] t = tt
all_at_map p q h i (x ∷ xs) t =
    let s = and_parts (p i x) (all_at p (suc i) xs) t in
    and_made (q i x) (all_at q (suc i) xs) (h i x s.0) (all_at_map p q h (suc i) xs s.1)

pub all_at_at : {A : Type 0} (p : ℕ → A → Bool) (i : ℕ) (xs : List A) → T (all_at p i xs) → (k : ℕ) (d : A) → k < length xs → T (p (i + k) (get_or xs k d))
unfolding all_at
all_at_at p i [] t k d h = absurd (not-suc-le-zero h)
all_at_at p i (x ∷ xs) t zero d h = rw (shift i) (and_parts (p i x) (all_at p (suc i) xs) t).0
  where
    shift : (n : ℕ) → n + 0 ≡ n
    shift n = omega arith
all_at_at p i (x ∷ xs) t (suc k) d h =
    rw (shift i k) (all_at_at p (suc i) xs (and_parts (p i x) (all_at p (suc i) xs) t).1 k d (le_of_suc-le-suc h))
  where
    shift : (n m : ℕ) → n + suc m ≡ suc n + m
    shift n m = omega arith

-- one place set to what passes there
pub all_at_set : {A : Type 0} (p : ℕ → A → Bool) (i : ℕ) (xs : List A) (k : ℕ) (v : A) → T (all_at p i xs) → (k < length xs → T (p (i + k) v))
    → T (all_at p i (set xs k v))
unfolding all_at
all_at_set p i [] k v t h = tt
all_at_set p i (x ∷ xs) zero v t h = and_made (p i v) (all_at p (suc i) xs) (rw (shift i) at (h (omega arith))) (and_parts (p i x) (all_at p (suc i) xs) t).1
  where
    shift : (n : ℕ) → n + 0 ≡ n
    shift n = omega arith
all_at_set p i (x ∷ xs) (suc k) v t h =
    let s = and_parts (p i x) (all_at p (suc i) xs) t in
    and_made (p i x) (all_at p (suc i) (set xs k v)) s.0 (all_at_set p (suc i) xs k v s.1 (λ g. rw (shift i k) at (h (omega arith))))
  where
    shift : (n m : ℕ) → n + suc m ≡ suc n + m
    shift n m = omega arith

-- ---- sums over numbers in a row
pub sum_rises : (n i : ℕ) (f g : ℕ → ℕ) → ((k : ℕ) → f k ≤ g k) → sum (tab n i f) ≤ sum (tab n i g)
unfolding sum tab
sum_rises zero i f g h = omega arith
sum_rises (suc n) i f g h = omega (arith, h i, sum_rises n (suc i) f g h)

-- where one term is larger, the sum is
pub sum_more : (n i : ℕ) (f g : ℕ → ℕ) → ((k : ℕ) → f k ≤ g k) → (q : ℕ) → i ≤ q → q < i + n → f q + 1 ≤ g q → sum (tab n i f) + 1 ≤ sum (tab n i g)
unfolding sum tab
sum_more zero i f g h q a b m = absurd (omega arith)
sum_more (suc n) i f g h q a b m = go (eqb i q) refl (sum_more n (suc i) f g h q)
  where
    go : (c : Bool) → eqb i q ≡ c → (suc i ≤ q → q < suc i + n → f q + 1 ≤ g q → sum (tab n (suc i) f) + 1 ≤ sum (tab n (suc i) g))
        → f i + sum (tab n (suc i) f) + 1 ≤ g i + sum (tab n (suc i) g)
    go true e r = let z : i ≡ q = eqb-true i q e in omega (arith, (rw (← z) at m), sum_rises n (suc i) f g h)
    go false e r = omega (arith, h i, r (omega (arith, eqb-false i q e)) (omega arith) m)

-- a count over numbers in a row is a sum of ones
abbrev pub one : Bool → ℕ
one b = cond b 1 0

pub count_sum : (p : ℕ → Bool) (i n : ℕ) → count p (range i n) ≡ sum (tab n i (λ k. one (p k)))
unfolding count range sum tab
count_sum p i zero = refl
count_sum p i (suc n) = rw (count_sum p (suc i) n) (go (p i) (sum (tab n (suc i) (λ k. one (p k)))))
  where
    go : (b : Bool) (m : ℕ) → cond b (suc m) m ≡ one b + m
    go true m = omega arith
    go false m = omega arith
