-- A table cut into blocks of one length, and sums and counts over its places.
use mathlib.Core.Path.{◌≡◌, refl, ap, ◌∙◌}
use mathlib.Core.Bool.{Bool}
use mathlib.Core.List.{List, [], ◌∷◌, ◌++◌, map}
use Prim.Native.Nat.{ℕ, zero, suc, ◌+◌, ◌-◌, ◌*◌, ◌≤◌, ◌<◌}
use native.Mathlib.Omega.{arith}
use lib.ListN.{length, get_or}
use Rattle.lists.specs.Lists.{tab, range, sum, count}
use Rattle.lists.proofs.Tables.{tab_same}
use Rattle.lists.proofs.RestatedLists.{count_append}

-- a table from a later place on
pub tab_shift : {A : Type 0} (n m i : ℕ) (f : ℕ → A) → tab n (m + i) f ≡ tab n i (λ k. f (m + k))
unfolding tab
tab_shift zero m i f = refl
tab_shift (suc n) m i f = let e : suc (m + i) ≡ m + suc i = omega arith in rw e (ap (λ (r : List _). f (m + i) ∷ r) (tab_shift n m (suc i) f))

pub tab_split : {A : Type 0} (a b i : ℕ) (f : ℕ → A) → tab (a + b) i f ≡ tab a i f ++ tab b (i + a) f
unfolding tab
tab_split zero b i f = let e : 0 + b ≡ b = omega arith in let r : i + 0 ≡ i = omega arith in rw (e, r)
tab_split (suc a) b i f =
    let e : suc a + b ≡ suc (a + b) = omega arith in
    let r : i + suc a ≡ suc i + a = omega arith in
    rw (e, r) (ap (λ (t : List _). f i ∷ t) (tab_split a b (suc i) f))

pub map_range : {A : Type 0} (f : ℕ → A) (i n : ℕ) → map f (range i n) ≡ tab n i f
unfolding range tab
map_range f i zero = refl
map_range f i (suc n) = ap (λ (r : List _). f i ∷ r) (map_range f (suc i) n)

pub sum_append : (xs ys : List ℕ) → sum (xs ++ ys) ≡ sum xs + sum ys
unfolding sum
sum_append [] ys = omega arith
sum_append (x ∷ xs) ys = omega (arith, sum_append xs ys)

-- ---- blocks of b places each, from block i on
blocks : (b n : ℕ) → b * suc n ≡ b + b * n
blocks b n = omega arith

next_block : (b i : ℕ) → b * i + b ≡ b * suc i
next_block b i = omega arith

pub sum_blocks : (b n i : ℕ) (f : ℕ → ℕ) → sum (tab (b * n) (b * i) f) ≡ sum (tab n i (λ k. sum (tab b (b * k) f)))
unfolding tab sum
sum_blocks b zero i f = let e : b * 0 ≡ 0 = omega arith in rw e
sum_blocks b (suc n) i f =
    rw (blocks b n, tab_split b (b * n) (b * i) f, next_block b i)
    (sum_append (tab b (b * i) f) (tab (b * n) (b * suc i) f) ∙ ap (λ (m : ℕ). sum (tab b (b * i) f) + m) (sum_blocks b n (suc i) f))

pub count_blocks : {A : Type 0} (p : A → Bool) (b n i : ℕ) (f : ℕ → A) → count p (tab (b * n) (b * i) f) ≡ sum (tab n i (λ k. count p (tab b (b * k) f)))
unfolding tab sum count
count_blocks p b zero i f = let e : b * 0 ≡ 0 = omega arith in rw e
count_blocks p b (suc n) i f =
    rw (blocks b n, tab_split b (b * n) (b * i) f, next_block b i)
    (count_append p (tab b (b * i) f) (tab (b * n) (b * suc i) f) ∙ ap (λ (m : ℕ). count p (tab b (b * i) f) + m) (count_blocks p b n (suc i) f))

-- ---- places past the last that counts
sum_zeros : (n i : ℕ) (f : ℕ → ℕ) → ((k : ℕ) → i ≤ k → f k ≡ 0) → sum (tab n i f) ≡ 0
unfolding tab sum
sum_zeros zero i f h = refl
sum_zeros (suc n) i f h = omega (arith, h i (omega arith), sum_zeros n (suc i) f (λ k a. h k (omega arith)))

pub sum_short : (n m : ℕ) (f : ℕ → ℕ) → n ≤ m → ((k : ℕ) → n ≤ k → f k ≡ 0) → sum (tab m 0 f) ≡ sum (tab n 0 f)
sum_short n m f h z =
    let e : m ≡ n + (m - n) = omega arith in
    rw e (ap sum (tab_split n (m - n) 0 f) ∙ sum_append (tab n 0 f) (tab (m - n) (0 + n) f) ∙ last)
  where
    last : sum (tab n 0 f) + sum (tab (m - n) (0 + n) f) ≡ sum (tab n 0 f)
    last = omega (arith, sum_zeros (m - n) (0 + n) f (λ k a. z k (omega arith)))

-- a sum over the places of a list
pub sum_places : {A : Type 0} (f : A → ℕ) (xs : List A) (d : A) → sum (tab (length xs) 0 (λ j. f (get_or xs j d))) ≡ sum (map f xs)
unfolding tab sum
sum_places f [] d = refl
sum_places f (x ∷ xs) d =
    ap (λ (m : ℕ). f x + m) (ap sum (tab_shift (length xs) 1 0 (λ j. f (get_or (x ∷ xs) j d))
    ∙ tab_same (length xs) 0 (λ j. f (get_or (x ∷ xs) (1 + j) d)) (λ j. f (get_or xs j d)) (λ j b. ap (λ (k : ℕ). f (get_or (x ∷ xs) k d)) (one j))) ∙ sum_places f xs d)
  where
    one : (j : ℕ) → 1 + j ≡ suc j
    one j = omega arith

pub count_same : {A B : Type 0} (p : A → Bool) (q : B → Bool) (n i : ℕ) (f : ℕ → A) (g : ℕ → B) → ((k : ℕ) → i ≤ k → k < i + n → p (f k) ≡ q (g k))
    → count p (tab n i f) ≡ count q (tab n i g)
unfolding tab count
count_same p q zero i f g h = refl
count_same p q (suc n) i f g h =
    let e : p (f i) ≡ q (g i) = h i (omega arith) (omega arith) in
    let r = count_same p q n (suc i) f g (λ k a b. h k (omega arith) (omega arith)) in
    rw (e, r)
