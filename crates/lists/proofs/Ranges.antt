-- Laws of ranges and tables: some and each number of a range, tests and searches of a table, its neighbours and its sum.
use mathlib.Core.Path.{◌≡◌, refl, ap, sym, subst, ◌∙◌}
use mathlib.Core.Bool.{Bool, true, false, not, ◌&&◌, ◌||◌, cond}
use mathlib.Core.List.{List, [], ◌∷◌, map}
use mathlib.Core.Option.{Option, some, none}
use Prim.Native.Nat.{ℕ, zero, suc, ◌+◌, ◌-◌, ◌≤◌, ◌<◌}
use native.Mathlib.Nat.{not-suc-le-zero, add-zero, zero-add}
use native.Mathlib.Numerals.{add-one, sub-one}
use native.Mathlib.Omega.{arith}
use lib.Dec.{T}
use lib.ListN.{length, get_or}
use Rattle.lists.specs.Lists.{any, all, keep, first_of, tab, range, sum, neighbours}
use Rattle.lists.proofs.Laws.{any_some, some_any, paired}
use Rattle.lists.proofs.Reflect.{of_all}
use Rattle.lists.proofs.Sums.{each_in, some_in_lem, each_range, in_range_lem}
use Rattle.lists.proofs.Tests.{same}

-- an element within the list is the same whatever the default
pub get_d_any : {A : Type 0} (xs : List A) (i : ℕ) (d e : A) → i < length xs → get_or xs i d ≡ get_or xs i e
get_d_any [] i d e h = absurd (not-suc-le-zero h)
get_d_any (x ∷ xs) zero d e h = refl
get_d_any (x ∷ xs) (suc i) d e h = get_d_any xs i d e (omega arith)

-- ---- tests of a table are tests of its places
pub any_tab : {A : Type 0} (p : A → Bool) (n i : ℕ) (f : ℕ → A) → any p (tab n i f) ≡ any (λ k. p (f k)) (range i n)
unfolding any tab range
any_tab p zero i f = refl
any_tab p (suc n) i f = ap (λ (b : Bool). p (f i) || b) (any_tab p n (suc i) f)

pub all_tab : {A : Type 0} (p : A → Bool) (n i : ℕ) (f : ℕ → A) → all p (tab n i f) ≡ all (λ k. p (f k)) (range i n)
unfolding all tab range
all_tab p zero i f = refl
all_tab p (suc n) i f = ap (λ (b : Bool). p (f i) && b) (all_tab p n (suc i) f)

pub map_tab : {A B : Type 0} (g : A → B) (n i : ℕ) (f : ℕ → A) → map g (tab n i f) ≡ tab n i (λ k. g (f k))
unfolding tab
map_tab g zero i f = refl
map_tab {A} {B} g (suc n) i f = ap (λ (l : List B). g (f i) ∷ l) (map_tab g n (suc i) f)

neighbours_suc : {A : Type 0} (n i : ℕ) (f : ℕ → A) → neighbours (tab (suc n) i f) ≡ tab n i (λ k. (f k, f (k + 1)))
unfolding tab neighbours
neighbours_suc zero i f = refl
neighbours_suc (suc n) i f = rw (add-one i, neighbours_suc n (suc i) f)

-- n things in a row have n - 1 pairs of neighbours
pub neighbours_tab : {A : Type 0} (n i : ℕ) (f : ℕ → A) → neighbours (tab n i f) ≡ tab (n - 1) i (λ k. (f k, f (k + 1)))
unfolding tab neighbours
neighbours_tab zero i f = refl
neighbours_tab (suc n) i f = neighbours_suc n i f ∙ rw (sub-one (suc n))

-- ---- tests of those that pass another
pub any_keep : {A : Type 0} (p q : A → Bool) (xs : List A) → any p (keep q xs) ≡ any (λ x. q x && p x) xs
unfolding any keep
any_keep p q [] = refl
any_keep {A} p q (x ∷ xs) = go (q x) (any_keep p q xs)
  where
    go : (b : Bool) → any p (keep q xs) ≡ any (λ y. q y && p y) xs → any p (cond b (x ∷ keep q xs) (keep q xs)) ≡ ((b && p x) || any (λ y. q y && p y) xs)
    go true e = ap (λ (c : Bool). p x || c) e
    go false e = e

pub all_keep : {A : Type 0} (p q : A → Bool) (xs : List A) → all p (keep q xs) ≡ all (λ x. not (q x) || p x) xs
unfolding all keep
all_keep p q [] = refl
all_keep {A} p q (x ∷ xs) = go (q x) (all_keep p q xs)
  where
    go : (b : Bool) → all p (keep q xs) ≡ all (λ y. not (q y) || p y) xs → all p (cond b (x ∷ keep q xs) (keep q xs)) ≡ ((not b || p x) && all (λ y. not (q y) || p y) xs)
    go true e = ap (λ (c : Bool). p x && c) e
    go false e = e

-- ---- some and each number of a range
pub some_of_range : (p : ℕ → Bool) (n i : ℕ) → T (any p (range i n)) → (k : ℕ) × (i ≤ k) × (k < i + n) × T (p k)
some_of_range p n i t =
    let s = paired (any_some p (range i n) t) (each_range {P = λ k. (i ≤ k) × (k < i + n)} i n (λ k a b. (a, b))) in
    (s.0, s.2.0, s.2.1, s.1)

pub range_some : (p : ℕ → Bool) (n i k : ℕ) → i ≤ k → k < i + n → T (p k) → T (any p (range i n))
range_some p n i k h l t = some_any p (some_in_lem (in_range_lem i n k h l) t)

pub each_of_range : (p : ℕ → Bool) (n i : ℕ) → T (all p (range i n)) → (k : ℕ) → i ≤ k → k < i + n → T (p k)
each_of_range p n i t k h l = each_in ((of_all p (λ x. (λ u. u, λ u. u)) (range i n)).0 t) (in_range_lem i n k h l)

pub range_each : (p : ℕ → Bool) (n i : ℕ) → ((k : ℕ) → i ≤ k → k < i + n → T (p k)) → T (all p (range i n))
range_each p n i f = (of_all p (λ x. (λ u. u, λ u. u)) (range i n)).1 (each_range i n f)

-- tests that agree on a range
pub any_same : (p q : ℕ → Bool) (n i : ℕ) → ((k : ℕ) → i ≤ k → k < i + n → p k ≡ q k) → any p (range i n) ≡ any q (range i n)
unfolding any tab range
any_same p q zero i h = refl
any_same p q (suc n) i h = rw (h i (omega arith) (omega arith), any_same p q n (suc i) (λ k a b. h k (omega arith) (omega arith)))

pub all_same : (p q : ℕ → Bool) (n i : ℕ) → ((k : ℕ) → i ≤ k → k < i + n → p k ≡ q k) → all p (range i n) ≡ all q (range i n)
unfolding all tab range
all_same p q zero i h = refl
all_same p q (suc n) i h = rw (h i (omega arith) (omega arith), all_same p q n (suc i) (λ k a b. h k (omega arith) (omega arith)))

-- a range is one from 0, moved
pub any_moved : (p : ℕ → Bool) (n i : ℕ) → any p (range i n) ≡ any (λ k. p (i + k)) (range 0 n)
any_moved p n i =
    same (any p (range i n)) (any (λ k. p (i + k)) (range 0 n))
    (λ t. let s = some_of_range p n i t in range_some (λ k. p (i + k)) n 0 (s.0 - i) (omega arith) (omega (arith, s.1, s.2)) (subst (λ (m : ℕ). T (p m)) (omega (arith, s.1)) s.3))
    (λ t. let s = some_of_range (λ k. p (i + k)) n 0 t in range_some p n i (i + s.0) (omega arith) (omega (arith, s.2)) s.3)

-- ---- the first that passes
abbrev pub through : {A B : Type 0} → (A → B) → Option A → Option B
through f none = none
through f (some a) = some (f a)

pub first_tab : {A : Type 0} (p : A → Bool) (n i : ℕ) (f : ℕ → A) → first_of p (tab n i f) ≡ through f (first_of (λ k. p (f k)) (range i n))
unfolding first_of tab range
first_tab p zero i f = refl
first_tab {A} p (suc n) i f = go (p (f i)) (first_tab p n (suc i) f)
  where
    go : (b : Bool) → first_of p (tab n (suc i) f) ≡ through f (first_of (λ k. p (f k)) (range (suc i) n))
        → cond b (some (f i)) (first_of p (tab n (suc i) f)) ≡ through f (cond b (some i) (first_of (λ k. p (f k)) (range (suc i) n)))
    go true e = refl
    go false e = e

first_later : (p : ℕ → Bool) (n i j : ℕ) → j < n → ((k : ℕ) → i ≤ k → k < i + j → p k ≡ false) → p (i + j) ≡ true → first_of p (range i n) ≡ some (i + j)
unfolding first_of tab range
first_later p zero i j h f e = absurd (not-suc-le-zero h)
first_later p (suc n) i zero h f e = rw (add-zero i, rw add-zero at e)
first_later p (suc n) i (suc j) h f e =
    rw (f i (omega arith) (omega arith))
    (first_later p n (suc i) j (omega arith) (λ k a b. f k (omega arith) (omega arith)) (subst (λ (m : ℕ). p m ≡ true) (omega arith) e) ∙ ap some (omega arith))

-- the k-th is the first, where none before it passes
pub first_is : (p : ℕ → Bool) (n k : ℕ) → k < n → ((j : ℕ) → j < k → p j ≡ false) → p k ≡ true → first_of p (range 0 n) ≡ some k
first_is p n k h f e = first_later p n 0 k h (λ j a b. f j (omega arith)) (rw zero-add e) ∙ ap some (zero-add k)

-- what is found is in the range, and passes
pub first_found : (p : ℕ → Bool) (n i k : ℕ) → first_of p (range i n) ≡ some k → (i ≤ k) × (k < i + n) × (p k ≡ true)
unfolding first_of tab range
first_found p zero i k e = let z : ◌≡◌ {A = ℕ} 0 1 = cc in absurd (omega arith)
first_found p (suc n) i k e = go (p i) refl e (first_found p n (suc i) k)
  where
    go : (b : Bool) → p i ≡ b → cond b (some i) (first_of p (range (suc i) n)) ≡ some k
        → (first_of p (range (suc i) n) ≡ some k → (suc i ≤ k) × (k < suc i + n) × (p k ≡ true)) → (i ≤ k) × (k < i + suc n) × (p k ≡ true)
    go true h g f = let q : i ≡ k = cc in (omega arith, omega arith, ap p (sym q) ∙ h)
    go false h g f = let r = f g in (omega (arith, r.0), omega (arith, r.1), r.2)

-- none is found where none passes
pub first_not : (p : ℕ → Bool) (n i : ℕ) → ((k : ℕ) → i ≤ k → k < i + n → p k ≡ false) → first_of p (range i n) ≡ none
unfolding first_of tab range
first_not p zero i h = refl
first_not p (suc n) i h = rw (h i (omega arith) (omega arith)) (first_not p n (suc i) (λ k a b. h k (omega arith) (omega arith)))

-- ---- sums
pub sum_same : (n i : ℕ) (f g : ℕ → ℕ) → ((k : ℕ) → i ≤ k → k < i + n → f k ≡ g k) → sum (tab n i f) ≡ sum (tab n i g)
unfolding sum tab
sum_same zero i f g h = refl
sum_same (suc n) i f g h = rw (h i (omega arith) (omega arith), sum_same n (suc i) f g (λ k a b. h k (omega arith) (omega arith)))
