-- Lists: a test of each or some element, the first of a list that passes, a table of places, sums and counts.
use Rattle.std.specs.Prelude.{Bool, true, false, ◌&&◌, ◌||◌, cond, List, [], ◌∷◌, ◌++◌, ℕ, zero, suc, ◌+◌}
use Rattle.std.proofs.Math.Option.{Option, some, none}

unfoldable pub any : {A : Type 0} → (A → Bool) → List A → Bool
any p [] = false
any p (x ∷ xs) = p x || any p xs

unfoldable pub all : {A : Type 0} → (A → Bool) → List A → Bool
all p [] = true
all p (x ∷ xs) = p x && all p xs

-- those that pass, in their order
unfoldable pub keep : {A : Type 0} → (A → Bool) → List A → List A
keep p [] = []
keep p (x ∷ xs) = cond (p x) (x ∷ keep p xs) (keep p xs)

-- the first that passes
unfoldable pub first_of : {A : Type 0} → (A → Bool) → List A → Option A
first_of p [] = none
first_of p (x ∷ xs) = cond (p x) (some x) (first_of p xs)

-- a, or b where there is none
abbrev pub or : {A : Type 0} → Option A → Option A → Option A
or none b = b
or (some a) b = some a

abbrev pub or_else : {A : Type 0} → Option A → A → A
or_else none d = d
or_else (some a) d = a

abbrev pub is_some : {A : Type 0} → Option A → Bool
is_some none = false
is_some (some a) = true

-- what the first element that has it says
unfoldable pub seek : {A B : Type 0} → (A → Option B) → List A → Option B
seek f [] = none
seek f (x ∷ xs) = or (f x) (seek f xs)

-- what the last element that has it says
unfoldable pub latest : {A B : Type 0} → (A → Option B) → List A → Option B
latest f [] = none
latest f (x ∷ xs) = or (latest f xs) (f x)

-- one list of many
unfoldable pub flat : {A : Type 0} → List (List A) → List A
flat [] = []
flat (xs ∷ xss) = xs ++ flat xss

-- f at n places from i on
unfoldable pub tab : {A : Type 0} → ℕ → ℕ → (ℕ → A) → List A
tab zero i f = []
tab (suc n) i f = f i ∷ tab n (suc i) f

-- the numbers i, i + 1, .. of which there are n
unfoldable pub range : ℕ → ℕ → List ℕ
range i n = tab n i (λ k. k)

-- the values that are present
unfoldable pub present : {A : Type 0} → List (Option A) → List A
present [] = []
present (none ∷ xs) = present xs
present (some x ∷ xs) = x ∷ present xs

unfoldable pub sum : List ℕ → ℕ
sum [] = 0
sum (x ∷ xs) = x + sum xs

-- how many pass
unfoldable pub count : {A : Type 0} → (A → Bool) → List A → ℕ
count p [] = 0
count p (x ∷ xs) = cond (p x) (suc (count p xs)) (count p xs)

-- a test of each element and its place, from place i on
unfoldable pub all_at : {A : Type 0} → (ℕ → A → Bool) → ℕ → List A → Bool
all_at p i [] = true
all_at p i (x ∷ xs) = p i x && all_at p (suc i) xs

-- each two neighbours
unfoldable pub neighbours : {A : Type 0} → List A → List (A × A)
neighbours [] = []
neighbours (x ∷ []) = []
neighbours (x ∷ y ∷ xs) = (x, y) ∷ neighbours (y ∷ xs)

-- ---- in words
pub data Each {A : Type 0} (P : A → Type 0) : List A → Type 0 where
  each_nil : Each P []
  each_cons : {x : A} {xs : List A} → P x → Each P xs → Each P (x ∷ xs)

pub data Some {A : Type 0} (P : A → Type 0) : List A → Type 0 where
  here : {x : A} {xs : List A} → P x → Some P (x ∷ xs)
  there : {x : A} {xs : List A} → Some P xs → Some P (x ∷ xs)
