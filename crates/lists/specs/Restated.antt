-- What a search finds and a count counts, in words.
use Rattle.std.specs.Prelude.{List, [], ◌∷◌, ℕ, suc}
use Rattle.lists.specs.Lists.{Each}

-- so many elements have P
pub data CountIs {A : Type 0} (P : A → Type 0) : List A → ℕ → Type 0 where
  count_nil : CountIs P [] 0
  count_in : {x : A} {xs : List A} {n : ℕ} → P x → CountIs P xs n → CountIs P (x ∷ xs) (suc n)
  count_out : {x : A} {xs : List A} {n : ℕ} → (¬ P x) → CountIs P xs n → CountIs P (x ∷ xs) n

-- the first element that has P
pub data First {A : Type 0} (P : A → Type 0) (a : A) : List A → Type 0 where
  first_here : {xs : List A} → P a → First P a (a ∷ xs)
  first_later : {x : A} {xs : List A} → (¬ P x) → First P a xs → First P a (x ∷ xs)

-- the last element that has P
pub data Last {A : Type 0} (P : A → Type 0) (a : A) : List A → Type 0 where
  last_here : {xs : List A} → P a → Each (λ x. ¬ P x) xs → Last P a (a ∷ xs)
  last_later : {x : A} {xs : List A} → Last P a xs → Last P a (x ∷ xs)

-- two elements next to one another
pub data Adjacent {A : Type 0} (a b : A) : List A → Type 0 where
  next : {xs : List A} → Adjacent a b (a ∷ b ∷ xs)
  further : {x : A} {xs : List A} → Adjacent a b xs → Adjacent a b (x ∷ xs)
