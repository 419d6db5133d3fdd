-- A test and the words that it decides: one law for each way of making a test.
use mathlib.Core.Path.{◌≡◌}
use mathlib.Core.Logic.{◌↔◌, ◌⊎◌, inl, inr}
use mathlib.Core.Bool.{Bool, true, false, not, ◌&&◌, ◌||◌}
use mathlib.Core.List.{List, [], ◌∷◌}
use Prim.Native.Nat.{ℕ, ◌≤◌, ◌<◌}
use lib.Dec.{T, leb, ltb, eqb, leb→le, le→leb, ltb→lt, lt→ltb, eqb→eq}
use borrow.Author.Tests.{eq-eqb}
use Rattle.lists.specs.Lists.{any, all, Each, each_nil, each_cons, Some}
use Rattle.lists.proofs.Laws.{some_map, any_some, some_any}

pub of_eq : (m n : ℕ) → T (eqb m n) ↔ (m ≡ n)
of_eq m n = (eqb→eq m n, λ e. rw (eq-eqb m n e) tt)

pub of_lt : (m n : ℕ) → T (ltb m n) ↔ (m < n)
of_lt m n = (ltb→lt m n, lt→ltb m n)

pub of_le : (m n : ℕ) → T (leb m n) ↔ (m ≤ n)
of_le m n = (leb→le m n, le→leb m n)

pub of_or : {A B : Type 0} (a b : Bool) → T a ↔ A → T b ↔ B → T (a || b) ↔ (A ⊎ B)
of_or {A} {B} true b f g = (λ t. inl (f.0 tt), λ s. tt)
of_or {A} {B} false b f g = (λ t. inr (g.0 t), λ s. elim s [ inl x ↦ absurd (f.1 x) | inr y ↦ g.1 y ])

pub of_and : {A B : Type 0} (a b : Bool) → T a ↔ A → T b ↔ B → T (a && b) ↔ (A × B)
of_and true b f g = (λ t. (f.0 tt, g.0 t), λ s. g.1 s.1)
of_and false b f g = (λ t. absurd t, λ s. f.1 s.0)

pub of_not : {A : Type 0} (a : Bool) → T a ↔ A → T (not a) ↔ (¬ A)
of_not true f = (λ t. absurd t, λ n. n (f.0 tt))
of_not false f = (λ t x. f.1 x, λ n. tt)

pub of_any : {A : Type 0} {P : A → Type 0} (p : A → Bool) → ((x : A) → T (p x) ↔ P x) → (xs : List A) → T (any p xs) ↔ Some P xs
of_any p f xs = (λ t. some_map (λ x h. (f x).0 h) (any_some p xs t), λ s. some_any p (some_map (λ x h. (f x).1 h) s))

pub of_all : {A : Type 0} {P : A → Type 0} (p : A → Bool) → ((x : A) → T (p x) ↔ P x) → (xs : List A) → T (all p xs) ↔ Each P xs
unfolding all
of_all p f [] = (λ t. each_nil, λ e. tt)
of_all {A} {P} p f (x ∷ xs) = both (of_and (p x) (all p xs) (f x) (of_all p f xs))
  where
    both : T (p x && all p xs) ↔ (P x × Each P xs) → T (p x && all p xs) ↔ Each P (x ∷ xs)
    both r = (λ t. each_cons (r.0 t).0 (r.0 t).1, λ e. r.1 (parts e))
      where
        parts : Each P (x ∷ xs) → P x × Each P xs
        parts (each_cons h t) = (h, t)
