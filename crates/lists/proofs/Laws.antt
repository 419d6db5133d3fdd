-- Laws of the lists' tests and searches.
use mathlib.Core.Path.{◌≡◌, refl, ap, ◌∙◌}
use mathlib.Core.Bool.{Bool, true, false, not, ◌||◌, cond}
use mathlib.Core.List.{List, [], ◌∷◌, ◌++◌, foldr}
use mathlib.Core.Option.{Option, some, none}
use Prim.Native.Nat.{ℕ, zero, suc, ◌+◌, ◌≤◌, ◌<◌, min}
use native.Mathlib.Nat.{le_of_suc-le-suc, not-suc-le-zero}
use native.Mathlib.Omega.{arith}
use lib.Dec.{T}
use lib.ListN.{length, get_or}
use Rattle.lists.specs.Lists.{any, first_of, or, seek, tab, Each, each_nil, each_cons, Some, here, there}
use Rattle.lists.proofs.Tests.{or_split, is_true}

-- ---- any and seek, one more at the end
pub any_snoc : {A : Type 0} (p : A → Bool) (xs : List A) (x : A) → any p (xs ++ (x ∷ [])) ≡ (any p xs || p x)
unfolding any
any_snoc p [] x = one (p x)
  where
    one : (b : Bool) → (b || false) ≡ b
    one true = refl
    one false = refl
any_snoc p (y ∷ xs) x = more (p y) (any_snoc p xs x)
  where
    more : (b : Bool) → any p (xs ++ (x ∷ [])) ≡ (any p xs || p x) → (b || any p (xs ++ (x ∷ []))) ≡ ((b || any p xs) || p x)
    more true e = refl
    more false e = e

pub or_none : {A : Type 0} (o : Option A) → or o none ≡ o
or_none none = refl
or_none (some a) = refl

pub seek_snoc : {A B : Type 0} (f : A → Option B) (xs : List A) (x : A) → seek f (xs ++ (x ∷ [])) ≡ or (seek f xs) (f x)
unfolding seek
seek_snoc f [] x = or_none (f x)
seek_snoc {A} {B} f (y ∷ xs) x = more (f y) (seek_snoc f xs x)
  where
    more : (o : Option B) → seek f (xs ++ (x ∷ [])) ≡ or (seek f xs) (f x) → or o (seek f (xs ++ (x ∷ []))) ≡ or (or o (seek f xs)) (f x)
    more none e = e
    more (some b) e = refl

pub each_map : {A : Type 0} {P Q : A → Type 0} → ((a : A) → P a → Q a) → {xs : List A} → Each P xs → Each Q xs
each_map h each_nil = each_nil
each_map h (each_cons {x = x} p r) = each_cons (h x p) (each_map h r)

pub some_map : {A : Type 0} {P Q : A → Type 0} → ((a : A) → P a → Q a) → {xs : List A} → Some P xs → Some Q xs
some_map h (here {x = x} p) = here (h x p)
some_map h (there r) = there (some_map h r)

pub seek_none : {A B : Type 0} (f : A → Option B) {xs : List A} → Each (λ x. f x ≡ none) xs → seek f xs ≡ none
unfolding seek
seek_none f each_nil = refl
seek_none f (each_cons {x = x} {xs = xs} h r) = rw (h, seek_none f r)

-- ---- what a test of a list says of its elements
pub any_each : {A : Type 0} (p : A → Bool) (xs : List A) → T (not (any p xs)) → Each (λ x. T (not (p x))) xs
unfolding any
any_each p [] t = each_nil
any_each p (x ∷ xs) t = each_cons (or_split (p x) (any p xs) t).0 (any_each p xs (or_split (p x) (any p xs) t).1)

pub any_some : {A : Type 0} (p : A → Bool) (xs : List A) → T (any p xs) → Some (λ x. T (p x)) xs
unfolding any
any_some p [] t = absurd t
any_some {A} p (x ∷ xs) t = go (p x) refl t (any_some p xs)
  where
    go : (b : Bool) → p x ≡ b → T (b || any p xs) → (T (any p xs) → Some (λ y. T (p y)) xs) → Some (λ y. T (p y)) (x ∷ xs)
    go true e u r = here {x = x} (rw e tt)
    go false e u r = there (r u)

pub some_any : {A : Type 0} (p : A → Bool) {xs : List A} → Some (λ x. T (p x)) xs → T (any p xs)
unfolding any
some_any p (here {x = x} {xs = xs} h) = rw (is_true (p x) h) tt
some_any p (there {x = x} {xs = xs} r) = go (p x) (some_any p r)
  where
    go : (b : Bool) → T (any p xs) → T (b || any p xs)
    go true u = tt
    go false u = u

-- where each element has Q, one with P has both
pub paired : {A : Type 0} {P Q : A → Type 0} {xs : List A} → Some P xs → Each Q xs → (x : A) × P x × Q x
paired (here {x = x} p) (each_cons q r) = (x, p, q)
paired (there s) (each_cons q r) = paired s r

pub first_none : {A : Type 0} (p : A → Bool) (xs : List A) → first_of p xs ≡ none → Each (λ x. T (not (p x))) xs
unfolding first_of
first_none p [] e = each_nil
first_none {A} p (x ∷ xs) e = go (p x) refl e (first_none p xs)
  where
    go : (b : Bool) → p x ≡ b → cond b (some x) (first_of p xs) ≡ none → (first_of p xs ≡ none → Each (λ y. T (not (p y))) xs) → Each (λ y. T (not (p y))) (x ∷ xs)
    go true e h r = let z : ◌≡◌ {A = ℕ} 0 1 = cc in absurd (omega arith)
    go false e h r = each_cons {x = x} (rw e tt) (r h)

-- ---- a table's places
pub length_tab : {A : Type 0} (n i : ℕ) (f : ℕ → A) → length (tab n i f) ≡ n
unfolding tab
length_tab zero i f = refl
length_tab (suc n) i f = ap suc (length_tab n (suc i) f)

pub get_d_tab : {A : Type 0} (n i : ℕ) (f : ℕ → A) (q : ℕ) (d : A) → q < n → get_or (tab n i f) q d ≡ f (i + q)
unfolding tab
get_d_tab zero i f q d h = absurd (not-suc-le-zero h)
get_d_tab (suc n) i f zero d h = ap f (omega arith)
get_d_tab (suc n) i f (suc q) d h = get_d_tab n (suc i) f q d (le_of_suc-le-suc h) ∙ ap f (omega arith)

pub get_d_tab0 : {A : Type 0} (n : ℕ) (f : ℕ → A) (q : ℕ) (d : A) → q < n → get_or (tab n 0 f) q d ≡ f q
get_d_tab0 n f q d h = get_d_tab n 0 f q d h ∙ ap f (omega arith)

-- ---- the least of n and some numbers
pub least_top : (n : ℕ) (xs : List ℕ) → foldr min n xs ≤ n
least_top n [] = omega arith
least_top n (x ∷ xs) = omega (arith, least_top n xs)

pub least_each : (n : ℕ) (xs : List ℕ) → Each (λ x. foldr min n xs ≤ x) xs
least_each n [] = each_nil
least_each n (x ∷ xs) = each_cons {x = x} (omega arith) (each_map (λ z (h : foldr min n xs ≤ z). omega arith) (least_each n xs))
