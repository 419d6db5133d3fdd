-- Searches, counts and lists made of lists, each with the words that it decides.
use mathlib.Core.Path.{◌≡◌, refl, ap, sym, ◌∙◌}
use mathlib.Core.Logic.{◌↔◌, ◌⊎◌, inl, inr}
use mathlib.Core.Bool.{Bool, true, false, cond}
use mathlib.Core.List.{List, [], ◌∷◌, ◌++◌, map}
use mathlib.Core.Option.{Option, some, none}
use Prim.Native.Nat.{ℕ, zero, suc, ◌+◌, ◌*◌, ◌≤◌, ◌<◌}
use native.Mathlib.Omega.{arith}
use lib.Dec.{T, eqb}
use lib.ListN.{length, get_or, length-append}
use borrow.Author.Tests.{eqb-true, eqb-false}
use Rattle.lists.specs.Lists.{keep, first_of, or, is_some, seek, latest, flat, tab, range, present, sum, count, neighbours, Each, each_nil, each_cons, Some, here, there}
use Rattle.lists.specs.Restated.{CountIs, count_nil, count_in, count_out, First, first_here, first_later, Last, last_here, last_later, Adjacent, next, further}
use Rattle.lists.proofs.Laws.{each_map, first_none}
use Rattle.lists.proofs.Tests.{both_not, is_true}

-- ---- some and each
pub none_some : {A : Type 0} {P : A → Type 0} → ¬ Some P []
none_some {A} {P} s = absurd (omega (arith, long s))
  where
    long : {xs : List A} → Some P xs → 0 < length xs
    long (here h) = omega arith
    long (there r) = omega arith

pub some_cons : {A : Type 0} {P : A → Type 0} (x : A) (xs : List A) → Some P (x ∷ xs) ↔ (P x ⊎ Some P xs)
some_cons {A} {P} x xs = (taken, λ s. elim s [ inl p ↦ here p | inr r ↦ there r ])
  where
    taken : Some P (x ∷ xs) → P x ⊎ Some P xs
    taken (here p) = inl p
    taken (there r) = inr r

pub each_parts : {A : Type 0} {P : A → Type 0} {x : A} {xs : List A} → Each P (x ∷ xs) → P x × Each P xs
each_parts (each_cons p r) = (p, r)

-- none has it exactly where each does not
pub of_none : {A : Type 0} {P : A → Type 0} (xs : List A) → (¬ Some P xs) ↔ Each (λ x. ¬ P x) xs
of_none [] = (λ n. each_nil, λ e s. none_some s)
of_none {A} {P} (x ∷ xs) = step (of_none {P = P} xs)
  where
    step : (¬ Some P xs) ↔ Each (λ y. ¬ P y) xs → (¬ Some P (x ∷ xs)) ↔ Each (λ y. ¬ P y) (x ∷ xs)
    step r = (
      λ n. each_cons {x = x} (λ p. n (here p)) (r.0 (λ s. n (there s))),
      λ e s. elim ((some_cons x xs).0 s) [ inl p ↦ (each_parts e).0 p | inr t ↦ r.1 (each_parts e).1 t ],
    )

-- ---- the first and the last that pass
refuted : {A : Type 0} {B : Type 0} {b : B} → none ≡ some b → A
refuted {A} {B} {b} e = let z : ◌≡◌ {A = ℕ} 0 1 = cc in absurd (omega arith)

pub of_first_of : {A : Type 0} {P : A → Type 0} (p : A → Bool) → ((x : A) → T (p x) ↔ P x) → (a : A) (xs : List A) → (first_of p xs ≡ some a) ↔ First P a xs
unfolding first_of
of_first_of {A} {P} p f a xs = (found xs, sought)
  where
    found : (xs : List A) → first_of p xs ≡ some a → First P a xs
    found [] e = refuted e
    found (x ∷ xs) e = go (p x) refl e (found xs)
      where
        go : (b : Bool) → p x ≡ b → cond b (some x) (first_of p xs) ≡ some a → (first_of p xs ≡ some a → First P a xs) → First P a (x ∷ xs)
        go true h k r = let z : a ≡ x = cc in rw z (first_here ((f x).0 (rw h tt)))
        go false h k r = first_later (λ q. rw h at ((f x).1 q)) (r k)

    sought : {xs : List A} → First P a xs → first_of p xs ≡ some a
    sought (first_here h) = rw (is_true (p a) ((f a).1 h))
    sought (first_later {x = x} h r) = go (p x) (λ t. h ((f x).0 t)) (sought r)
      where
        go : {o : Option A} (b : Bool) → (T b → ⊥) → o ≡ some a → cond b (some x) o ≡ some a
        go true n k = absurd (n tt)
        go false n k = k

pub first_has : {A : Type 0} {P : A → Type 0} {a : A} {xs : List A} → First P a xs → P a
first_has (first_here h) = h
first_has (first_later n r) = first_has r

pub first_some : {A : Type 0} {P : A → Type 0} {a : A} {xs : List A} → First P a xs → Some P xs
first_some (first_here h) = here h
first_some (first_later n r) = there (first_some r)

pub last_some : {A : Type 0} {P : A → Type 0} {a : A} {xs : List A} → Last P a xs → Some P xs
last_some (last_here h e) = here h
last_some (last_later r) = there (last_some r)

-- what the first that passes says
pub of_seek : {A B : Type 0} {P : A → Type 0} (p : A → Bool) (g : A → B) → ((x : A) → T (p x) ↔ P x) → (b : B) (xs : List A)
    → (seek (λ x. cond (p x) (some (g x)) none) xs ≡ some b) ↔ ((a : A) × First P a xs × (g a ≡ b))
unfolding seek
of_seek {A} {B} {P} p g f b xs = (found xs, λ s. sought s.0 s.2 s.1)
  where
    found : (xs : List A) → seek (λ x. cond (p x) (some (g x)) none) xs ≡ some b → (a : A) × First P a xs × (g a ≡ b)
    found [] e = refuted e
    found (x ∷ xs) e = go (p x) refl e (found xs)
      where
        go : (t : Bool) → p x ≡ t → or (cond t (some (g x)) none) (seek (λ y. cond (p y) (some (g y)) none) xs) ≡ some b
            → (seek (λ y. cond (p y) (some (g y)) none) xs ≡ some b → (a : A) × First P a xs × (g a ≡ b)) → (a : A) × First P a (x ∷ xs) × (g a ≡ b)
        go true h k r = (x, first_here ((f x).0 (rw h tt)), cc)
        go false h k r = let q = r k in (q.0, first_later (λ y. rw h at ((f x).1 y)) q.1, q.2)

    sought : (a : A) → g a ≡ b → {xs : List A} → First P a xs → seek (λ x. cond (p x) (some (g x)) none) xs ≡ some b
    sought a e (first_here h) = rw (is_true (p a) ((f a).1 h)) (ap some e)
    sought a e (first_later {x = x} h r) = go (p x) (λ t. h ((f x).0 t)) (sought a e r)
      where
        go : {o : Option B} (t : Bool) → (T t → ⊥) → o ≡ some b → or (cond t (some (g x)) none) o ≡ some b
        go true n k = absurd (n tt)
        go false n k = k

-- where none passes, none is found
pub seek_empty : {A B : Type 0} (p : A → Bool) (g : A → B) (xs : List A) → (¬ Some (λ x. T (p x)) xs) ↔ (seek (λ x. cond (p x) (some (g x)) none) xs ≡ none)
unfolding seek
seek_empty p g [] = (λ n. refl, λ e s. none_some s)
seek_empty {A} {B} p g (x ∷ xs) = go (p x) refl (seek_empty p g xs)
  where
    go : (t : Bool) → p x ≡ t → (¬ Some (λ y. T (p y)) xs) ↔ (seek (λ y. cond (p y) (some (g y)) none) xs ≡ none)
        → (¬ Some (λ y. T (p y)) (x ∷ xs)) ↔ (or (cond t (some (g x)) none) (seek (λ y. cond (p y) (some (g y)) none) xs) ≡ none)
    go true h r = (λ n. absurd (n (here {x = x} (rw h tt))), λ e. refuted {b = g x} (sym e))
    go false h r = (
      λ n. r.0 (λ s. n (there s)),
      λ e s. elim ((some_cons x xs).0 s) [ inl q ↦ (rw h at q) | inr q ↦ r.1 e q ],
    )

-- what the last that passes says
pub of_latest : {A B : Type 0} {P : A → Type 0} (p : A → Bool) (g : A → B) → ((x : A) → T (p x) ↔ P x) → (b : B) (xs : List A)
    → (latest (λ x. cond (p x) (some (g x)) none) xs ≡ some b) ↔ ((a : A) × Last P a xs × (g a ≡ b))
unfolding latest
of_latest {A} {B} {P} p g f b xs = (found xs, λ s. sought s.0 s.2 s.1)
  where
    look : A → Option B
    look x = cond (p x) (some (g x)) none

    empty : (xs : List A) → latest (λ x. cond (p x) (some (g x)) none) xs ≡ none → Each (λ x. ¬ P x) xs
    empty [] e = each_nil
    empty (x ∷ xs) e = go (latest (λ y. cond (p y) (some (g y)) none) xs) refl e (empty xs)
      where
        one : (t : Bool) → p x ≡ t → cond t (some (g x)) none ≡ none → ¬ P x
        one true h k = refuted {b = g x} (sym k)
        one false h k = λ q. rw h at ((f x).1 q)

        go : (o : Option B) → latest (λ y. cond (p y) (some (g y)) none) xs ≡ o → or o (cond (p x) (some (g x)) none) ≡ none
            → (latest (λ y. cond (p y) (some (g y)) none) xs ≡ none → Each (λ y. ¬ P y) xs) → Each (λ y. ¬ P y) (x ∷ xs)
        go none h k r = each_cons {x = x} (one (p x) refl k) (r h)
        go (some c) h k r = refuted {b = c} (sym k)

    found : (xs : List A) → latest (λ x. cond (p x) (some (g x)) none) xs ≡ some b → (a : A) × Last P a xs × (g a ≡ b)
    found [] e = refuted e
    found (x ∷ xs) e = go (latest (λ y. cond (p y) (some (g y)) none) xs) refl e (found xs)
      where
        one : (t : Bool) → p x ≡ t → Each (λ y. ¬ P y) xs → cond t (some (g x)) none ≡ some b → (a : A) × Last P a (x ∷ xs) × (g a ≡ b)
        one true h n k = (x, last_here ((f x).0 (rw h tt)) n, cc)
        one false h n k = refuted k

        go : (o : Option B) → latest (λ y. cond (p y) (some (g y)) none) xs ≡ o → or o (cond (p x) (some (g x)) none) ≡ some b
            → (latest (λ y. cond (p y) (some (g y)) none) xs ≡ some b → (a : A) × Last P a xs × (g a ≡ b)) → (a : A) × Last P a (x ∷ xs) × (g a ≡ b)
        go none h k r = one (p x) refl (empty xs h) k
        go (some c) h k r = let q = r (h ∙ k) in (q.0, last_later q.1, q.2)

    bare : {xs : List A} → Each (λ x. ¬ P x) xs → latest (λ x. cond (p x) (some (g x)) none) xs ≡ none
    bare each_nil = refl
    bare (each_cons {x = x} h r) = rw (bare r) (go (p x) (λ t. h ((f x).0 t)))
      where
        go : (t : Bool) → (T t → ⊥) → cond {A = Option B} t (some (g x)) none ≡ none
        go true n = absurd (n tt)
        go false n = refl

    sought : (a : A) → g a ≡ b → {xs : List A} → Last P a xs → latest (λ x. cond (p x) (some (g x)) none) xs ≡ some b
    sought a e (last_here h n) = rw (bare n, is_true (p a) ((f a).1 h)) (ap some e)
    sought a e (last_later r) = rw (sought a e r)

-- ---- counts
pub of_count : {A : Type 0} {P : A → Type 0} (p : A → Bool) → ((x : A) → T (p x) ↔ P x) → (xs : List A) (n : ℕ) → (count p xs ≡ n) ↔ CountIs P xs n
unfolding count
of_count {A} {P} p f xs n = (λ e. rw (← e) (counts xs), λ t. only t)
  where
    counts : (xs : List A) → CountIs P xs (count p xs)
    counts [] = count_nil
    counts (x ∷ xs) = go (p x) refl (counts xs)
      where
        go : (b : Bool) → p x ≡ b → CountIs P xs (count p xs) → CountIs P (x ∷ xs) (cond b (suc (count p xs)) (count p xs))
        go true h r = count_in ((f x).0 (rw h tt)) r
        go false h r = count_out (λ q. rw h at ((f x).1 q)) r

    only : {xs : List A} {n : ℕ} → CountIs P xs n → count p xs ≡ n
    only count_nil = refl
    only (count_in {x = x} h r) = rw (is_true (p x) ((f x).1 h)) (ap suc (only r))
    only (count_out {x = x} h r) = go (p x) (λ t. h ((f x).0 t)) (only r)
      where
        go : {m n : ℕ} (b : Bool) → (T b → ⊥) → m ≡ n → cond b (suc m) m ≡ n
        go true k e = absurd (k tt)
        go false k e = e

-- of two tests, the one that passes wherever the other does counts no fewer
pub count_rises : {A : Type 0} (p q : A → Bool) → ((x : A) → T (p x) → T (q x)) → (xs : List A) → count p xs ≤ count q xs
unfolding count
count_rises p q h [] = omega arith
count_rises {A} p q h (x ∷ xs) = go (p x) (q x) (h x) (count_rises p q h xs)
  where
    go : (a b : Bool) → (T a → T b) → count p xs ≤ count q xs → cond a (suc (count p xs)) (count p xs) ≤ cond b (suc (count q xs)) (count q xs)
    go true true k r = omega arith
    go true false k r = absurd (k tt)
    go false true k r = omega arith
    go false false k r = r

-- ---- those that pass
pub some_keep : {A : Type 0} {P : A → Type 0} (p : A → Bool) (xs : List A) → Some P (keep p xs) ↔ Some (λ x. T (p x) × P x) xs
unfolding keep
some_keep p [] = (λ s. absurd (none_some s), λ s. absurd (none_some s))
some_keep {A} {P} p (x ∷ xs) = go (p x) refl (some_keep {P = P} p xs)
  where
    go : (b : Bool) → p x ≡ b → Some P (keep p xs) ↔ Some (λ y. T (p y) × P y) xs → Some P (cond b (x ∷ keep p xs) (keep p xs)) ↔ Some (λ y. T (p y) × P y) (x ∷ xs)
    go true h r = (
      λ s. elim ((some_cons x (keep p xs)).0 s) [ inl q ↦ here {x = x} ((rw h tt), q) | inr t ↦ there (r.0 t) ],
      λ s. elim ((some_cons x xs).0 s) [ inl q ↦ here q.1 | inr t ↦ there (r.1 t) ],
    )
    go false h r = (
      λ s. there (r.0 s),
      λ s. elim ((some_cons x xs).0 s) [ inl q ↦ absurd (rw h at q.0) | inr t ↦ r.1 t ],
    )

pub each_keep : {A : Type 0} {P : A → Type 0} (p : A → Bool) (xs : List A) → Each P (keep p xs) ↔ Each (λ x. T (p x) → P x) xs
unfolding keep
each_keep p [] = (λ e. each_nil, λ e. each_nil)
each_keep {A} {P} p (x ∷ xs) = go (p x) refl (each_keep {P = P} p xs)
  where
    go : (b : Bool) → p x ≡ b → Each P (keep p xs) ↔ Each (λ y. T (p y) → P y) xs → Each P (cond b (x ∷ keep p xs) (keep p xs)) ↔ Each (λ y. T (p y) → P y) (x ∷ xs)
    go true h r = (
      λ e. each_cons {x = x} (λ t. (each_parts e).0) (r.0 (each_parts e).1),
      λ e. each_cons ((each_parts e).0 (rw h tt)) (r.1 (each_parts e).1),
    )
    go false h r = (λ e. each_cons {x = x} (λ t. absurd (rw h at t)) (r.0 e), λ e. r.1 (each_parts e).1)

-- ---- lists made of others
pub map_some : {A B : Type 0} {P : B → Type 0} (f : A → B) (xs : List A) → Some P (map f xs) ↔ Some (λ x. P (f x)) xs
map_some f [] = (λ s. absurd (none_some s), λ s. absurd (none_some s))
map_some {A} {B} {P} f (x ∷ xs) = go (map_some {P = P} f xs)
  where
    go : Some P (map f xs) ↔ Some (λ y. P (f y)) xs → Some P (f x ∷ map f xs) ↔ Some (λ y. P (f y)) (x ∷ xs)
    go r = (
      λ s. elim ((some_cons (f x) (map f xs)).0 s) [ inl q ↦ here {x = x} q | inr t ↦ there (r.0 t) ],
      λ s. elim ((some_cons x xs).0 s) [ inl q ↦ here q | inr t ↦ there (r.1 t) ],
    )

pub map_each : {A B : Type 0} {P : B → Type 0} (f : A → B) (xs : List A) → Each P (map f xs) ↔ Each (λ x. P (f x)) xs
map_each f [] = (λ e. each_nil, λ e. each_nil)
map_each {A} {B} {P} f (x ∷ xs) = go (map_each {P = P} f xs)
  where
    go : Each P (map f xs) ↔ Each (λ y. P (f y)) xs → Each P (f x ∷ map f xs) ↔ Each (λ y. P (f y)) (x ∷ xs)
    go r = (λ e. each_cons {x = x} (each_parts e).0 (r.0 (each_parts e).1), λ e. each_cons (each_parts e).0 (r.1 (each_parts e).1))

pub some_append : {A : Type 0} {P : A → Type 0} (xs ys : List A) → Some P (xs ++ ys) ↔ (Some P xs ⊎ Some P ys)
some_append [] ys = (λ s. inr s, λ s. elim s [ inl q ↦ absurd (none_some q) | inr t ↦ t ])
some_append {A} {P} (x ∷ xs) ys = go (some_append {P = P} xs ys)
  where
    left : Some P (xs ++ ys) ↔ (Some P xs ⊎ Some P ys) → P x ⊎ Some P (xs ++ ys) → Some P (x ∷ xs) ⊎ Some P ys
    left r (inl q) = inl (here q)
    left r (inr t) = elim (r.0 t) [ inl a ↦ inl (there a) | inr b ↦ inr b ]

    right : Some P (xs ++ ys) ↔ (Some P xs ⊎ Some P ys) → Some P (x ∷ xs) ⊎ Some P ys → Some P (x ∷ (xs ++ ys))
    right r (inl (here q)) = here q
    right r (inl (there t)) = there (r.1 (inl t))
    right r (inr t) = there (r.1 (inr t))

    go : Some P (xs ++ ys) ↔ (Some P xs ⊎ Some P ys) → Some P (x ∷ (xs ++ ys)) ↔ (Some P (x ∷ xs) ⊎ Some P ys)
    go r = (λ s. left r ((some_cons x (xs ++ ys)).0 s), right r)

pub some_flat : {A : Type 0} {P : A → Type 0} (xss : List (List A)) → Some P (flat xss) ↔ Some (λ xs. Some P xs) xss
unfolding flat
some_flat [] = (λ s. absurd (none_some s), λ s. absurd (none_some s))
some_flat {A} {P} (xs ∷ xss) = go (some_flat {P = P} xss)
  where
    go : Some P (flat xss) ↔ Some (λ ys. Some P ys) xss → Some P (xs ++ flat xss) ↔ Some (λ ys. Some P ys) (xs ∷ xss)
    go r = (
      λ s. elim ((some_append xs (flat xss)).0 s) [ inl q ↦ here {x = xs} q | inr t ↦ there (r.0 t) ],
      λ s. (some_append xs (flat xss)).1 (elim ((some_cons xs xss).0 s) [ inl q ↦ inl q | inr t ↦ inr (r.1 t) ]),
    )

-- ---- places and numbers in a row
pub some_tab : {A : Type 0} {P : A → Type 0} (n i : ℕ) (f : ℕ → A) → Some P (tab n i f) ↔ ((k : ℕ) × (i ≤ k) × (k < i + n) × P (f k))
unfolding tab
some_tab zero i f = (λ s. absurd (none_some s), λ s. absurd (omega (arith, s.1, s.2)))
some_tab {A} {P} (suc n) i f = go (some_tab {P = P} n (suc i) f)
  where
    at : (k : ℕ) → i ≤ k → k < i + suc n → P (f k) → P (f i) ⊎ ((j : ℕ) × (suc i ≤ j) × (j < suc i + n) × P (f j))
    at k h l q = by (eqb i k) refl
      where
        by : (b : Bool) → eqb i k ≡ b → P (f i) ⊎ ((j : ℕ) × (suc i ≤ j) × (j < suc i + n) × P (f j))
        by true e = inl (let z : i ≡ k = eqb-true i k e in rw z q)
        by false e = inr (k, omega (arith, eqb-false i k e), omega arith, q)

    go : Some P (tab n (suc i) f) ↔ ((k : ℕ) × (suc i ≤ k) × (k < suc i + n) × P (f k)) → Some P (f i ∷ tab n (suc i) f) ↔ ((k : ℕ) × (i ≤ k) × (k < i + suc n) × P (f k))
    go r = (
      λ s. elim ((some_cons (f i) (tab n (suc i) f)).0 s) [ inl q ↦ (i, omega arith, omega arith, q) | inr t ↦ (let u = r.0 t in (u.0, omega arith, omega arith, u.3)) ],
      λ s. elim (at s.0 s.1 s.2 s.3) [ inl q ↦ here q | inr t ↦ there (r.1 t) ],
    )

pub some_range : {P : ℕ → Type 0} (i n : ℕ) → Some P (range i n) ↔ ((k : ℕ) × (i ≤ k) × (k < i + n) × P k)
unfolding range
some_range {P} i n = some_tab {P = P} n i (λ k. k)

-- ---- neighbours
pub some_neighbours : {A : Type 0} {P : A × A → Type 0} (xs : List A) → Some P (neighbours xs) ↔ ((a : A) × (b : A) × Adjacent a b xs × P (a, b))
unfolding neighbours
some_neighbours {A} {P} xs = (found xs, λ s. sought s.3 s.2)
  where
    found : (xs : List A) → Some P (neighbours xs) → (a : A) × (b : A) × Adjacent a b xs × P (a, b)
    found [] s = absurd (none_some s)
    found (x ∷ []) s = absurd (none_some s)
    found (x ∷ y ∷ xs) s = go ((some_cons (x, y) (neighbours (y ∷ xs))).0 s) (found (y ∷ xs))
      where
        go : P (x, y) ⊎ Some P (neighbours (y ∷ xs)) → (Some P (neighbours (y ∷ xs)) → (a : A) × (b : A) × Adjacent a b (y ∷ xs) × P (a, b))
            → (a : A) × (b : A) × Adjacent a b (x ∷ y ∷ xs) × P (a, b)
        go (inl q) r = (x, y, next, q)
        go (inr t) r = let u = r t in (u.0, u.1, further u.2, u.3)

    later : (x : A) (xs : List A) → Some P (neighbours xs) → Some P (neighbours (x ∷ xs))
    later x [] s = absurd (none_some s)
    later x (y ∷ xs) s = there s

    sought : {a b : A} → P (a, b) → {xs : List A} → Adjacent a b xs → Some P (neighbours xs)
    sought q next = here q
    sought q (further {x = x} {xs = xs} r) = later x xs (sought q r)

pub each_neighbours : {A : Type 0} {P : A × A → Type 0} (xs : List A) → Each P (neighbours xs) ↔ ((a b : A) → Adjacent a b xs → P (a, b))
unfolding neighbours
each_neighbours {A} {P} xs = (λ e a b n. sought n e, found xs)
  where
    found : (xs : List A) → ((a b : A) → Adjacent a b xs → P (a, b)) → Each P (neighbours xs)
    found [] f = each_nil
    found (x ∷ []) f = each_nil
    found (x ∷ y ∷ xs) f = each_cons (f x y next) (found (y ∷ xs) (λ a b n. f a b (further n)))

    later : (x : A) (xs : List A) → Each P (neighbours (x ∷ xs)) → Each P (neighbours xs)
    later x [] e = each_nil
    later x (y ∷ xs) e = (each_parts e).1

    sought : {a b : A} {xs : List A} → Adjacent a b xs → Each P (neighbours xs) → P (a, b)
    sought next e = (each_parts e).0
    sought (further {x = x} {xs = xs} r) e = sought r (later x xs e)

-- ---- the first of an order that has it: it has it, and none of those in front of it has
-- y, with those in front of it
pub data Front {A : Type 0} (y : A) : List A → List A → Type 0 where
  front_nil : {ys : List A} → Front y [] (y ∷ ys)
  front_cons : {z : A} {zs ys : List A} → Front y zs ys → Front y (z ∷ zs) (z ∷ ys)

-- where those in front have lower numbers
pub of_order : {A : Type 0} {P : A → Type 0} (p : A → Bool) → ((x : A) → T (p x) ↔ P x) → (number : A → ℕ) {y : A} {zs ys : List A} → Front y zs ys
    → Each (λ z. number z < number y) zs → (first_of p ys ≡ some y) ↔ (P y × Each (λ z. ¬ P z) zs)
unfolding first_of
of_order {A} {P} p f number {y} {zs} {ys} front lower = (λ e. (first_has ((of_first_of p f y ys).0 e), clear front lower e), λ s. found front s.0 s.1)
  where
    clear : {zs ys : List A} → Front y zs ys → Each (λ z. number z < number y) zs → first_of p ys ≡ some y → Each (λ z. ¬ P z) zs
    clear front_nil l e = each_nil
    clear (front_cons {z = z} {zs = zs} {ys = ys} n) l e = go (p z) refl e (λ k. clear n (each_parts l).1 k)
      where
        go : (b : Bool) → p z ≡ b → cond b (some z) (first_of p ys) ≡ some y → (first_of p ys ≡ some y → Each (λ x. ¬ P x) zs) → Each (λ x. ¬ P x) (z ∷ zs)
        go true h k r = let i : z ≡ y = cc in let j : number z ≡ number y = ap number i in absurd (omega (arith, (each_parts l).0))
        go false h k r = each_cons {x = z} (λ q. rw h at ((f z).1 q)) (r k)

    found : {zs ys : List A} → Front y zs ys → P y → Each (λ z. ¬ P z) zs → first_of p ys ≡ some y
    found front_nil q e = rw (is_true (p y) ((f y).1 q))
    found (front_cons {z = z} n) q e = go (p z) (λ t. (each_parts e).0 ((f z).0 t)) (found n q (each_parts e).1)
      where
        go : {o : Option A} (b : Bool) → (T b → ⊥) → o ≡ some y → cond b (some z) o ≡ some y
        go true m k = absurd (m tt)
        go false m k = k

pub of_order_none : {A : Type 0} {P : A → Type 0} (p : A → Bool) → ((x : A) → T (p x) ↔ P x) → (ys : List A) → (first_of p ys ≡ none) ↔ Each (λ z. ¬ P z) ys
unfolding first_of
of_order_none {A} {P} p f ys = (λ e. each_map (λ z t q. both_not (p z) ((f z).1 q) t) (first_none p ys e), bare)
  where
    bare : {ys : List A} → Each (λ z. ¬ P z) ys → first_of p ys ≡ none
    bare each_nil = refl
    bare (each_cons {x = z} h r) = go (p z) (λ t. h ((f z).0 t)) (bare r)
      where
        go : {o : Option A} (b : Bool) → (T b → ⊥) → o ≡ none → cond b (some z) o ≡ none
        go true m k = absurd (m tt)
        go false m k = k

-- ---- counts of lists made of others
pub count_append : {A : Type 0} (p : A → Bool) (xs ys : List A) → count p (xs ++ ys) ≡ count p xs + count p ys
unfolding count
count_append p [] ys = omega arith
count_append {A} p (x ∷ xs) ys = go (p x) (count_append p xs ys)
  where
    go : (b : Bool) → count p (xs ++ ys) ≡ count p xs + count p ys
        → cond b (suc (count p (xs ++ ys))) (count p (xs ++ ys)) ≡ cond b (suc (count p xs)) (count p xs) + count p ys
    go true e = omega arith
    go false e = e

pub count_flat : {A B : Type 0} (p : A → Bool) (f : B → List A) (xs : List B) → count p (flat (map f xs)) ≡ sum (map (λ x. count p (f x)) xs)
unfolding count flat sum
count_flat p f [] = refl
count_flat p f (x ∷ xs) = count_append p (f x) (flat (map f xs)) ∙ ap (λ (n : ℕ). count p (f x) + n) (count_flat p f xs)

pub count_map : {A B : Type 0} (p : B → Bool) (f : A → B) (xs : List A) → count p (map f xs) ≡ count (λ x. p (f x)) xs
unfolding count
count_map p f [] = refl
count_map {A} {B} p f (x ∷ xs) = go (p (f x)) (count_map p f xs)
  where
    go : (b : Bool) → count p (map f xs) ≡ count (λ y. p (f y)) xs → cond b (suc (count p (map f xs))) (count p (map f xs)) ≡ cond b (suc (count (λ y. p (f y)) xs)) (count (λ y. p (f y)) xs)
    go true e = ap suc e
    go false e = e

-- there are as many present values as places that are not empty
pub present_count : {A B : Type 0} (f : A → Option B) (xs : List A) → length (present (map f xs)) ≡ count (λ x. is_some (f x)) xs
unfolding present count
present_count f [] = refl
present_count {A} {B} f (x ∷ xs) = go (f x) (present_count f xs)
  where
    go : (o : Option B) → length (present (map f xs)) ≡ count (λ y. is_some (f y)) xs
        → length (present (o ∷ map f xs)) ≡ cond (is_some o) (suc (count (λ y. is_some (f y)) xs)) (count (λ y. is_some (f y)) xs)
    go none e = e
    go (some v) e = ap suc e

pub sum_same : {A : Type 0} (f g : A → ℕ) (xs : List A) → ((x : A) → f x ≡ g x) → sum (map f xs) ≡ sum (map g xs)
unfolding sum
sum_same f g [] h = refl
sum_same f g (x ∷ xs) h = omega (arith, h x, sum_same f g xs h)

pub sum_rises : {A : Type 0} (f g : A → ℕ) (xs : List A) → ((x : A) → f x ≤ g x) → sum (map f xs) ≤ sum (map g xs)
unfolding sum
sum_rises f g [] h = omega arith
sum_rises f g (x ∷ xs) h = omega (arith, h x, sum_rises f g xs h)

-- a sum of equal numbers
pub sum_constant : {A : Type 0} (n : ℕ) (xs : List A) → sum (map (λ x. n) xs) ≡ n * length xs
unfolding sum
sum_constant n [] = omega arith
sum_constant n (x ∷ xs) = omega (arith, sum_constant n xs)

pub length_flat : {A B : Type 0} (f : B → List A) (xs : List B) → length (flat (map f xs)) ≡ sum (map (λ x. length (f x)) xs)
unfolding flat sum
length_flat f [] = refl
length_flat f (x ∷ xs) = length-append (f x) (flat (map f xs)) ∙ ap (λ (n : ℕ). length (f x) + n) (length_flat f xs)

-- a sum is 0 where each part is
pub sum_zero : (xs : List ℕ) → (sum xs ≡ 0) ↔ Each (λ x. x ≡ 0) xs
unfolding sum
sum_zero [] = (λ e. each_nil, λ e. refl)
sum_zero (x ∷ xs) = go (sum_zero xs)
  where
    go : (sum xs ≡ 0) ↔ Each (λ y. y ≡ 0) xs → (x + sum xs ≡ 0) ↔ Each (λ y. y ≡ 0) (x ∷ xs)
    go r = (λ e. each_cons {x = x} (omega arith) (r.0 (omega arith)), λ e. omega (arith, (each_parts e).0, r.1 (each_parts e).1))

pub each_tab : {A : Type 0} {P : A → Type 0} (n i : ℕ) (f : ℕ → A) → Each P (tab n i f) ↔ ((k : ℕ) → i ≤ k → k < i + n → P (f k))
unfolding tab
each_tab {A} {P} zero i f = (λ e k h l. absurd (omega arith), λ g. each_nil)
each_tab {A} {P} (suc n) i f = go (each_tab {P = P} n (suc i) f)
  where
    at : P (f i) → ((k : ℕ) → suc i ≤ k → k < suc i + n → P (f k)) → (k : ℕ) → i ≤ k → k < i + suc n → P (f k)
    at q r k h l = by (eqb i k) refl
      where
        by : (b : Bool) → eqb i k ≡ b → P (f k)
        by true e = let z : k ≡ i = sym (eqb-true i k e) in rw z q
        by false e = r k (omega (arith, eqb-false i k e)) (omega arith)

    go : Each P (tab n (suc i) f) ↔ ((k : ℕ) → suc i ≤ k → k < suc i + n → P (f k)) → Each P (f i ∷ tab n (suc i) f) ↔ ((k : ℕ) → i ≤ k → k < i + suc n → P (f k))
    go r = (
      λ e. at (each_parts e).0 (r.0 (each_parts e).1),
      λ g. each_cons (g i (omega arith) (omega arith)) (r.1 (λ k h l. g k (omega arith) (omega arith))),
    )

pub each_range : {P : ℕ → Type 0} (i n : ℕ) → Each P (range i n) ↔ ((k : ℕ) → i ≤ k → k < i + n → P k)
unfolding range
each_range {P} i n = each_tab {P = P} n i (λ k. k)

-- ---- the values that are present
pub some_present : {A : Type 0} {P : A → Type 0} (xs : List (Option A)) → Some P (present xs) ↔ Some (λ o. (v : A) × (o ≡ some v) × P v) xs
unfolding present
some_present [] = (λ s. absurd (none_some s), λ s. absurd (none_some s))
some_present {A} {P} (none ∷ xs) = go (some_present {P = P} xs)
  where
    go : Some P (present xs) ↔ Some (λ o. (v : A) × (o ≡ some v) × P v) xs → Some P (present xs) ↔ Some (λ o. (v : A) × (o ≡ some v) × P v) (none ∷ xs)
    go r = (λ s. there (r.0 s), λ s. elim ((some_cons none xs).0 s) [ inl q ↦ refuted q.1 | inr t ↦ r.1 t ])
some_present {A} {P} (some x ∷ xs) = go (some_present {P = P} xs)
  where
    value : (v : A) → some x ≡ some v → P v → P x
    value v e q = let z : x ≡ v = cc in rw z q

    go : Some P (present xs) ↔ Some (λ o. (v : A) × (o ≡ some v) × P v) xs → Some P (x ∷ present xs) ↔ Some (λ o. (v : A) × (o ≡ some v) × P v) (some x ∷ xs)
    go r = (
      λ s. elim ((some_cons x (present xs)).0 s) [ inl q ↦ here {x = some x} (x, refl, q) | inr t ↦ there (r.0 t) ],
      λ s. elim ((some_cons (some x) xs).0 s) [ inl q ↦ here (value q.0 q.1 q.2) | inr t ↦ there (r.1 t) ],
    )

-- ---- the first, where more follow
pub first_append : {A : Type 0} {P : A → Type 0} {a : A} {xs : List A} (ys : List A) → First P a xs → First P a (xs ++ ys)
first_append ys (first_here h) = first_here h
first_append ys (first_later n r) = first_later n (first_append ys r)

pub first_snoc : {A : Type 0} {P : A → Type 0} (a : A) {xs : List A} → Each (λ x. ¬ P x) xs → P a → First P a (xs ++ (a ∷ []))
first_snoc a each_nil h = first_here h
first_snoc a (each_cons n r) h = first_later n (first_snoc a r h)

pub first_with : {A : Type 0} {P Q : A → Type 0} {a : A} {xs : List A} → First P a xs → Q a → Some (λ x. P x × Q x) xs
first_with (first_here h) q = here (h, q)
first_with (first_later n r) q = there (first_with r q)

-- what holds of the element at a place holds of some element
pub some_at : {A : Type 0} {P : A → Type 0} (xs : List A) (j : ℕ) (d : A) → j < length xs → P (get_or xs j d) → Some P xs
some_at [] j d h q = absurd (omega arith)
some_at (x ∷ xs) zero d h q = here q
some_at (x ∷ xs) (suc j) d h q = there (some_at xs j d (omega arith) q)

pub count_none : {A : Type 0} (p : A → Bool) (n i : ℕ) (f : ℕ → A) → ((k : ℕ) → p (f k) ≡ false) → count p (tab n i f) ≡ 0
unfolding tab count
count_none p zero i f h = refl
count_none p (suc n) i f h = rw (h i, count_none p n (suc i) f h)

-- where each element has Q, some with P have both
pub some_each : {A : Type 0} {P Q : A → Type 0} {xs : List A} → Some P xs → Each Q xs → Some (λ x. P x × Q x) xs
some_each (here p) (each_cons q r) = here (p, q)
some_each (there s) (each_cons q r) = there (some_each s r)

-- the values that a test keeps are those of the elements that pass
pub present_keep : {A B : Type 0} (p : A → Bool) (g : A → B) (xs : List A) → present (map (λ x. cond (p x) (some (g x)) none) xs) ≡ map g (keep p xs)
unfolding present keep
present_keep p g [] = refl
present_keep {A} {B} p g (x ∷ xs) = go (p x) (present_keep p g xs)
  where
    go : (b : Bool) → present (map (λ y. cond (p y) (some (g y)) none) xs) ≡ map g (keep p xs)
        → present (cond b (some (g x)) none ∷ map (λ y. cond (p y) (some (g y)) none) xs) ≡ map g (cond b (x ∷ keep p xs) (keep p xs))
    go true e = ap (λ (r : List B). g x ∷ r) e
    go false e = e
