-- Lists as tables: values stored at places and read back, a test of every place, one more element at the end.
use mathlib.Core.Path.{◌≡◌, refl, ap, sym, ◌∙◌, subst}
use mathlib.Core.Bool.{Bool, true, false, not, ◌||◌, cond}
use mathlib.Core.List.{List, [], ◌∷◌, ◌++◌, map}
use mathlib.Core.Option
use mathlib.Core.Option.{Option, some, none}
use Prim.Native.Nat.{ℕ, zero, suc, ◌+◌, ◌≤◌, ◌<◌}
use native.Mathlib.Nat.{zero-add, add-zero, add-suc, suc-add, le_of_suc-le-suc, not-suc-le-zero}
use native.Mathlib.Omega.{arith}
use lib.Dec.{T}
use lib.ListN.{length, get_or, set, replicate, length-set}
use lib.Seq.{sets, get_or-set_same, get_or-set_other}
use Rattle.lists.specs.Lists.{any, all, or, seek, latest, tab, present, count, all_at, neighbours, Each, each_nil, each_cons, Some, here, there}
use Rattle.lists.proofs.Laws.{any_snoc, or_none, seek_snoc, seek_none}
use Rattle.lists.proofs.Snoc.{count_snoc, all_at_set}
use Rattle.lists.proofs.Tests.{and_parts, and_made}

-- ---- some values stored in a row, and read back
pub get_d_sets_other : {A : Type 0} (xs : List A) (a : ℕ) (vs : List A) (i : ℕ) (d : A) → ((k : ℕ) → k < length vs → i ≡ a + k → ⊥)
    → get_or (sets xs a vs) i d ≡ get_or xs i d
get_d_sets_other xs a [] i d n = refl
get_d_sets_other xs a (v ∷ vs) i d n =
    get_d_sets_other (set xs a v) (suc a) vs i d (λ k h e. n (suc k) (omega arith) (omega arith))
    ∙ get_or-set_other xs a i v d (λ e. n 0 (omega arith) (omega arith))

pub get_d_sets_same : {A : Type 0} (xs : List A) (a : ℕ) (vs : List A) (k : ℕ) (d : A) → k < length vs → a + length vs ≤ length xs
    → get_or (sets xs a vs) (a + k) d ≡ get_or vs k d
get_d_sets_same xs a [] k d h f = absurd (not-suc-le-zero h)
get_d_sets_same xs a (v ∷ vs) zero d h f =
    ap (λ (i : ℕ). get_or (sets (set xs a v) (suc a) vs) i d) (add-zero a)
    ∙ get_d_sets_other (set xs a v) (suc a) vs a d (λ k h e. omega arith)
    ∙ get_or-set_same xs a v d (omega arith)
get_d_sets_same xs a (v ∷ vs) (suc k) d h f =
    ap (λ (i : ℕ). get_or (sets (set xs a v) (suc a) vs) i d) (add-suc a k ∙ sym (suc-add a k))
    ∙ get_d_sets_same (set xs a v) (suc a) vs k d (le_of_suc-le-suc h) (omega (arith, length-set xs a v))

-- ---- a test of every place
pub set_fits : {A : Type 0} (p : ℕ → A → Bool) (xs : List A) (a : ℕ) (v : A) → T (all_at p 0 xs) → T (p a v) → T (all_at p 0 (set xs a v))
set_fits p xs a v t u = all_at_set p 0 xs a v t (λ _. subst (λ (k : ℕ). T (p k v)) (sym (zero-add a)) u)

pub sets_fit : {A : Type 0} (p : ℕ → A → Bool) (xs : List A) (a : ℕ) (vs : List A) (d : A) → T (all_at p 0 xs) → ((k : ℕ) → k < length vs → T (p (a + k) (get_or vs k d)))
    → T (all_at p 0 (sets xs a vs))
sets_fit p xs a [] d t u = t
sets_fit p xs a (v ∷ vs) d t u =
    sets_fit p (set xs a v) (suc a) vs d
    (set_fits p xs a v t (subst (λ (i : ℕ). T (p i v)) (add-zero a) (u 0 (omega arith))))
    (λ k h. subst (λ (i : ℕ). T (p i (get_or vs k d))) (add-suc a k ∙ sym (suc-add a k)) (u (suc k) (omega arith)))

-- the same, where the values are stored (b) or not
pub set_fits_by : {A : Type 0} (b : Bool) (p : ℕ → A → Bool) (xs : List A) (a : ℕ) (v : A) → T (all_at p 0 xs) → (T b → T (p a v)) → T (all_at p 0 (cond b (set xs a v) xs))
set_fits_by true p xs a v t u = set_fits p xs a v t (u tt)
set_fits_by false p xs a v t u = t

pub sets_fit_by : {A : Type 0} (b : Bool) (p : ℕ → A → Bool) (xs : List A) (a : ℕ) (vs : List A) (d : A) → T (all_at p 0 xs)
    → (T b → (k : ℕ) → k < length vs → T (p (a + k) (get_or vs k d))) → T (all_at p 0 (cond b (sets xs a vs) xs))
sets_fit_by true p xs a vs d t u = sets_fit p xs a vs d t (u tt)
sets_fit_by false p xs a vs d t u = t

pub replicate_fits : {A : Type 0} (p : ℕ → A → Bool) (i n : ℕ) (v : A) → ((k : ℕ) → T (p k v)) → T (all_at p i (replicate n v))
unfolding all_at
replicate_fits p i zero v u = tt
replicate_fits p i (suc n) v u = and_made (p i v) (all_at p (suc i) (replicate n v)) (u i) (replicate_fits p (suc i) n v u)

-- a fresh table reads the same at every place
pub get_d_fresh : {A : Type 0} (n q : ℕ) (d : A) → get_or (replicate n d) q d ≡ d
get_d_fresh zero q d = refl
get_d_fresh (suc n) zero d = refl
get_d_fresh (suc n) (suc q) d = get_d_fresh n q d

-- ---- one more place of a table
pub tab_snoc : {A : Type 0} (n i : ℕ) (f : ℕ → A) → tab (suc n) i f ≡ tab n i f ++ (f (i + n) ∷ [])
unfolding tab
tab_snoc {A} zero i f = ap (λ (k : ℕ). f k ∷ []) (sym (add-zero i))
tab_snoc {A} (suc n) i f =
    ap (λ (r : List A). f i ∷ r) (tab_snoc n (suc i) f) ∙ ap (λ (k : ℕ). f i ∷ (tab n (suc i) f ++ (f k ∷ []))) (suc-add i n ∙ sym (add-suc i n))

pub tab_same : {A : Type 0} (n i : ℕ) (f g : ℕ → A) → ((k : ℕ) → k < i + n → f k ≡ g k) → tab n i f ≡ tab n i g
unfolding tab
tab_same zero i f g h = refl
tab_same (suc n) i f g h = rw (h i (omega arith), tab_same n (suc i) f g (λ k l. h k (omega arith)))

-- ---- one more element at the end
pub all_snoc : {A : Type 0} (p : A → Bool) (xs : List A) (x : A) → T (all p xs) → T (p x) → T (all p (xs ++ (x ∷ [])))
unfolding all
all_snoc p [] x t u = and_made (p x) true u tt
all_snoc p (y ∷ xs) x t u =
    let r = and_parts (p y) (all p xs) t in
    and_made (p y) (all p (xs ++ (x ∷ []))) r.0 (all_snoc p xs x r.1 u)

pub each_snoc : {A : Type 0} {P : A → Type 0} {xs : List A} {x : A} → Each P xs → P x → Each P (xs ++ (x ∷ []))
each_snoc {x = x} each_nil p = each_cons {x = x} p each_nil
each_snoc (each_cons {x = y} q r) p = each_cons {x = y} q (each_snoc r p)

pub each_both : {A : Type 0} {P Q : A → Type 0} {xs : List A} → Each P xs → Each Q xs → Each (λ x. P x × Q x) xs
each_both each_nil each_nil = each_nil
each_both (each_cons {x = x} p r) (each_cons q t) = each_cons {x = x} (p, q) (each_both r t)

-- neighbours pass a test where they did, and the last passes it with the new one
pub neighbours_snoc : {A : Type 0} (q : A × A → Bool) (xs : List A) (x : A) → T (all q (neighbours xs)) → ((z : A) → latest some xs ≡ some z → T (q (z, x)))
    → T (all q (neighbours (xs ++ (x ∷ []))))
unfolding neighbours all latest
neighbours_snoc q [] x t u = tt
neighbours_snoc q (y ∷ []) x t u = and_made (q (y, x)) true (u y refl) tt
neighbours_snoc q (y ∷ z ∷ xs) x t u =
    let r = and_parts (q (y, z)) (all q (neighbours (z ∷ xs))) t in
    and_made (q (y, z)) (all q (neighbours ((z ∷ xs) ++ (x ∷ [])))) r.0
    (neighbours_snoc q (z ∷ xs) x r.1 (λ v e. u v (rw e)))

pub present_snoc : {A B : Type 0} (f : A → Option B) (xs : List A) (x : A) → present (map f (xs ++ (x ∷ []))) ≡ present (map f xs) ++ present (f x ∷ [])
unfolding present
present_snoc f [] x = refl
present_snoc {A} {B} f (y ∷ xs) x = more (f y) (present_snoc f xs x)
  where
    more : (o : Option B) → present (map f (xs ++ (x ∷ []))) ≡ present (map f xs) ++ present (f x ∷ [])
        → present (o ∷ map f (xs ++ (x ∷ []))) ≡ present (o ∷ map f xs) ++ present (f x ∷ [])
    more none e = e
    more (some b) e = ap (λ (r : List B). b ∷ r) e

-- ---- the last of the values that are present
pub latest_present : {A B : Type 0} (f : A → Option B) (xs : List A) → latest some (present (map f xs)) ≡ latest f xs
unfolding present latest
latest_present f [] = refl
latest_present {A} {B} f (x ∷ xs) = more (f x) (latest_present f xs)
  where
    more : (o : Option B) → latest some (present (map f xs)) ≡ latest f xs → latest some (present (o ∷ map f xs)) ≡ or (latest f xs) o
    more none e = e ∙ sym (or_none (latest f xs))
    more (some b) e = rw e

-- it is that of some element
pub latest_some : {A B : Type 0} (f : A → Option B) (xs : List A) (b : B) → latest f xs ≡ some b → Some (λ x. f x ≡ some b) xs
unfolding latest
latest_some f [] b e = let z : ◌≡◌ {A = ℕ} 0 1 = cc in absurd (omega arith)
latest_some {A} {B} f (x ∷ xs) b e = go (latest f xs) (latest_some f xs b) e
  where
    go : (o : Option B) → (o ≡ some b → Some (λ y. f y ≡ some b) xs) → or o (f x) ≡ some b → Some (λ y. f y ≡ some b) (x ∷ xs)
    go none r e = here {x = x} e
    go (some c) r e = there (r e)

pub latest_map : {A B R : Type 0} (g : B → R) (f : A → Option B) (xs : List A) → latest (λ x. Option.map g (f x)) xs ≡ Option.map g (latest f xs)
unfolding latest
latest_map g f [] = refl
latest_map {A} {B} {R} g f (x ∷ xs) = rw (latest_map g f xs) (more (latest f xs))
  where
    more : (o : Option B) → or (Option.map g o) (Option.map g (f x)) ≡ Option.map g (or o (f x))
    more none = refl
    more (some b) = refl

-- ---- what is looked up and read by g, when the new element has it (b) and no earlier one does, or when it does not
pub found : {A B R : Type 0} (g : Option B → R) (f : A → Option B) (xs : List A) (x : A) (b : Bool) (v : B) (new old : R) → f x ≡ cond b (some v) none
    → old ≡ g (seek f xs) → (T b → Each (λ y. f y ≡ none) xs) → (T b → new ≡ g (some v)) → (T (not b) → new ≡ old) → new ≡ g (seek f (xs ++ (x ∷ [])))
found {A} {B} {R} g f xs x b v new old e h n s k = go b e n s k ∙ ap g (sym (seek_snoc f xs x))
  where
    go : (b : Bool) → f x ≡ cond b (some v) none → (T b → Each (λ y. f y ≡ none) xs) → (T b → new ≡ g (some v)) → (T (not b) → new ≡ old) → new ≡ g (or (seek f xs) (f x))
    go true e n s k = rw (seek_none f (n tt), e) (s tt)
    go false e n s k = rw (e, or_none (seek f xs)) (k tt ∙ h)

-- whether some element passes, when the new one does, or does not
pub any_held : {A : Type 0} (p : A → Bool) (xs : List A) (x : A) (new old : Bool) → old ≡ any p xs → (T (p x) → new ≡ true) → (T (not (p x)) → new ≡ old)
    → new ≡ any p (xs ++ (x ∷ []))
any_held p xs x new old h s k = go (p x) s k ∙ sym (any_snoc p xs x)
  where
    go : (b : Bool) → (T b → new ≡ true) → (T (not b) → new ≡ old) → new ≡ (any p xs || b)
    go true s k = s tt ∙ sym (all_true (any p xs))
      where
        all_true : (a : Bool) → (a || true) ≡ true
        all_true true = refl
        all_true false = refl
    go false s k = k tt ∙ h ∙ sym (no_more (any p xs))
      where
        no_more : (a : Bool) → (a || false) ≡ a
        no_more true = refl
        no_more false = refl

-- how many pass, one more when the new one does
pub count_held : {A : Type 0} (p : A → Bool) (xs : List A) (x : A) (new old : ℕ) → old ≡ count p xs → (T (p x) → new ≡ old + 1) → (T (not (p x)) → new ≡ old)
    → new ≡ count p (xs ++ (x ∷ []))
count_held p xs x new old h s k = go (p x) s k ∙ sym (count_snoc p xs x)
  where
    go : (b : Bool) → (T b → new ≡ old + 1) → (T (not b) → new ≡ old) → new ≡ cond b (count p xs + 1) (count p xs)
    go true s k = s tt ∙ ap (λ (n : ℕ). n + 1) h
    go false s k = k tt ∙ h
