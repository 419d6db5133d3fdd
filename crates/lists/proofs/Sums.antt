-- Laws of tables, picks, sums and counts: what each or some element of such a list has.
use mathlib.Core.Path.{◌≡◌, refl, ap, sym, subst, ◌∙◌}
use mathlib.Core.Bool.{Bool, true, false, cond}
use mathlib.Core.List.{List, [], ◌∷◌, ◌++◌, map}
use mathlib.Core.Option.{Option, some, none}
use Prim.Native.Nat.{ℕ, zero, suc, ◌+◌, ◌-◌, ◌*◌, ◌≤◌, ◌<◌}
use native.Mathlib.Nat.{add-zero, add-suc, suc-add, le_of_suc-le-suc, not-suc-le-zero}
use native.Mathlib.Omega.{arith}
use lib.Dec.{T}
use lib.ListN.{length}
use Rattle.lists.specs.Lists.{keep, first_of, is_some, flat, tab, range, present, sum, count, Each, each_nil, each_cons, Some, here, there}
use Rattle.lists.proofs.Laws.{paired, some_map}
use Rattle.lists.proofs.Tests.{is_true}

-- ---- an element of a list
abbrev pub In : {A : Type 0} → A → List A → Type 0
In x xs = Some (λ z. z ≡ x) xs

pub each_in : {A : Type 0} {P : A → Type 0} {xs : List A} {x : A} → Each P xs → In x xs → P x
each_in {P = P} r i = let e = paired i r in subst P e.1 e.2

pub some_in_lem : {A : Type 0} {P : A → Type 0} {xs : List A} {x : A} → In x xs → P x → Some P xs
some_in_lem {P = P} i p = some_map (λ z e. subst P (sym e) p) i

-- in a list that is not empty, some element has what all have
pub some_first : {A : Type 0} {P : A → Type 0} (xs : List A) → 0 < length xs → ((x : A) → P x) → Some P xs
some_first [] h p = absurd (not-suc-le-zero h)
some_first (x ∷ xs) h p = here (p x)

-- ---- tables and ranges
pub each_tab : {A : Type 0} {P : A → Type 0} (n i : ℕ) (f : ℕ → A) → ((k : ℕ) → i ≤ k → k < i + n → P (f k)) → Each P (tab n i f)
unfolding tab
each_tab zero i f h = each_nil
each_tab (suc n) i f h = each_cons (h i (omega arith) (omega arith)) (each_tab n (suc i) f (λ k a b. h k (omega arith) (omega arith)))

pub each_range : {P : ℕ → Type 0} (i n : ℕ) → ((k : ℕ) → i ≤ k → k < i + n → P k) → Each P (range i n)
unfolding range
each_range i n h = each_tab n i (λ k. k) h

pub some_tab : {A : Type 0} {P : A → Type 0} (n i : ℕ) (f : ℕ → A) (k : ℕ) → k < n → P (f (i + k)) → Some P (tab n i f)
unfolding tab
some_tab zero i f k h p = absurd (not-suc-le-zero h)
some_tab {P = P} (suc n) i f zero h p = here (rw add-zero at p)
some_tab {P = P} (suc n) i f (suc k) h p = there (some_tab n (suc i) f k (le_of_suc-le-suc h) (subst (λ (m : ℕ). P (f m)) (add-suc i k ∙ sym (suc-add i k)) p))

pub in_range_lem : (i n k : ℕ) → i ≤ k → k < i + n → In k (range i n)
unfolding range
in_range_lem i n k h g = some_tab n i (λ m. m) (k - i) (omega arith) (omega arith)

-- what holds of f at some place holds of some element of the table
pub some_ranged : {A : Type 0} {P : A → Type 0} (n i : ℕ) (f : ℕ → A) → Some (λ k. P (f k)) (range i n) → Some P (tab n i f)
unfolding tab range
some_ranged {A = A} {P = P} zero i f r = elim r [ ]
some_ranged (suc n) i f (here p) = here p
some_ranged (suc n) i f (there r) = there (some_ranged n (suc i) f r)

-- ---- a list that a function is applied to
pub each_picture : {A B : Type 0} {P : B → Type 0} (f : A → B) {xs : List A} → Each (λ x. P (f x)) xs → Each P (map f xs)
each_picture f each_nil = each_nil
each_picture f (each_cons p r) = each_cons p (each_picture f r)

pub some_picture : {A B : Type 0} {P : B → Type 0} (f : A → B) {xs : List A} → Some (λ x. P (f x)) xs → Some P (map f xs)
some_picture f (here p) = here p
some_picture f (there r) = there (some_picture f r)

pub pictured : {A B : Type 0} {P : B → Type 0} (f : A → B) (xs : List A) → Some P (map f xs) → Some (λ x. P (f x)) xs
pictured {A = A} {B = B} {P = P} f [] r = elim r [ ]
pictured f (x ∷ xs) (here p) = here p
pictured f (x ∷ xs) (there r) = there (pictured f xs r)

-- ---- those that pass
pub some_kept : {A : Type 0} {P : A → Type 0} (p : A → Bool) {xs : List A} → Some (λ x. T (p x) × P x) xs → Some P (keep p xs)
unfolding keep
some_kept p (here {x = x} q) = rw (is_true (p x) q.0) (here {x = x} q.1)
some_kept {A} {P} p (there {x = x} {xs = xs} r) = go (p x) (some_kept p r)
  where
    go : (b : Bool) → Some P (keep p xs) → Some P (cond b (x ∷ keep p xs) (keep p xs))
    go true s = there s
    go false s = s

pub in_kept : {A : Type 0} (p : A → Bool) {xs : List A} {x : A} → In x xs → T (p x) → In x (keep p xs)
in_kept p i t = some_kept p (some_map (λ z e. (rw e t, e)) i)

-- the first that passes, where one does
pub first_some : {A : Type 0} (p : A → Bool) {xs : List A} → Some (λ x. T (p x)) xs → (x : A) × (first_of p xs ≡ some x) × T (p x) × In x xs
unfolding first_of
first_some p (here {x = x} q) = (x, rw (is_true (p x) q), q, here refl)
first_some {A} p (there {x = x} {xs = xs} r) = go (p x) refl (first_some p r)
  where
    go : (b : Bool) → p x ≡ b → (z : A) × (first_of p xs ≡ some z) × T (p z) × In z xs
        → (z : A) × (cond b (some x) (first_of p xs) ≡ some z) × T (p z) × In z (x ∷ xs)
    go true e k = (x, refl, rw e tt, here refl)
    go false e k = (k.0, k.1, k.2, there k.3)

-- ---- one list of many
some_left : {A : Type 0} {P : A → Type 0} {xs : List A} (ys : List A) → Some P xs → Some P (xs ++ ys)
some_left ys (here p) = here p
some_left ys (there r) = there (some_left ys r)

some_right : {A : Type 0} {P : A → Type 0} (xs : List A) {ys : List A} → Some P ys → Some P (xs ++ ys)
some_right [] r = r
some_right (x ∷ xs) r = there (some_right xs r)

each_append : {A : Type 0} {P : A → Type 0} {xs ys : List A} → Each P xs → Each P ys → Each P (xs ++ ys)
each_append each_nil s = s
each_append (each_cons p r) s = each_cons p (each_append r s)

pub each_flat : {A : Type 0} {P : A → Type 0} {xss : List (List A)} → Each (λ xs. Each P xs) xss → Each P (flat xss)
unfolding flat
each_flat each_nil = each_nil
each_flat (each_cons p r) = each_append p (each_flat r)

pub some_flat : {A : Type 0} {P : A → Type 0} {xss : List (List A)} → Some (λ xs. Some P xs) xss → Some P (flat xss)
unfolding flat
some_flat (here {xs = xss} p) = some_left (flat xss) p
some_flat (there {x = xs} r) = some_right xs (some_flat r)

-- ---- values that are present
-- where a value is present, it has P
abbrev pub Held : {A : Type 0} → (A → Type 0) → Option A → Type 0
Held P none = Unit {0}
Held P (some x) = P x

pub each_present : {A : Type 0} {P : A → Type 0} {os : List (Option A)} → Each (Held P) os → Each P (present os)
unfolding present
each_present each_nil = each_nil
each_present (each_cons {x = none} p r) = each_present r
each_present (each_cons {x = some x} p r) = each_cons p (each_present r)

pub in_present : {A : Type 0} {x : A} {os : List (Option A)} → In (some x) os → In x (present os)
unfolding present
in_present (here {x = none} p) = let z : ◌≡◌ {A = ℕ} 0 1 = cc in absurd (omega arith)
in_present (here {x = some y} p) = here {x = y} (cc)
in_present (there {x = none} r) = in_present r
in_present (there {x = some y} r) = there (in_present r)

pub present_in_lem : {A : Type 0} {x : A} (os : List (Option A)) → In x (present os) → In (some x) os
unfolding present
present_in_lem {A = A} [] r = elim r [ ]
present_in_lem (none ∷ os) r = there (present_in_lem os r)
present_in_lem (some y ∷ os) (here p) = here {x = some y} (ap some p)
present_in_lem (some y ∷ os) (there r) = there (present_in_lem os r)

pub some_present : {A : Type 0} {os : List (Option A)} → Some (λ o. T (is_some o)) os → 0 < length (present os)
unfolding present
some_present (here {x = none} p) = absurd p
some_present (here {x = some x} p) = omega arith
some_present (there {x = none} r) = some_present r
some_present (there {x = some x} r) = omega arith

-- two lists with values at the same places have as many
more_present : {A B : Type 0} (o : Option A) (p : Option B) (os : List (Option A)) (ps : List (Option B))
    → is_some o ≡ is_some p
    → length (present os) ≡ length (present ps)
    → length (present (o ∷ os)) ≡ length (present (p ∷ ps))
unfolding present
more_present none none os ps e h = h
more_present none (some b) os ps e h = let z : ◌≡◌ {A = ℕ} 0 1 = cc in absurd (omega arith)
more_present (some a) none os ps e h = let z : ◌≡◌ {A = ℕ} 0 1 = cc in absurd (omega arith)
more_present (some a) (some b) os ps e h = ap suc h

pub same_present : {A B C : Type 0} (f : A → Option B) (g : A → Option C) → ((x : A) → is_some (f x) ≡ is_some (g x)) → (xs : List A)
    → length (present (map f xs)) ≡ length (present (map g xs))
unfolding present
same_present f g h [] = refl
same_present f g h (x ∷ xs) = more_present (f x) (g x) (map f xs) (map g xs) (h x) (same_present f g h xs)

-- ---- sums and counts
pub some_counted : {A : Type 0} (p : A → Bool) (xs : List A) → 0 < count p xs → Some (λ x. T (p x)) xs
unfolding count
some_counted p [] h = absurd (not-suc-le-zero h)
some_counted {A} p (x ∷ xs) h = go (p x) refl h (some_counted p xs)
  where
    go : (b : Bool) → p x ≡ b → 0 < cond b (suc (count p xs)) (count p xs) → (0 < count p xs → Some (λ z. T (p z)) xs) → Some (λ z. T (p z)) (x ∷ xs)
    go true e k r = here {x = x} (rw e tt)
    go false e k r = there (r k)

pub some_summed : (xs : List ℕ) → 0 < sum xs → Some (λ x. 0 < x) xs
unfolding sum
some_summed [] h = absurd (not-suc-le-zero h)
some_summed (zero ∷ xs) h = there (some_summed xs (omega arith))
some_summed (suc x ∷ xs) h = here {x = suc x} (omega arith)

pub sum_positive : {xs : List ℕ} → Some (λ x. 0 < x) xs → 0 < sum xs
unfolding sum
sum_positive (here p) = omega arith
sum_positive (there r) = omega (arith, sum_positive r)

-- no more pass than there are
pub count_most : {A : Type 0} (p : A → Bool) (xs : List A) → count p xs ≤ length xs
unfolding count
count_most p [] = omega arith
count_most {A} p (x ∷ xs) = go (p x) (count_most p xs)
  where
    go : (b : Bool) → count p xs ≤ length xs → cond b (suc (count p xs)) (count p xs) ≤ suc (length xs)
    go true h = omega arith
    go false h = omega arith

-- a sum of numbers that are each at most m
pub sum_most : {A : Type 0} (f : A → ℕ) (m : ℕ) → ((x : A) → f x ≤ m) → (xs : List A) → sum (map f xs) ≤ m * length xs
unfolding sum
sum_most f m h [] = omega arith
sum_most f m h (x ∷ xs) = omega (arith, h x, sum_most f m h xs)
