-- What chains of iterators and `from_fn` give, in the words of the lists.
use mathlib.Core.Path.{◌≡◌, refl, ap, sym, subst, ◌∙◌}
use mathlib.Core.Bool.{Bool, true, false, ◌&&◌, ◌||◌, cond}
use mathlib.Core.List.{List, [], ◌∷◌, map}
use Prim.Native.Nat.{ℕ, zero, suc, ◌+◌, ◌-◌, ◌<◌, ◌≤◌}
use native.Mathlib.Nat.{not-suc-le-zero, le_of_suc-le-suc, add-zero, zero-add}
use native.Mathlib.Numerals.{add-one}
use native.Mathlib.Omega.{arith}
use lib.ListN.{length, get_or, take, drop, length-drop}
use lib.Seq.{ext_get_or, get_or-drop}
use denote.Param.Members.{Mut}
use Rattle.std.specs.declared.ops.Range.{Range}
use Rattle.std.proofs.iter.Yields.{nat_range_steps}
use Rattle.std.specs.Fn.{Called}
use Rattle.std.specs.Iterator.{ChecksAll, ChecksAny}
use Rattle.std.specs.List.{list_all, list_any, filter, range_with_len, enumerate_from, sum as library_sum}
use Rattle.std.proofs.lemmas.Iterator.{YieldsList-from_range}
use Rattle.std.proofs.lemmas.Iterator.Search.{all_from_yields_List, any_from_yields_List}
use Rattle.std.specs.Array.{IsFromFnResult, IsFromFnResultFrom}
use Rattle.std.proofs.lemmas.List.{length-take-le, get_or-take}
use Rattle.lists.proofs.Laws.{length_tab, get_d_tab, get_d_tab0}
use Rattle.std.proofs.lemmas.List.Sums.{sum_by-cons}
use Rattle.lists.specs.Lists.{any, all, all_at, count, range, sum, tab}
use Rattle.lists.proofs.Blocks.{map_range}

-- ---- the library's words and ours
pub all_listed : {A : Type 0} (p : A → Bool) (xs : List A) → list_all p xs ≡ all p xs
unfolding all
all_listed p [] = refl
all_listed p (x ∷ xs) = ap (λ (b : Bool). p x && b) (all_listed p xs)

pub any_listed : {A : Type 0} (p : A → Bool) (xs : List A) → list_any p xs ≡ any p xs
unfolding any
any_listed p [] = refl
any_listed p (x ∷ xs) = ap (λ (b : Bool). p x || b) (any_listed p xs)

pub count_listed : {A : Type 0} (p : A → Bool) (xs : List A) → length (filter p xs) ≡ count p xs
unfolding count
count_listed p [] = refl
count_listed {A} p (x ∷ xs) = go (p x) (count_listed p xs)
  where
    go : (b : Bool) → length (filter p xs) ≡ count p xs → length (cond b (x ∷ filter p xs) (filter p xs)) ≡ cond b (suc (count p xs)) (count p xs)
    go true e = ap suc e
    go false e = e

pub sum_listed : (xs : List ℕ) → library_sum xs ≡ sum xs
unfolding sum
sum_listed [] = refl
sum_listed (x ∷ xs) = sum_by-cons (λ (n : ℕ). n) x xs ∙ ap (λ (m : ℕ). x + m) (sum_listed xs)

pub range_listed : (i n : ℕ) → range_with_len i n ≡ range i n
unfolding range tab
range_listed i zero = refl
range_listed i (suc n) = rw (add-one i) (ap (λ (l : List ℕ). i ∷ l) (range_listed (suc i) n))

-- the elements from place a to the one before b
pub part_listed : {A : Type 0} (d : A) (xs : List A) (a b : ℕ) → a ≤ b → b ≤ length xs → take (b - a) (drop a xs) ≡ tab (b - a) a (λ p. get_or xs p d)
part_listed d xs a b h l =
    ext_get_or d (take (b - a) (drop a xs)) (tab (b - a) a (λ p. get_or xs p d)) (long ∙ sym (length_tab (b - a) a (λ p. get_or xs p d))) (λ q m. same q (omega (arith, long)))
  where
    long : length (take (b - a) (drop a xs)) ≡ b - a
    long = length-take-le (b - a) (drop a xs) (omega (arith, length-drop a xs))

    same : (q : ℕ) → q < b - a → get_or (take (b - a) (drop a xs)) q d ≡ get_or (tab (b - a) a (λ p. get_or xs p d)) q d
    same q m = get_or-take (b - a) (drop a xs) q d m ∙ get_or-drop a xs q d ∙ sym (get_d_tab (b - a) a (λ p. get_or xs p d) q d m)

-- the first n elements
pub front_listed : {A : Type 0} (d : A) (xs : List A) (n : ℕ) → n ≤ length xs → take n xs ≡ tab n 0 (λ p. get_or xs p d)
front_listed d xs n l =
    let e : n - 0 ≡ n = omega arith in
    ap (λ (k : ℕ). take k xs) (sym e) ∙ part_listed d xs 0 n (omega arith) l ∙ ap (λ (k : ℕ). tab k 0 (λ p. get_or xs p d)) e

-- the sum of a function of the numbers below n
pub sum_below : (f : ℕ → ℕ) (n : ℕ) → library_sum (map f (range_with_len 0 n)) ≡ sum (tab n 0 f)
sum_below f n = sum_listed (map f (range_with_len 0 n)) ∙ ap sum (ap (map f) (range_listed 0 n) ∙ map_range f 0 n)

-- a test of each element and its place
pub all_numbered : {A : Type 0} (p : ℕ → A → Bool) (i : ℕ) (xs : List A) → list_all (λ (y : ℕ × A). p y.0 y.1) (enumerate_from i xs) ≡ all_at p i xs
unfolding all_at
all_numbered p i [] = refl
all_numbered p i (x ∷ xs) = rw (← add-one i) (ap (λ (b : Bool). p i x && b) (all_numbered p (i + 1) xs))

-- ---- tests of the numbers below n
module _ {F : Type 0} {g : Mut F (ℕ × Unit {0}) Bool} {s : Range ℕ} (test : ℕ → Bool) (n : ℕ) (u : Range ℕ) (f : F) (r : Bool) where
  pub all_below : ChecksAll nat_range_steps g s f r u → s ≡ record { start = 0; end = n } → ((x : ℕ) (b : Bool) (q : F) → Called g f (x, tt) b q → (q ≡ f) × (b ≡ test x)) → r ≡ all test (range 0 n)
  all_below ran e h = all_from_yields_List test u f r ran (YieldsList-from_range 0 n n e (omega arith)) h ∙ all_listed test (range_with_len 0 n) ∙ ap (all test) (range_listed 0 n)

  pub any_below : ChecksAny nat_range_steps g s f r u → s ≡ record { start = 0; end = n } → ((x : ℕ) (b : Bool) (q : F) → Called g f (x, tt) b q → (q ≡ f) × (b ≡ test x)) → r ≡ any test (range 0 n)
  any_below ran e h = any_from_yields_List test u f r ran (YieldsList-from_range 0 n n e (omega arith)) h ∙ any_listed test (range_with_len 0 n) ∙ ap (any test) (range_listed 0 n)

-- the same of the numbers from a to the one before b
pub any_between : {F : Type 0} {g : Mut F (ℕ × Unit {0}) Bool} {s : Range ℕ} (test : ℕ → Bool) (a b : ℕ) (u : Range ℕ) (f : F) (r : Bool) → ChecksAny nat_range_steps g s f r u → s ≡ record { start = a; end = b }
    → ((x : ℕ) (b : Bool) (q : F) → Called g f (x, tt) b q → (q ≡ f) × (b ≡ test x)) → r ≡ any test (range a (b - a))
any_between test a b u f r ran e h = any_from_yields_List test u f r ran (YieldsList-from_range a b (b - a) e (omega arith)) h ∙ any_listed test (range_with_len a (b - a)) ∙ ap (any test) (range_listed a (b - a))

-- ---- an array made by a function of the place, where each call leaves the closure as it was
module _ {F A : Type 0} (g : Mut F (ℕ × Unit {0}) A) (h : ℕ → A) (d : A) (ys : List A) where
  each_made : (m i : ℕ) (f : F) → IsFromFnResultFrom g f ys i m → ((x : ℕ) → x < i + m → (r : A) (q : F) → Called g f (x, tt) r q → (q ≡ f) × (r ≡ h x)) → (k : ℕ) → k < m → get_or ys (i + k) d ≡ h (i + k)
  each_made zero i f e t k l = absurd (not-suc-le-zero l)
  each_made (suc m) i f e t zero l = let c = t i (omega arith) _ _ e.3 in rw (add-zero i) (e.2.1 d ∙ c.1)
  each_made (suc m) i f e t (suc k) l =
      let c = t i (omega arith) _ _ e.3 in
      subst (λ (n : ℕ). get_or ys n d ≡ h n) (omega arith)
      (each_made m (i + 1) f (subst (λ (p : F). IsFromFnResultFrom g p ys (i + 1) m) c.0 e.4) (λ x b. t x (omega arith)) k (le_of_suc-le-suc l))

  pub made_by : (n : ℕ) (f : F) → IsFromFnResult g f ys n → ((x : ℕ) → x < n → (r : A) (q : F) → Called g f (x, tt) r q → (q ≡ f) × (r ≡ h x)) → ys ≡ tab n 0 h
  made_by n f e t =
      ext_get_or d ys (tab n 0 h) (e.long ∙ sym (length_tab n 0 h))
      (λ k l. subst (λ (j : ℕ). get_or ys j d ≡ h j) (zero-add k) (each_made n 0 f e.each (λ x b. t x (omega arith)) k (omega (arith, e.long))) ∙ sym (get_d_tab0 n h k d (omega (arith, e.long))))
