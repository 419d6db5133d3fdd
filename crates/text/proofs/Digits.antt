-- Laws of the decimal text of a number: it reads back as that number, and it is the only text that does.
use mathlib.Core.Path.{◌≡◌, refl, ap, sym, ◌∙◌}
use mathlib.Core.Logic.{◌⊎◌, inl, inr}
use mathlib.Core.Bool.{Bool, true, false, cond}
use mathlib.Core.List.{List, [], ◌∷◌, ◌++◌, append-nil, append_assoc}
use Prim.Native.Nat.{ℕ, zero, suc, ◌+◌, ◌-◌, ◌*◌, ◌/◌, ◌%◌, ◌^◌, ◌≤◌, ◌<◌}
use native.Mathlib.Nat.{pow-suc}
use native.Mathlib.Omega.{arith}
use lib.Dec.{T, ltb}
use lib.ListN.{length, get_or, length-append, get_or-append}
use borrow.Author.Tests.{lt-ltb, le-ltb, ltb-true, ltb-false}
use Rattle.lists.specs.Lists.{Each, each_nil, each_cons}
use Rattle.lists.proofs.Tables.{each_snoc}
use Rattle.text.specs.Numbers.{is_number, value_from, value_of}
use Rattle.text.proofs.NumberLaws.{value_snoc, of_number}
use Rattle.text.specs.Digits.{digits_within, digits_of}

-- ---- the decimal text of a number, by division by ten
-- more than n divisions change nothing
within_enough : (k j n : ℕ) → n < k → n < j → digits_within k n ≡ digits_within j n
unfolding digits_within
within_enough zero j n h g = absurd (omega arith)
within_enough (suc k) zero n h g = absurd (omega arith)
within_enough (suc k) (suc j) n h g = go (ltb n 10) refl (within_enough k j (n / 10))
  where
    one : List ℕ
    one = (48 + n) ∷ []

    last : List ℕ
    last = (48 + n % 10) ∷ []

    go : (b : Bool) → ltb n 10 ≡ b → (n / 10 < k → n / 10 < j → digits_within k (n / 10) ≡ digits_within j (n / 10)) → cond b one (digits_within k (n / 10) ++ last) ≡ cond b one (digits_within j (n / 10) ++ last)
    go true e r = refl
    go false e r =
        let m : 10 ≤ n = ltb-false n 10 e in
        ap (λ (f : List ℕ). f ++ last) (r (omega arith) (omega arith))

pub digits_one : (n : ℕ) → n < 10 → digits_of n ≡ (48 + n) ∷ []
unfolding digits_of digits_within
digits_one n h = simp (lt-ltb n 10 h)

pub digits_more : (n : ℕ) → 10 ≤ n → digits_of n ≡ digits_of (n / 10) ++ ((48 + n % 10) ∷ [])
unfolding digits_of digits_within
digits_more n h = simp (le-ltb n 10 h) (ap (λ (f : List ℕ). f ++ ((48 + n % 10) ∷ [])) (within_enough n (suc (n / 10)) (n / 10) (omega arith) (omega arith)))

-- what holds of the numbers below ten, and of a number where it holds of its tenth, holds of every number
tens_within : (P : ℕ → Type 0) → ((n : ℕ) → n < 10 → P n) → ((n : ℕ) → 10 ≤ n → P (n / 10) → P n) → (k n : ℕ) → n < k → P n
tens_within P one more zero n h = absurd (omega arith)
tens_within P one more (suc k) n h = go (ltb n 10) refl (tens_within P one more k (n / 10))
  where
    go : (b : Bool) → ltb n 10 ≡ b → (n / 10 < k → P (n / 10)) → P n
    go true e r = one n (ltb-true n 10 e)
    go false e r = let m : 10 ≤ n = ltb-false n 10 e in more n m (r (omega arith))

pub by_tens : (P : ℕ → Type 0) → ((n : ℕ) → n < 10 → P n) → ((n : ℕ) → 10 ≤ n → P (n / 10) → P n) → (n : ℕ) → P n
by_tens P one more n = tens_within P one more (suc n) n (omega arith)

-- ---- what is printed reads back
value_one : (n : ℕ) → value_of ((48 + n) ∷ []) ≡ n
unfolding value_of value_from
value_one n = omega arith

pub value_digits : (n : ℕ) → value_of (digits_of n) ≡ n
value_digits = by_tens (λ n. value_of (digits_of n) ≡ n) (λ n h. rw (digits_one n h) (value_one n)) more
  where
    more : (n : ℕ) → 10 ≤ n → value_of (digits_of (n / 10)) ≡ n / 10 → value_of (digits_of n) ≡ n
    more n h r = ap value_of (digits_more n h) ∙ value_snoc (digits_of (n / 10)) (48 + n % 10) ∙ rw r (omega arith)

pub digits_each : (n : ℕ) → Each (λ b. (48 ≤ b) × (b ≤ 57)) (digits_of n)
digits_each = by_tens (λ n. Each (λ b. (48 ≤ b) × (b ≤ 57)) (digits_of n)) (λ n h. rw (digits_one n h) (each_cons {x = 48 + n} (omega arith) each_nil)) (λ n h r. rw (digits_more n h) (each_snoc {x = 48 + n % 10} r (omega arith)))

pub digits_some : (n : ℕ) → 1 ≤ length (digits_of n)
digits_some = by_tens (λ n. 1 ≤ length (digits_of n)) (λ n h. rw (digits_one n h) (omega arith)) (λ n h r. rw (digits_more n h) (simp length-append (omega arith)))

pub digits_front : (n : ℕ) → 1 ≤ n → 49 ≤ get_or (digits_of n) 0 0
digits_front = by_tens (λ n. 1 ≤ n → 49 ≤ get_or (digits_of n) 0 0) (λ n h p. rw (digits_one n h) (omega arith)) more
  where
    more : (n : ℕ) → 10 ≤ n → (1 ≤ n / 10 → 49 ≤ get_or (digits_of (n / 10)) 0 0) → 1 ≤ n → 49 ≤ get_or (digits_of n) 0 0
    more n h r p = rw (digits_more n h, get_or-append (digits_of (n / 10)) ((48 + n % 10) ∷ []) 0 0 (digits_some (n / 10))) (r (omega arith))

pub number_digits : (n : ℕ) → T (is_number (digits_of n))
number_digits n = (of_number (digits_of n)).1 (λ e. omega (arith, digits_some n), (digits_each n, go (ltb n 10) refl))
  where
    go : (b : Bool) → ltb n 10 ≡ b → (length (digits_of n) ≡ 1) ⊎ (get_or (digits_of n) 0 0 ≡ 48 → ⊥)
    go true e = inl (rw (digits_one n (ltb-true n 10 e)))
    go false e = inr (λ z. let m : 10 ≤ n = ltb-false n 10 e in omega (arith, digits_front n (omega arith)))

-- ---- how many digits
digits_few : (k n : ℕ) → n < 10 ^ suc k → length (digits_of n) ≤ suc k
digits_few zero n h = rw (digits_one n h) (omega arith)
digits_few (suc k) n h = go (ltb n 10) refl (digits_few k (n / 10))
  where
    go : (b : Bool) → ltb n 10 ≡ b → (n / 10 < 10 ^ suc k → length (digits_of (n / 10)) ≤ suc k) → length (digits_of n) ≤ suc (suc k)
    go true e r = rw (digits_one n (ltb-true n 10 e)) (omega arith)
    go false e r = let g : n < 10 ^ suc k * 10 = rw (pow-suc 10 (suc k)) at h in rw (digits_more n (ltb-false n 10 e)) (simp length-append (omega (arith, r (omega arith))))

pub digits_length : (n : ℕ) → n < 2 ^ 64 → length (digits_of n) ≤ 20
digits_length n h = digits_few 19 n (omega arith)

-- ---- a number's text is the only one
snoc_digit : (v b : ℕ) → 1 ≤ v → 48 ≤ b → b ≤ 57 → digits_of (v * 10 + (b - 48)) ≡ digits_of v ++ (b ∷ [])
snoc_digit v b h lo hi =
    let n = v * 10 + (b - 48) in
    let d : n / 10 ≡ v = omega arith in
    let m : 48 + n % 10 ≡ b = omega arith in
    digits_more n (omega arith) ∙ rw (d, m)

printed_from : (v : ℕ) (f : List ℕ) → 1 ≤ v → Each (λ b. (48 ≤ b) × (b ≤ 57)) f → digits_of (value_from v f) ≡ digits_of v ++ f
unfolding value_from
printed_from v [] h each_nil = sym (append-nil (digits_of v))
printed_from v (b ∷ f) h (each_cons d r) =
    printed_from (v * 10 + (b - 48)) f (omega arith) r ∙ ap (λ (g : List ℕ). g ++ f) (snoc_digit v b h d.0 d.1) ∙ append_assoc (digits_of v) (b ∷ []) f

pub number_printed : (f : List ℕ) → T (is_number f) → digits_of (value_of f) ≡ f
unfolding value_of value_from
number_printed [] t = absurd (((of_number []).0 t).0 refl)
number_printed (b ∷ []) t = go ((of_number (b ∷ [])).0 t).1.0
  where
    go : Each (λ d. (48 ≤ d) × (d ≤ 57)) (b ∷ []) → digits_of (0 * 10 + (b - 48)) ≡ b ∷ []
    go (each_cons d r) = digits_one (0 * 10 + (b - 48)) (omega (arith, d)) ∙ ap (λ (x : ℕ). x ∷ []) (omega (arith, d))
number_printed (b ∷ x ∷ f) t = go ((of_number (b ∷ x ∷ f)).0 t).1.0 ((of_number (b ∷ x ∷ f)).0 t).1.1
  where
    go : Each (λ d. (48 ≤ d) × (d ≤ 57)) (b ∷ x ∷ f) → (suc (suc (length f)) ≡ 1) ⊎ (b ≡ 48 → ⊥) → digits_of (value_from (0 * 10 + (b - 48)) (x ∷ f)) ≡ b ∷ x ∷ f
    go ds (inl e) = absurd (omega arith)
    go (each_cons d r) (inr z) =
        let v = 0 * 10 + (b - 48) in
        let one : digits_of v ≡ b ∷ [] = digits_one v (omega (arith, d)) ∙ ap (λ (y : ℕ). y ∷ []) (omega (arith, d)) in
        printed_from v (x ∷ f) (omega (arith, d)) r ∙ rw one
