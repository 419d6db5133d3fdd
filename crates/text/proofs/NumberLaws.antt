-- Laws of numbers in a field: of a loop over its bytes, by what is true of those from place i on or up to it, and the definitions in words.
use mathlib.Core.Path.{◌≡◌, refl, ap, ◌∙◌}
use mathlib.Core.Logic.{◌↔◌, ◌⊎◌}
use mathlib.Core.Bool.{Bool, true, false, not, ◌&&◌, ◌||◌}
use mathlib.Core.List.{List, [], ◌∷◌, ◌++◌}
use Prim.Native.Nat.{ℕ, zero, suc, ◌+◌, ◌-◌, ◌*◌, ◌^◌, ◌≤◌, ◌<◌, min}
use native.Mathlib.Numerals.{add-one}
use native.Mathlib.Nat.{pow-suc, pow-le-pow_right}
use native.Mathlib.Omega.{arith}
use lib.Dec.{T, eqb, leb, ltb, eqb→eq, ltb→lt, lt→ltb}
use lib.ListN.{length, take, drop, get_or, drop_of_length-le, length-append, length-take}
use lib.Seq.{drop-cons, take-suc, take_all}
use borrow.Author.Tests.{eqb-true, eqb-false, ne_eqb, eq-eqb}
use Rattle.std.specs.Prelude.{Option, Some, None}
use Rattle.std.specs.Bool.{then_some}
use Rattle.lists.specs.Lists.{any, all, Each}
use Rattle.lists.proofs.Reflect.{of_eq, of_le, of_and, of_or, of_not, of_all}
use Rattle.lists.proofs.Tests.{same, is_true, and_false}
use Rattle.text.specs.Numbers.{is_digit, is_number, value_from, value_of, number_in, most, is_dash}

-- ---- a loop: a test of some byte, and of each
pub any_here : (p : ℕ → Bool) (l : List ℕ) (i : ℕ) → i < length l → p (get_or l i 0) ≡ true → any p (drop i l) ≡ true
unfolding any
any_here p l i h e = rw (drop-cons l i 0 h) (simp e)

pub any_on : (p : ℕ → Bool) (l : List ℕ) (i : ℕ) → i < length l → p (get_or l i 0) ≡ false → any p (drop i l) ≡ any p (drop (i + 1) l)
unfolding any
any_on p l i h e = rw (drop-cons l i 0 h, add-one i) (simp e)

pub any_end : (p : ℕ → Bool) (l : List ℕ) (i : ℕ) → length l ≤ i → any p (drop i l) ≡ false
unfolding any
any_end p l i h = simp (drop_of_length-le l h)

-- ---- a loop: one byte more at the end
all_snoc : (p : ℕ → Bool) (f : List ℕ) (d : ℕ) → all p (f ++ (d ∷ [])) ≡ (p d && all p f)
unfolding all
all_snoc p [] d = refl
all_snoc p (x ∷ f) d = more (p x) (p d) (all_snoc p f d)
  where
    more : (b c : Bool) → all p (f ++ (d ∷ [])) ≡ (c && all p f) → (b && all p (f ++ (d ∷ []))) ≡ (c && (b && all p f))
    more true c e = e
    more false true e = refl
    more false false e = refl

-- one digit more: ten times the number, plus the digit
value_from_snoc : (v : ℕ) (f : List ℕ) (d : ℕ) → value_from v (f ++ (d ∷ [])) ≡ value_from v f * 10 + (d - 48)
unfolding value_from
value_from_snoc v [] d = refl
value_from_snoc v (b ∷ f) d = value_from_snoc (v * 10 + (b - 48)) f d

pub value_snoc : (f : List ℕ) (d : ℕ) → value_of (f ++ (d ∷ [])) ≡ value_of f * 10 + (d - 48)
unfolding value_of
value_snoc f d = value_from_snoc 0 f d

value_grows : (v : ℕ) (l : List ℕ) → v ≤ value_from v l
unfolding value_from
value_grows v [] = omega arith
value_grows v (b ∷ l) = omega (arith, value_grows (v * 10 + (b - 48)) l)

pub of_digit : (b : ℕ) → T (is_digit b) ↔ ((48 ≤ b) × (b ≤ 57))
unfolding is_digit
of_digit b = of_and (leb 48 b) (leb b 57) (of_le 48 b) (of_le b 57)

-- with a digit in front the number is not 0, unless that digit is 0; a 0 alone is 0
front_more : (x : ℕ) (f : List ℕ) → is_digit x ≡ true → eqb x 48 ≡ false → eqb (value_of (x ∷ f)) 0 ≡ false
unfolding value_of value_from
front_more x f d e =
    let lo : 48 ≤ x = ((of_digit x).0 (rw d tt)).0 in
    let ne : x ≡ 48 → ⊥ = eqb-false x 48 e in
    ne_eqb (value_of (x ∷ f)) 0 (λ (z : value_of (x ∷ f) ≡ 0). omega (arith, value_grows (0 * 10 + (x - 48)) f))

front_zero : (x : ℕ) (f : List ℕ) → eqb x 48 ≡ true → eqb (length (x ∷ f)) 1 ≡ true → eqb (value_of (x ∷ f)) 0 ≡ true
unfolding value_of value_from
front_zero x [] e h = rw (eqb-true x 48 e)
front_zero x (y ∷ f) e h = absurd (omega (arith, eqb-true (length (x ∷ y ∷ f)) 1 h))

-- a digit makes a number where it comes first, and after a number other than 0
pub number_snoc : (f : List ℕ) (d : ℕ) → is_number (f ++ (d ∷ [])) ≡ (is_digit d && (eqb (length f) 0 || (not (eqb (value_of f) 0) && is_number f)))
unfolding is_number all
number_snoc [] d = go (is_digit d)
  where
    go : (a : Bool) → ((a && true) && true) ≡ (a && true)
    go true = refl
    go false = refl
number_snoc (x ∷ f) d =
    let n = length f in
    rw (all_snoc is_digit (x ∷ f) d, length-append f (d ∷ []), ne_eqb (suc (n + 1)) 0 (λ (e : suc (n + 1) ≡ 0). omega arith), ne_eqb (suc (n + 1)) 1 (λ (e : suc (n + 1) ≡ 1). omega arith), ne_eqb (suc n) 0 (λ (e : suc n ≡ 0). omega arith))
    (go (is_digit d) (is_digit x) (all is_digit f) (eqb x 48) (eqb (length (x ∷ f)) 1) (eqb (value_of (x ∷ f)) 0) (front_more x f) (front_zero x f))
  where
    go : (a h g z o w : Bool) → (h ≡ true → z ≡ false → w ≡ false) → (z ≡ true → o ≡ true → w ≡ true) → ((a && (h && g)) && not z) ≡ (a && (not w && ((h && g) && (o || not z))))
    go false h g z o w p q = refl
    go true false g z o true p q = refl
    go true false g z o false p q = refl
    go true true false z o true p q = refl
    go true true false z o false p q = refl
    go true true true false true w p q = rw (p refl refl)
    go true true true false false w p q = rw (p refl refl)
    go true true true true true w p q = rw (q refl refl)
    go true true true true false true p q = refl
    go true true true true false false p q = refl

-- ---- the loop over a field: the first i bytes are digits, which make a number below 10^i
pub digit_on : (f : List ℕ) (i : ℕ) → i < length f → all is_digit (take i f) ≡ true → 48 ≤ get_or f i 0 → get_or f i 0 ≤ 57 → all is_digit (take (i + 1) f) ≡ true
digit_on f i h e lo hi = rw (add-one i, take-suc f i 0 h, all_snoc is_digit (take i f) (get_or f i 0), is_true (is_digit (get_or f i 0)) ((of_digit (get_or f i 0)).1 (lo, hi)), e)

pub value_on : (f : List ℕ) (i v w : ℕ) → i < length f → v ≡ value_of (take i f) → w ≡ v * 10 + (get_or f i 0 - 48) → w ≡ value_of (take (i + 1) f)
value_on f i v w h q e = e ∙ rw (add-one i, take-suc f i 0 h, value_snoc (take i f) (get_or f i 0), ← q)

pub tens_on : (v i d : ℕ) → v < 10 ^ i → d ≤ 9 → v * 10 + d < 10 ^ (i + 1)
tens_on v i d h k = rw (add-one i, pow-suc 10 i) (omega arith)

pub tens_few : (v i : ℕ) → v < 10 ^ i → i < 18 → v < 10 ^ 17
tens_few v i h k = let m : 10 ^ i ≤ 10 ^ 17 = pow-le-pow_right {n = 10} (omega arith) {i = i} {j = 17} (omega arith) in omega arith

-- a byte that is no digit
off_digit : (f : List ℕ) (i : ℕ) → i < length f → is_digit (get_or f i 0) ≡ false → all is_digit f ≡ false
unfolding all
off_digit [] i h e = absurd (omega arith)
off_digit (x ∷ f) zero h e = rw e
off_digit (x ∷ f) (suc i) h e = rw (off_digit f i (omega arith) e) (and_false (is_digit x))

no_digits : (f : List ℕ) → all is_digit f ≡ false → None ≡ number_in f
unfolding number_in is_number
no_digits f e = rw e (none (not (eqb (length f) 0)))
  where
    none : (a : Bool) → None ≡ then_some (a && (false && (eqb (length f) 1 || not (eqb (get_or f 0 0) 48)))) (min (value_of f) most)
    none true = refl
    none false = refl

pub stops : (f : List ℕ) (i : ℕ) → i < length f → (48 ≤ get_or f i 0 → get_or f i 0 ≤ 57 → ⊥) → None ≡ number_in f
stops f i h n = no_digits f (off_digit f i h (no_digit (get_or f i 0) n))
  where
    no_digit : (b : ℕ) → (48 ≤ b → b ≤ 57 → ⊥) → is_digit b ≡ false
    no_digit b k = go (is_digit b) refl
      where
        go : (d : Bool) → is_digit b ≡ d → d ≡ false
        go true e = let w = (of_digit b).0 (rw e tt) in absurd (k w.0 w.1)
        go false e = refl

-- no byte, or a 0 in front
pub empty_none : (f : List ℕ) → length f ≡ 0 → None ≡ number_in f
unfolding number_in is_number
empty_none f e = rw (eq-eqb (length f) 0 e)

pub zero_none : (f : List ℕ) → 1 < length f → get_or f 0 0 ≡ 48 → None ≡ number_in f
unfolding number_in is_number
zero_none f h e = rw (ne_eqb (length f) 1 (λ (z : length f ≡ 1). omega arith), eq-eqb (get_or f 0 0) 48 e) (go (not (eqb (length f) 0)) (all is_digit f))
  where
    go : (a b : Bool) → None ≡ then_some (a && (b && (false || false))) (min (value_of f) most)
    go true true = refl
    go true false = refl
    go false b = refl

-- digits only, one of them alone or no 0 in front
formed : (f : List ℕ) → all is_digit f ≡ true → (length f ≡ 0 → ⊥) → (eqb (length f) 1 || not (eqb (get_or f 0 0) 48)) ≡ true → is_number f ≡ true
unfolding is_number
formed f d n q = rw (ne_eqb (length f) 0 n, d, q)

whole : (f : List ℕ) (i v : ℕ) → length f ≤ i → i ≤ 18 → all is_digit (take i f) ≡ true → v ≡ value_of (take i f) → v < 10 ^ i
    → (length f ≡ 0 → ⊥) → (eqb (length f) 1 || not (eqb (get_or f 0 0) 48)) ≡ true → Some v ≡ number_in f
unfolding number_in
whole f i v h few d e b n q =
    let t : take i f ≡ f = take_all i f h in
    let m : 10 ^ i ≤ 10 ^ 18 = pow-le-pow_right {n = 10} (omega arith) {i = i} {j = 18} few in
    let below : v < most = omega arith in
    let same : v ≡ value_of f = rw t at e in
    let capped : min (value_of f) most ≡ v = omega arith in
    rw (formed f (rw t at d) n q, capped)

other_front : (f : List ℕ) → (get_or f 0 0 ≡ 48 → ⊥) → (eqb (length f) 1 || not (eqb (get_or f 0 0) 48)) ≡ true
other_front f z = rw (ne_eqb (get_or f 0 0) 48 z) (go (eqb (length f) 1))
  where
    go : (b : Bool) → (b || true) ≡ true
    go true = refl
    go false = refl

module _ (f : List ℕ) (i v : ℕ) (h : length f ≤ i) (few : i ≤ 18) (d : all is_digit (take i f) ≡ true) (e : v ≡ value_of (take i f)) (b : v < 10 ^ i) where
  pub one_digit : length f ≡ 1 → Some v ≡ number_in f
  one_digit n = whole f i v h few d e b (λ (z : length f ≡ 0). omega arith) (rw (eq-eqb (length f) 1 n))

  pub more_digits : 0 < length f → (get_or f 0 0 ≡ 48 → ⊥) → Some v ≡ number_in f
  more_digits n z = whole f i v h few d e b (λ (y : length f ≡ 0). omega arith) (other_front f z)

-- 19 digits or more make a number of 10^18 or more
value_least : (k v : ℕ) (f : List ℕ) → 10 ^ k ≤ v → 10 ^ (k + length f) ≤ value_from v f
unfolding value_from
value_least k v [] h = let z : k + 0 ≡ k = omega arith in rw z h
value_least k v (b ∷ f) h =
    let ten : 10 ^ suc k ≤ v * 10 + (b - 48) = rw (pow-suc 10 k) (omega arith) in
    let z : k + suc (length f) ≡ suc k + length f = omega arith in
    rw z (value_least (suc k) (v * 10 + (b - 48)) f ten)

long_value : (f : List ℕ) → 18 < length f → all is_digit f ≡ true → (get_or f 0 0 ≡ 48 → ⊥) → most ≤ value_of f
unfolding value_of value_from all
long_value [] h d z = absurd (omega arith)
long_value (x ∷ f) h d z =
    let lo : 48 ≤ x = ((of_digit x).0 (front (is_digit x) refl d)).0 in
    let m : 10 ^ 18 ≤ 10 ^ (0 + length f) = pow-le-pow_right {n = 10} (omega arith) {i = 18} {j = 0 + length f} (omega arith) in
    let ne : x ≡ 48 → ⊥ = z in
    omega (arith, value_least 0 (0 * 10 + (x - 48)) f (omega arith))
  where
    front : (a : Bool) → is_digit x ≡ a → (a && all is_digit f) ≡ true → T (is_digit x)
    front true e q = rw e tt
    front false e q = absurd (cc)

long_some : (f : List ℕ) → 18 < length f → all is_digit f ≡ true → (get_or f 0 0 ≡ 48 → ⊥) → Some most ≡ number_in f
unfolding number_in
long_some f h d z =
    let m : most ≤ value_of f = long_value f h d z in
    let capped : min (value_of f) most ≡ most = omega arith in
    rw (formed f d (λ (y : length f ≡ 0). omega arith) (other_front f z), capped)

pub long_number : (f : List ℕ) (b : Bool) (r : Option ℕ) → 18 < length f → (get_or f 0 0 ≡ 48 → ⊥) → b ≡ all is_digit f → r ≡ then_some b most → r ≡ number_in f
long_number f b r h z d e = go (all is_digit f) refl d
  where
    go : (a : Bool) → all is_digit f ≡ a → b ≡ a → r ≡ number_in f
    go true q p = e ∙ rw p (long_some f h q z)
    go false q p = e ∙ rw p (no_digits f q)

-- what the proof needs where it returns
pub ruleset number_ends = (stops, empty_none, zero_none, one_digit, more_digits, long_number)

-- ---- a capped number under a test
pub ltb_capped : (n v h : ℕ) → h < n → ltb h (min v n) ≡ ltb h v
ltb_capped n v h p = same (ltb h (min v n)) (ltb h v) (λ t. lt→ltb h v (omega (arith, ltb→lt h (min v n) t))) (λ t. lt→ltb h (min v n) (omega (arith, ltb→lt h v t)))

pub eqb_capped : (n v h : ℕ) → h < n → eqb (min v n) h ≡ eqb v h
eqb_capped n v h p = same (eqb (min v n) h) (eqb v h) (λ t. (of_eq v h).1 (omega (arith, eqb→eq (min v n) h t))) (λ t. (of_eq (min v n) h).1 (omega (arith, eqb→eq v h t)))

-- ---- the same loop with the number capped: what the first i bytes are, with one byte more
pub number_on : (s : List ℕ) (i : ℕ) (b c : Bool) (v : ℕ) → i < length s → b ≡ is_number (take i s) → v ≡ min (value_of (take i s)) most
    → c ≡ (is_digit (get_or s i 0) && (eqb i 0 || (not (eqb v 0) && b))) → c ≡ is_number (take (i + 1) s)
number_on s i b c v h p q e =
    let n : length (take i s) ≡ i = simp length-take (omega arith) in
    e ∙ rw (p, q, eqb_capped most (value_of (take i s)) 0 (omega arith), add-one i, take-suc s i 0 h, number_snoc (take i s) (get_or s i 0), n)

pub capped_on : (s : List ℕ) (i v w : ℕ) → i < length s → v ≡ min (value_of (take i s)) most → w ≡ min (v * 10 + (get_or s i 0 - 48)) most → w ≡ min (value_of (take (i + 1) s)) most
capped_on s i v w h q e = e ∙ rw (add-one i, take-suc s i 0 h, value_snoc (take i s) (get_or s i 0)) (omega arith)

-- ---- numbers in words
-- one digit or more, and one alone or no zero in front
pub of_number : (f : List ℕ) → T (is_number f) ↔ ((length f ≡ 0 → ⊥) × (Each (λ b. (48 ≤ b) × (b ≤ 57)) f × ((length f ≡ 1) ⊎ (get_or f 0 0 ≡ 48 → ⊥))))
unfolding is_number
of_number f =
    let some = not (eqb (length f) 0) in
    let alone = eqb (length f) 1 in
    let front = eqb (get_or f 0 0) 48 in
    of_and some (all is_digit f && (alone || not front))
    (of_not (eqb (length f) 0) (of_eq (length f) 0))
    (of_and (all is_digit f) (alone || not front) (of_all is_digit of_digit f) (of_or alone (not front) (of_eq (length f) 1) (of_not front (of_eq (get_or f 0 0) 48))))

pub of_dash : (f : List ℕ) → T (is_dash f) ↔ (f ≡ 45 ∷ [])
unfolding is_dash
of_dash [] = (λ h. absurd h, λ e. let z : ◌≡◌ {A = ℕ} 0 1 = cc in absurd (omega arith))
of_dash (x ∷ []) = (λ h. ap (λ (y : ℕ). y ∷ []) (eqb→eq x 45 h), λ e. let p : x ≡ 45 = cc in rw p tt)
of_dash (x ∷ y ∷ f) = (λ h. let n = suc (suc (length f)) in absurd (omega (arith, ((of_and (eqb n 1) (eqb x 45) (of_eq n 1) (of_eq x 45)).0 h).0)), λ e. let z : ◌≡◌ {A = ℕ} 0 1 = cc in absurd (omega arith))
