-- The decimal text of a number is what the kit's digits make.
use mathlib.Core.Path.{◌≡◌, ap, sym, ◌∙◌}
use mathlib.Core.List.{List, [], ◌∷◌, ◌++◌}
use Prim.Native.Nat.{ℕ, zero, suc, ◌+◌, ◌-◌, ◌*◌, ◌/◌, ◌%◌, ◌^◌, ◌≤◌, ◌<◌}
use native.Mathlib.Nat.{pow-suc, pow-le-pow_right}
use native.Mathlib.Omega.{arith}
use borrow.Author.Tests.{lt-ltb}
use Rattle.io.specs.Digits.{hex_digit_ascii, last_digits, IsDigitCount}
use Rattle.text.specs.Digits.{digits_of}
use Rattle.text.proofs.Digits.{digits_one, digits_more}

glyph_digit : (n : ℕ) → hex_digit_ascii (n % 10) ≡ 48 + n % 10
glyph_digit n = simp (lt-ltb (n % 10) 10 (omega arith))

pub digits_kit : (r n : ℕ) → IsDigitCount 10 1 n r → last_digits 10 r n ≡ digits_of n
digits_kit zero n f = absurd (omega (arith, f.0))
digits_kit (suc zero) n f = let h : n < 10 = f.1 in let e : n % 10 ≡ n = omega arith in rw (digits_one n h) (ap (λ (d : ℕ). d ∷ []) (glyph_digit n ∙ ap (λ (m : ℕ). 48 + m) e))
digits_kit (suc (suc r)) n f =
    let hi : n < 10 ^ suc r * 10 = rw (pow-suc 10 (suc r)) at f.1 in
    let few : suc (suc r) - 1 ≡ suc r = omega arith in
    let lo : 10 ^ r * 10 ≤ n = rw (few, pow-suc 10 r) at (f.2 (omega arith)) in
    let one : 1 ≤ 10 ^ r = pow-le-pow_right {n = 10} (omega arith) {i = 0} {j = r} (omega arith) in
    let fewer : suc r - 1 ≡ r = omega arith in
    let rest = digits_kit (suc r) (n / 10) (omega arith, omega arith, λ g. rw fewer (omega arith)) in
    ap (λ (g : List ℕ). g ++ (hex_digit_ascii (n % 10) ∷ [])) rest ∙ rw (glyph_digit n) (sym (digits_more n (omega arith)))
