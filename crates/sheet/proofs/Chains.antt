-- Texts put one after the other are one text put at once.
use mathlib.Core.Path.{◌≡◌, ap, sym, ◌∙◌}
use mathlib.Core.List.{List, [], ◌++◌}
use Prim.Native.Nat.{ℕ, ◌+◌, ◌^◌, ◌≤◌, ◌<◌}
use native.Mathlib.Omega.{arith}
use lib.ListN.{length, length-append, take-append-drop}
use Rattle.text.specs.Written.{written, place_after}
use Rattle.text.proofs.Digits.{digits_length}
use Rattle.text.proofs.Written.{place_fits, length_written, written_fits, written_next, take_written}
use Rattle.meaning.specs.Text.{tabbed}
use Rattle.sheet.specs.declared.Printed.{Printed}
use Rattle.sheet.specs.Adds.{Adds}
use Rattle.sheet.specs.SheetTexts.{Holds}

-- what a call of text gives
pub adds_one : (p q : Printed) (s : List ℕ) → q.length ≡ place_after p.bytes p.length s → q.bytes ≡ written p.bytes p.length s → Adds p q s
adds_one p q s a b = record { added = λ h. (a ∙ place_fits p.bytes p.length s h, b) }

pub adds_none : (p : Printed) → Adds p p []
adds_none p = record { added = λ h. (omega arith, sym (written_fits p.bytes p.length [] h ∙ (let q : p.length + 0 ≡ p.length = omega arith in rw q (take-append-drop p.length p.bytes)))) }

pub adds_then : {p q r : Printed} {s u : List ℕ} → Adds p q s → Adds q r u → Adds p r (s ++ u)
adds_then {p} {q} {r} {s} {u} f n = record {
  added = λ h.
      let k : p.length + length s ≤ length p.bytes = omega (arith, h, length-append s u) in
      let a = f.added k in
      let l : length q.bytes ≡ length p.bytes = ap length a.1 ∙ length_written p.bytes p.length s in
      let b = n.added (omega (arith, h, a.0, l, length-append s u)) in
      (omega (arith, a.0, b.0, length-append s u), b.1 ∙ rw (a.1, a.0 ∙ sym (place_fits p.bytes p.length s k)) (written_next p.bytes p.length s u h));
}

-- what stands at the start
pub adds_first : (p q : Printed) (s : List ℕ) → Adds p q s → p.length ≡ 0 → length s ≤ length p.bytes → Holds q s
adds_first p q s f z h =
    let a = f.added (omega arith) in
    let e : q.length ≡ 0 + length s = omega (arith, a.0) in
    record { length = omega arith; bytes = rw (e, a.1, z) (take_written p.bytes 0 s (omega arith)) }

pub tabbed_length : (n : ℕ) → n < 2 ^ 64 → length (tabbed n) ≤ 21
unfolding tabbed
tabbed_length n h = omega (arith, digits_length n h)
