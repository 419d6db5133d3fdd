-- A test with its words, so that a chain of tests need not be written out.
use mathlib.Core.Path.{◌≡◌}
use mathlib.Core.Logic.Iff
use mathlib.Core.Logic.{◌↔◌, ◌⊎◌}
use mathlib.Core.Bool.{Bool, true, false, not, ◌&&◌, ◌||◌}
use Prim.Native.Nat.{ℕ, ◌≤◌, ◌<◌}
use lib.Dec.{T, eqb, leb, ltb}
use Rattle.lists.proofs.Reflect.{of_eq, of_le, of_lt, of_or, of_and, of_not}

pub record Says (b : Bool) (A : Type 0) : Type 0 where
  pub iff : T b ↔ A

pub say : {A : Type 0} (b : Bool) → T b ↔ A → Says b A
say b f = record { iff = f }

-- the same words otherwise
pub reworded : {A B : Type 0} {b : Bool} → Says b A → A ↔ B → Says b B
reworded f g = record { iff = Iff.trans f.iff g }

pub either : {A B : Type 0} {a b : Bool} → Says a A → Says b B → Says (a || b) (A ⊎ B)
either {a = a} {b = b} f g = record { iff = of_or a b f.iff g.iff }

pub both : {A B : Type 0} {a b : Bool} → Says a A → Says b B → Says (a && b) (A × B)
both {a = a} {b = b} f g = record { iff = of_and a b f.iff g.iff }

pub neither : {A : Type 0} {a : Bool} → Says a A → Says (not a) (¬ A)
neither {a = a} f = record { iff = of_not a f.iff }

-- the last of some tests
pub alone : {A : Type 0} {a : Bool} → Says a A → Says (a || false) A
alone {A} {a} f = record { iff = go a f.iff }
  where
    go : (b : Bool) → T b ↔ A → T (b || false) ↔ A
    go true h = h
    go false h = h

pub equal : (m n : ℕ) → Says (eqb m n) (m ≡ n)
equal m n = record { iff = of_eq m n }

pub at_most : (m n : ℕ) → Says (leb m n) (m ≤ n)
at_most m n = record { iff = of_le m n }

pub below : (m n : ℕ) → Says (ltb m n) (m < n)
below m n = record { iff = of_lt m n }
