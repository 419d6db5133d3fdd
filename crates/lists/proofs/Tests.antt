-- Laws of tests: what `and`, `or` and `not` say of their parts.
use mathlib.Core.Path.{◌≡◌, refl, subst}
use mathlib.Core.Logic.{◌⊎◌, inl, inr}
use mathlib.Core.Bool.{Bool, true, false, not, ◌&&◌, ◌||◌, false≢true}
use lib.Dec.{T}

pub passed : (b : Bool) → b ≡ true → T b
passed true e = tt
passed false e = absurd (false≢true e)

pub is_true : (b : Bool) → T b → b ≡ true
is_true true t = refl
is_true false t = absurd t

pub same : (a b : Bool) → (T a → T b) → (T b → T a) → a ≡ b
same true true f g = refl
same true false f g = absurd (f tt)
same false true f g = absurd (g tt)
same false false f g = refl

-- ---- both
pub and_parts : (a b : Bool) → T (a && b) → T a × T b
and_parts true b t = (tt, t)
and_parts false b t = absurd t

pub and_both : (a b : Bool) → (a && b) ≡ true → (a ≡ true) × (b ≡ true)
and_both true b e = (refl, e)
and_both false b e = absurd (false≢true e)

pub and_made : (a b : Bool) → T a → T b → T (a && b)
and_made true b s t = t
and_made false b s t = s

pub and_left : (a b : Bool) → T (a && b) → T a
and_left a b t = (and_parts a b t).0

pub and_right : (a b : Bool) → T (a && b) → T b
and_right a b t = (and_parts a b t).1

pub and_true : (b : Bool) → (b && true) ≡ b
and_true true = refl
and_true false = refl

pub and_false : (b : Bool) → (b && false) ≡ false
and_false true = refl
and_false false = refl

pub and_assoc : (a b c : Bool) → ((a && b) && c) ≡ (a && (b && c))
and_assoc true b c = refl
and_assoc false b c = refl

-- ---- one of two
pub or_left : (a b : Bool) → T a → T (a || b)
or_left true b t = tt
or_left false b t = elim t [ ]

pub or_right : (a b : Bool) → T b → T (a || b)
or_right true b t = tt
or_right false b t = t

pub or_case : (a b : Bool) → T (a || b) → T a ⊎ T b
or_case true b t = inl tt
or_case false b t = inr t

pub or_true : (b : Bool) → (b || true) ≡ true
or_true true = refl
or_true false = refl

pub or_false : (b : Bool) → (b || false) ≡ b
or_false true = refl
or_false false = refl

pub or_absorb : (a b : Bool) → (T a → T b) → (a || b) ≡ b
or_absorb true b f = same true b f (λ _. tt)
or_absorb false b f = refl

pub or_assoc : (a b c : Bool) → ((a || b) || c) ≡ (a || (b || c))
or_assoc true b c = refl
or_assoc false b c = refl

-- neither of two
pub or_parts : (a b : Bool) → (a || b) ≡ false → (a ≡ false) × (b ≡ false)
or_parts false b e = (refl, e)
or_parts true b e = absurd (subst T e tt)

pub or_split : (a b : Bool) → T (not (a || b)) → T (not a) × T (not b)
or_split true b t = absurd t
or_split false b t = (tt, t)

-- ---- not
pub is_false : (b : Bool) → T (not b) → b ≡ false
is_false true t = absurd t
is_false false t = refl

pub not_and : (a b : Bool) → (not a && b) ≡ true → (a ≡ false) × (b ≡ true)
not_and true b h = absurd (false≢true h)
not_and false b h = (refl, h)

pub both_not : (b : Bool) → T b → T (not b) → ⊥
both_not true t n = n
both_not false t n = t

pub not_not : (b : Bool) → T (not (not b)) → T b
not_not true t = tt
not_not false t = t
