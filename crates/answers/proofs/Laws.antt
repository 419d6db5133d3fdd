-- What follows where none of 1, 13 and 14 holds: sizes and ranges that fit, an open record, and E taken at a close.
use mathlib.Core.Path.{◌≡◌, refl}
use mathlib.Core.Bool.{Bool, true, false, ◌&&◌, cond}
use Prim.Native.Nat.{ℕ}
use lib.Dec.{T, eqb, eqb→eq}
use lib.ListN.{length}
use Rattle.meaning.specs.Record.{State, is_open}
use Rattle.meaning.specs.Blocks.{Blocks, sizes_fit}
use Rattle.std.specs.Prelude.{Result, Ok, Err}
use Rattle.refusals.specs.declared.Refusal.{Refusal}
use Rattle.refusals.specs.declared.Refusal.TheVariants.{Unfit, NotOpen, NoEnd}
use Rattle.answers.specs.Refusals.{lengths_fit, open_refusal, ended_refusal}

-- ---- sizes
pub six : (a b c d e f : Bool) → T (a && (b && (c && (d && (e && f))))) → T a × T b × T c × T d × T e × T f
six false b c d e f t = absurd t
six true false c d e f t = absurd t
six true true false d e f t = absurd t
six true true true false e f t = absurd t
six true true true true false f t = absurd t
six true true true true true false t = absurd t
six true true true true true true t = (tt, tt, tt, tt, tt, tt)

-- the test on lengths is the test on the lists
pub by_lengths : (w : Blocks) → lengths_fit (length w.near) (length w.far) (length w.slots) (length w.daily) (length w.readings) (length w.curve) ≡ sizes_fit w
unfolding lengths_fit sizes_fit
by_lengths w = refl

-- ---- the refusals
-- neither 1 nor 13
pub not_early : (b : Bool) (st : State) {u : Unit {0}} → Ok u ≡ open_refusal b st → (b ≡ true) × (is_open st ≡ true)
unfolding open_refusal
not_early b st {u} q = go b (is_open st) refl q
  where
    go : (b x : Bool) → is_open st ≡ x → ◌≡◌ {A = Result (Unit {0}) Refusal} (Ok u) (cond b (cond x (Ok tt) (Err NotOpen)) (Err Unfit)) → (b ≡ true) × (is_open st ≡ true)
    go true true e z = (refl, e)
    go true false e z = cc
    go false x e z = cc

-- 1 and 13 come before 14
pub refused_early : (b : Bool) (st : State) (last : ℕ) (y : Refusal) → Err y ≡ open_refusal b st → Err y ≡ ended_refusal b st last
unfolding open_refusal ended_refusal
refused_early b st last y q = go b (is_open st) q
  where
    go : (b x : Bool) → ◌≡◌ {A = Result (Unit {0}) Refusal} (Err y) (cond b (cond x (Ok tt) (Err NotOpen)) (Err Unfit))
        → ◌≡◌ {A = Result (Unit {0}) Refusal} (Err y) (cond b (cond x (cond (eqb last 8) (Ok tt) (Err NoEnd)) (Err NotOpen)) (Err Unfit))
    go true true e = cc
    go true false e = e
    go false x e = e

-- neither 1 nor 13 nor 14
pub none_refused : (b : Bool) (st : State) (last : ℕ) {u : Unit {0}} → Ok u ≡ ended_refusal b st last → (b ≡ true) × (is_open st ≡ true) × (last ≡ 8)
unfolding ended_refusal
none_refused b st last {u} q = go b (is_open st) (eqb last 8) refl refl q
  where
    go : (b x y : Bool) → is_open st ≡ x → eqb last 8 ≡ y → ◌≡◌ {A = Result (Unit {0}) Refusal} (Ok u) (cond b (cond x (cond y (Ok tt) (Err NoEnd)) (Err NotOpen)) (Err Unfit)) → (b ≡ true) × (is_open st ≡ true) × (last ≡ 8)
    go true true true e f z = (refl, e, eqb→eq last 8 (rw f tt))
    go true true false e f z = cc
    go true false y e f z = cc
    go false x y e f z = cc
