-- Rows of 152 winter places by 20 half-hours: what one line stores is read at its place, and nowhere else.
use mathlib.Core.Path.{◌≡◌, refl, ap, ◌∙◌}
use mathlib.Core.Bool.{Bool, true, false, ◌&&◌, cond}
use mathlib.Core.List.{List}
use Prim.Native.Nat.{ℕ, ◌+◌, ◌*◌, ◌/◌, ◌%◌, ◌≤◌, ◌<◌}
use native.Mathlib.Omega.{arith}
use lib.Dec.{T, ltb, ltb→lt, lt→ltb}
use lib.ListN.{length, get_or}
use lib.Seq.{sets}
use Rattle.lists.proofs.Tables.{get_d_sets_same, get_d_sets_other}
use Rattle.lists.proofs.Tests.{is_true, and_parts}
use Rattle.meaning.specs.Blocks.{row_size, slot_at}

-- a look-up that reads only where its test passes
pub where_same : {A : Type 0} (b : Bool) (x y d : A) → (T b → x ≡ y) → cond b x d ≡ cond b y d
where_same true x y d f = f tt
where_same false x y d f = refl

-- a block after a line that stores in it (b) or does not
pub stored_or_not : (b : Bool) (xs ys : List ℕ) (i d : ℕ) → (T b → get_or ys i d ≡ get_or xs i d) → get_or (cond b ys xs) i d ≡ get_or xs i d
stored_or_not true xs ys i d f = f tt
stored_or_not false xs ys i d f = refl

-- a year's test, a winter place and a half-hour
pub record Within (b : Bool) (v h : ℕ) : Type 0 where
  pub year : T b
  pub place : v < 152
  pub half : h < 20

pub within : (b : Bool) (v h : ℕ) → T (b && (ltb v 152 && ltb h 20)) → Within b v h
within b v h t =
    let p = and_parts b (ltb v 152 && ltb h 20) t in
    let q = and_parts (ltb v 152) (ltb h 20) p.1 in
    record { year = p.0; place = ltb→lt v 152 q.0; half = ltb→lt h 20 q.1 }

pub is_within_lem : (b : Bool) (v h : ℕ) → T b → v < 152 → h < 20 → (b && (ltb v 152 && ltb h 20)) ≡ true
is_within_lem b v h t i j = rw (is_true b t, is_true (ltb v 152) (lt→ltb v 152 i), is_true (ltb h 20) (lt→ltb h 20 j))

-- ---- rows
pub row_stored : (xs vs : List ℕ) (r v h d : ℕ) → length vs ≡ 20 → v < 152 → h < 20 → row_size * r + row_size ≤ length xs
    → get_or (sets xs (row_size * r + slot_at v 0) vs) (row_size * r + slot_at v h) d ≡ get_or vs h d
unfolding slot_at
row_stored xs vs r v h d n a b f =
    ap (λ (i : ℕ). get_or (sets xs (row_size * r + slot_at v 0) vs) i d) place
    ∙ get_d_sets_same xs (row_size * r + slot_at v 0) vs h d (omega arith) (omega arith)
  where
    place : row_size * r + slot_at v h ≡ row_size * r + slot_at v 0 + h
    place = omega arith

pub row_kept : (xs vs : List ℕ) (r v q w h d : ℕ) → length vs ≡ 20 → v < 152 → w < 152 → h < 20 → (q ≡ r → w ≡ v → ⊥)
    → get_or (sets xs (row_size * r + slot_at v 0) vs) (row_size * q + slot_at w h) d ≡ get_or xs (row_size * q + slot_at w h) d
unfolding slot_at
row_kept xs vs r v q w h d n a b c f = get_d_sets_other xs (row_size * r + slot_at v 0) vs (row_size * q + slot_at w h) d (λ k l e. f (omega arith) (omega arith))

-- a place's row and winter place
pub record RowOf (r v k : ℕ) : Type 0 where
  pub row : (row_size * r + slot_at v 0 + k) / row_size ≡ r
  pub place : (row_size * r + slot_at v 0 + k) % row_size / 20 ≡ v

pub row_of : (r v k : ℕ) → v < 152 → k < 20 → RowOf r v k
unfolding slot_at
row_of r v k a b = record { row = omega arith; place = omega arith }
