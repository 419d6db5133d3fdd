-- The counted readings in one pass, with the least position and the least index that the reading before allows.
use mathlib.Core.Path.{◌≡◌, refl, ap, sym, ◌∙◌}
use mathlib.Core.Bool.{Bool, true, false, ◌&&◌}
use mathlib.Core.List.{List, [], ◌∷◌}
use Prim.Native.Nat.{ℕ, ◌+◌, ◌-◌, ◌≤◌, ◌<◌}
use native.Mathlib.Omega.{arith}
use lib.Dec.{leb, ltb, leb→le, le→leb, ltb→lt, lt→ltb, leb-zero}
use lib.ListN.{get_or}
use borrow.Author.Tests.{le-leb, lt-leb}
use Rattle.lists.specs.Lists.{all, tab, neighbours}
use Rattle.lists.proofs.AllAt.{stops}
use Rattle.lists.proofs.FilledTables.{tab_on, tab_end}
use Rattle.lists.proofs.Tests.{same, and_false, and_true}
use Rattle.calendar.specs.declared.Years.{Years}
use Rattle.meaning.specs.Filing.{Reading}
use Rattle.meaning.specs.Record.{reading_fits, readings_fit}
use Rattle.readings.specs.Columns.{reading_in, readings_in}

-- the readings fit, the first at position p or later and with an index of at least x
unfoldable pub chain : Years → ℕ → ℕ → List Reading → Bool
chain axis p x [] = true
chain axis p x (r ∷ rs) = (reading_fits axis r && (leb p r.position && leb x r.index)) && chain axis (r.position + 1) r.index rs

-- ---- two passes as one
later : (p q : ℕ) → ltb p q ≡ leb (p + 1) q
later p q = same (ltb p q) (leb (p + 1) q) (λ t. le→leb (p + 1) q (omega (arith, ltb→lt p q t))) (λ t. lt→ltb p q (omega (arith, leb→le (p + 1) q t)))

mixed : (a b c d : Bool) → ((a && b) && (c && d)) ≡ ((a && c) && (b && d))
mixed true true c d = refl
mixed true false true d = refl
mixed true false false d = refl
mixed false b c d = refl

abbrev pub follows : Reading × Reading → Bool
follows p = ltb p.0.position p.1.position && leb p.0.index p.1.index

after : (axis : Years) (z : Reading) (rs : List Reading) → (all (reading_fits axis) rs && all follows (neighbours (z ∷ rs))) ≡ chain axis (z.position + 1) z.index rs
unfolding all neighbours chain
after axis z [] = refl
after axis z (r ∷ rs) =
    mixed (reading_fits axis r) (all (reading_fits axis) rs) (follows (z, r)) (all follows (neighbours (r ∷ rs)))
    ∙ rw (after axis r rs, later z.position r.position) refl

pub readings_chain : (axis : Years) (rs : List Reading) → readings_fit axis rs ≡ chain axis 0 0 rs
unfolding readings_fit all neighbours chain
readings_chain axis [] = refl
readings_chain axis (r ∷ rs) =
    rw (leb-zero r.position, leb-zero r.index, and_true (reading_fits axis r), ← after axis r rs)
    (assoc (reading_fits axis r) (all (reading_fits axis) rs) (all follows (neighbours (r ∷ rs))))
  where
    assoc : (a b c : Bool) → ((a && b) && c) ≡ (a && (b && c))
    assoc true b c = refl
    assoc false b c = refl

-- ---- the rest of the columns
-- the readings from the k-th on
unfoldable pub left : Years → List ℕ → List ℕ → List ℕ → ℕ → ℕ → ℕ → ℕ → Bool
left axis ps xs ks n p x k = chain axis p x (tab (n - k) k (reading_in ps xs ks))

module _ (axis : Years) (ps xs ks : List ℕ) (n : ℕ) where
  pub left_start : readings_fit axis (readings_in ps xs ks n) ≡ left axis ps xs ks n 0 0 0
  unfolding readings_in left
  left_start = let e : n - 0 ≡ n = omega arith in rw e (readings_chain axis (tab n 0 (reading_in ps xs ks)))

  module _ (p x k : ℕ) where
    pub left_end : n ≤ k → left axis ps xs ks n p x k ≡ true
    unfolding left chain
    left_end h = rw (tab_end (reading_in ps xs ks) k n h)

    left_on : k < n → left axis ps xs ks n p x k
        ≡ ((reading_fits axis (reading_in ps xs ks k) && (leb p (get_or ps k 0) && leb x (get_or xs k 0))) && left axis ps xs ks n (get_or ps k 0 + 1) (get_or xs k 0) (k + 1))
    unfolding left chain
    left_on h = rw (tab_on (reading_in ps xs ks) k n h) refl

    pub left_unfit : k < n → reading_fits axis (reading_in ps xs ks k) ≡ false → false ≡ left axis ps xs ks n p x k
    left_unfit h e = stops _ (left_on h) (ap (λ (b : Bool). b && (leb p (get_or ps k 0) && leb x (get_or xs k 0))) e)

    pub left_early : k < n → get_or ps k 0 < p → false ≡ left axis ps xs ks n p x k
    left_early h e = sym (left_on h ∙ rw (lt-leb p (get_or ps k 0) e, and_false) refl)

    pub left_falls : k < n → get_or xs k 0 < x → false ≡ left axis ps xs ks n p x k
    left_falls h e = sym (left_on h ∙ rw (lt-leb x (get_or xs k 0) e, and_false (leb p (get_or ps k 0)), and_false) refl)

    pub left_next : k < n → reading_fits axis (reading_in ps xs ks k) ≡ true → p ≤ get_or ps k 0 → x ≤ get_or xs k 0 → left axis ps xs ks n p x k ≡ left axis ps xs ks n (get_or ps k 0 + 1) (get_or xs k 0) (k + 1)
    left_next h e f g = left_on h ∙ rw (e, le-leb p (get_or ps k 0) f, le-leb x (get_or xs k 0) g) refl
