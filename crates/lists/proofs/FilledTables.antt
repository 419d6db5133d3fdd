-- Tables: what is left of one from a place on, and one with a place set anew.
use mathlib.Core.Path.{◌≡◌, refl, ap, sym, ◌∙◌}
use mathlib.Core.List.{[], ◌∷◌}
use Prim.Native.Nat.{ℕ, suc, ◌+◌, ◌-◌, ◌≤◌, ◌<◌}
use native.Mathlib.Numerals.{add-one}
use native.Mathlib.Omega.{arith}
use mathlib.Core.Bool.{Bool, true, false}
use lib.Dec.{eqb}
use borrow.Author.Tests.{eqb-true, eqb-false}
use lib.ListN.{get_or, set, length-set}
use lib.Seq.{ext_get_or, get_or-set_same, get_or-set_other}
use Rattle.lists.proofs.Laws.{length_tab, get_d_tab0}
use Rattle.lists.specs.Lists.{tab}

-- ---- what is left of a table of n places from place i on
pub tab_on : {A : Type 0} (f : ℕ → A) (i n : ℕ) → i < n → tab (n - i) i f ≡ f i ∷ tab (n - (i + 1)) (i + 1) f
unfolding tab
tab_on {A} f i n h = go (n - (i + 1)) (omega arith)
  where
    go : (k : ℕ) → n - i ≡ suc k → tab (n - i) i f ≡ f i ∷ tab (n - (i + 1)) (i + 1) f
    go k e = let g : n - (i + 1) ≡ k = omega arith in rw (e, g, add-one i)

pub tab_end : {A : Type 0} (f : ℕ → A) (i n : ℕ) → n ≤ i → tab (n - i) i f ≡ []
unfolding tab
tab_end f i n h = let e : n - i ≡ 0 = omega arith in rw e

-- one place of a table set anew
pub set_tab : {A : Type 0} (n : ℕ) (f g : ℕ → A) (k : ℕ) (v d : A) → k < n → v ≡ g k → ((j : ℕ) → (j ≡ k → ⊥) → f j ≡ g j) → set (tab n 0 f) k v ≡ tab n 0 g
set_tab n f g k v d h e s =
    ext_get_or d (set (tab n 0 f) k v) (tab n 0 g) (length-set (tab n 0 f) k v ∙ length_tab n 0 f ∙ sym (length_tab n 0 g))
    (λ i j. at i (omega (arith, length-set (tab n 0 f) k v, length_tab n 0 f)) (eqb i k) refl)
  where
    at : (i : ℕ) → i < n → (b : Bool) → eqb i k ≡ b → get_or (set (tab n 0 f) k v) i d ≡ get_or (tab n 0 g) i d
    at i j true q =
        let p = eqb-true i k q in
        ap (λ (m : ℕ). get_or (set (tab n 0 f) k v) m d) p ∙ get_or-set_same (tab n 0 f) k v d (omega (arith, length_tab n 0 f)) ∙ e ∙ sym (get_d_tab0 n g k d h)
        ∙ sym (ap (λ (m : ℕ). get_or (tab n 0 g) m d) p)
    at i j false q =
        get_or-set_other (tab n 0 f) k i v d (eqb-false i k q) ∙ get_d_tab0 n f i d j ∙ s i (eqb-false i k q) ∙ sym (get_d_tab0 n g i d j)
