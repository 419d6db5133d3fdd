-- Tables by history year.
use mathlib.Core.Path.{◌≡◌, refl, ap, ◌∙◌}
use mathlib.Core.Bool.{Bool, true, false, cond}
use Prim.Native.Nat.{ℕ, ◌≤◌, ◌<◌}
use native.Mathlib.Omega.{arith}
use lib.Dec.{ltb}
use lib.ListN.{get_or, get_or-eq_default}
use borrow.Author.Tests.{lt-ltb, le-ltb, ltb-true, ltb-false}
use Rattle.lists.specs.Lists.{tab}
use Rattle.lists.proofs.Laws.{length_tab, get_d_tab0}
use Rattle.history.specs.Years.{by_history}

module _ {A : Type 0} (z : A) (f : ℕ → A) where
  pub at_year : (n k : ℕ) (d : A) → k < n → n ≤ 10 → get_or (by_history n z f) k d ≡ f k
  unfolding by_history
  at_year n k d h g = get_d_tab0 10 (λ j. cond (ltb j n) (f j) z) k d (omega arith) ∙ ap (λ (b : Bool). cond b (f k) z) (lt-ltb k n h)

  -- a year that the file does not have
  pub past_years : (n k : ℕ) → n ≤ k → get_or (by_history n z f) k z ≡ z
  unfolding by_history
  past_years n k h = go (ltb k 10) refl
    where
      entry : ℕ → A
      entry j = cond (ltb j n) (f j) z

      go : (b : Bool) → ltb k 10 ≡ b → get_or (tab 10 0 entry) k z ≡ z
      go true e = get_d_tab0 10 entry k z (ltb-true k 10 e) ∙ ap (λ (b : Bool). cond b (f k) z) (le-ltb k n h)
      go false e = get_or-eq_default (tab 10 0 entry) z {n = k} (omega (arith, length_tab 10 0 entry, ltb-false k 10 e))
