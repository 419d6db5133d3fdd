-- T: at most 1000 and at most each rate of a history year, and 1000 or one of them.
use mathlib.Core.Path.{◌≡◌, refl}
use mathlib.Core.Logic.{◌⊎◌, inl, inr}
use mathlib.Core.Bool.{Bool, true, false}
use mathlib.Core.List.{List, [], ◌∷◌, map, foldr}
use mathlib.Core.Option.{Option, some}
use Prim.Native.Nat.{ℕ, ◌≤◌, ◌<◌, min}
use native.Mathlib.Omega.{arith}
use lib.Dec.{leb}
use borrow.Author.Tests.{leb-true, leb-false}
use Rattle.lists.specs.Lists.{present, here, there}
use Rattle.lists.proofs.Laws.{least_top, least_each}
use Rattle.lists.proofs.Sums.{In, each_in, pictured, some_picture, in_present, present_in_lem}
use Rattle.meaning.specs.Filing.{Filing, history_list}
use Rattle.meaning.specs.Points.{applied_rate}
use Rattle.meaning.specs.Level.{lowest_rate}
use Rattle.demands.proofs.Bound.Sane.{Sane}
use Rattle.demands.proofs.Bound.Years.{InHistory, some_year, year_some}

-- ---- the least of m and some numbers

least_one : (m : ℕ) (xs : List ℕ) → (foldr min m xs ≡ m) ⊎ In (foldr min m xs) xs
least_one m [] = inl refl
least_one m (x ∷ xs) = go (leb x (foldr min m xs)) refl (least_one m xs)
  where
    r : ℕ
    r = foldr min m xs

    go : (b : Bool) → leb x r ≡ b → (r ≡ m) ⊎ In r xs → (min x r ≡ m) ⊎ In (min x r) (x ∷ xs)
    go true e k = inr (here {x = x} (omega (arith, leb-true x r e)))
    go false e (inl k) = inl (omega (arith, leb-false x r e))
    go false e (inr k) = let f : r ≡ min x r = omega (arith, leb-false x r e) in inr (there {xs = xs} (rw (← f) k))

-- ---- T
pub lowest_each : (F : Filing) (y r : ℕ) → InHistory F y → applied_rate F y ≡ some r → lowest_rate F ≤ r
unfolding lowest_rate
lowest_each F y r t e =
    let rates = map (applied_rate F) (history_list F) in
    each_in (least_each _ (present rates)) (in_present (some_picture (applied_rate F) (some_year F y t e)))

pub lowest_one : (F : Filing) → (lowest_rate F ≡ 1000) ⊎ ((y : ℕ) × (applied_rate F y ≡ some (lowest_rate F)) × InHistory F y)
unfolding lowest_rate
lowest_one F = go (least_one 1000 (present rates))
  where
    rates : List (Option ℕ)
    rates = map (applied_rate F) (history_list F)

    lowest : ℕ
    lowest = foldr min 1000 (present rates)

    go : (lowest ≡ 1000) ⊎ In lowest (present rates) → (lowest ≡ 1000) ⊎ ((y : ℕ) × (applied_rate F y ≡ some lowest) × InHistory F y)
    go (inl e) = inl e
    go (inr i) = inr (year_some F (pictured (applied_rate F) (history_list F) (present_in_lem rates i)))

pub lowest_top : (F : Filing) → lowest_rate F ≤ 1000
unfolding lowest_rate
lowest_top F = least_top 1000 (present (map (applied_rate F) (history_list F)))

pub lowest_positive : (F : Filing) → Sane F → 0 < lowest_rate F
unfolding applied_rate
lowest_positive F s = go (lowest_one F)
  where
    go : (lowest_rate F ≡ 1000) ⊎ ((y : ℕ) × (F.rate y ≡ some (lowest_rate F)) × InHistory F y) → 0 < lowest_rate F
    go (inl e) = omega arith
    go (inr w) = omega (arith, s.least_rate w.0 (lowest_rate F) w.2 w.1)
