-- T is 1000 or the rate of a history year, and at most each.
use mathlib.Core.Path.{◌≡◌, refl, ap, ◌∙◌}
use mathlib.Core.Logic.Iff
use mathlib.Core.Logic.{◌↔◌, ◌⊎◌, inl, inr}
use mathlib.Core.Bool.{Bool, true, false}
use mathlib.Core.List.{List, [], ◌∷◌, map, foldr}
use mathlib.Core.Option.{some}
use Prim.Native.Nat.{ℕ, min}
use native.Mathlib.Omega.{arith}
use lib.Dec.{leb}
use borrow.Author.Tests.{leb-true, leb-false}
use Rattle.lists.specs.Lists.{present, Some, here, there}
use Rattle.lists.proofs.Laws.{some_map, paired, least_top, least_each}
use Rattle.lists.proofs.RestatedLists.{map_some, some_present}
use Rattle.meaning.specs.Filing.{Filing, history_list}
use Rattle.meaning.specs.Points.{applied_rate}
use Rattle.meaning.specs.Level.{lowest_rate}
use Rattle.meaning.specs.Restated.Years.{SomeYear}
use Rattle.meaning.specs.Restated.Calls.{LowestWords}
use Rattle.meaning.proofs.Pins.Cases.{some_history}

least_is : (n : ℕ) (xs : List ℕ) → (foldr min n xs ≡ n) ⊎ Some (λ x. x ≡ foldr min n xs) xs
least_is n [] = inl refl
least_is n (x ∷ xs) = go (leb x (foldr min n xs)) refl (least_is n xs)
  where
    go : (b : Bool) → leb x (foldr min n xs) ≡ b → (foldr min n xs ≡ n) ⊎ Some (λ y. y ≡ foldr min n xs) xs
        → (min x (foldr min n xs) ≡ n) ⊎ Some (λ y. y ≡ min x (foldr min n xs)) (x ∷ xs)
    go true e r = inr (here {x = x} (omega (arith, leb-true x (foldr min n xs) e)))
    go false e (inl h) = inl (omega (arith, leb-false x (foldr min n xs) e))
    go false e (inr s) = inr (there (some_map (λ y (h : y ≡ foldr min n xs). omega (arith, leb-false x (foldr min n xs) e)) s))

some_rate : {Q : ℕ → Type 0} (F : Filing) → Some Q (present (map (applied_rate F) (history_list F))) ↔ SomeYear F (λ y. (r : ℕ) × (F.rate y ≡ some r) × Q r)
unfolding applied_rate
some_rate {Q} F = Iff.trans (some_present {P = Q} (map (applied_rate F) (history_list F))) (Iff.trans (map_some (applied_rate F) (history_list F)) (some_history F))

pub lowest_words : LowestWords
unfolding lowest_rate
lowest_words = record {
  reached = λ F. elim (least_is 1000 (present (map (applied_rate F) (history_list F)))) [
    | inl e ↦ inl e
    | inr s ↦ inr (let q = (some_rate {Q = λ x. x ≡ foldr min 1000 (present (map (applied_rate F) (history_list F)))} F).0 s in (q.0, q.1, q.2.1 ∙ ap some q.2.2))
  ];
  most = λ F. least_top 1000 (present (map (applied_rate F) (history_list F)));
  least = λ F y r h e.
      let q = paired ((some_rate {Q = λ x. x ≡ r} F).1 (y, h, (r, e, refl))) (least_each 1000 (present (map (applied_rate F) (history_list F)))) in
      omega (arith, q.1, q.2);
}
