-- Some interval with a winter day of a valid-index year, year by year or interval by interval.
use mathlib.Core.Path.{◌≡◌, sym, ◌∙◌}
use mathlib.Core.Bool.{Bool, true, false, ◌&&◌}
use mathlib.Core.List.{List}
use Prim.Native.Nat.{ℕ, ◌-◌, ◌<◌}
use native.Mathlib.Omega.{arith}
use lib.Dec.{T}
use lib.ListN.{get_or}
use Rattle.lists.specs.Lists.{any, range}
use Rattle.lists.proofs.Ranges.{some_of_range, range_some}
use Rattle.lists.proofs.Tests.{is_true, same, and_left, and_right, and_made}
use Rattle.validity.specs.Columns.{interval_start, interval_end, year_start, meets_winter}
use Rattle.close_checks.specs.Totals.{some_in, some_winter, is_profiled}

module _ (count : ℕ) (valid : List Bool) (ps : List ℕ) (n : ℕ) (p : ℕ → Bool) where
  abbrev meets : ℕ → ℕ → Bool
  meets k i = meets_winter (year_start k) (interval_start ps i) (interval_end ps i)

  abbrev is_valid : ℕ → Bool
  is_valid k = get_or valid k false

  pub profiled_some : any (λ i. is_profiled count valid ps i && p i) (range 0 (n - 1)) ≡ some_winter count valid ps n p
  unfolding is_profiled some_winter some_in
  profiled_some = same (any (λ i. any (λ k. is_valid k && meets k i) (range 0 count) && p i) (range 0 (n - 1))) (any (λ k. is_valid k && any (λ i. meets k i && p i) (range 0 (n - 1))) (range 0 count)) forth back
    where
      forth : T (any (λ i. any (λ k. is_valid k && meets k i) (range 0 count) && p i) (range 0 (n - 1))) → T (any (λ k. is_valid k && any (λ i. meets k i && p i) (range 0 (n - 1))) (range 0 count))
      forth t =
          let s = some_of_range (λ i. any (λ k. is_valid k && meets k i) (range 0 count) && p i) (n - 1) 0 t in
          let r = some_of_range (λ k. is_valid k && meets k s.0) count 0 (and_left (any (λ k. is_valid k && meets k s.0) (range 0 count)) (p s.0) s.3) in
          range_some (λ k. is_valid k && any (λ i. meets k i && p i) (range 0 (n - 1))) count 0 r.0 r.1 r.2
          (and_made (is_valid r.0) (any (λ i. meets r.0 i && p i) (range 0 (n - 1))) (and_left (is_valid r.0) (meets r.0 s.0) r.3)
          (range_some (λ i. meets r.0 i && p i) (n - 1) 0 s.0 s.1 s.2
          (and_made (meets r.0 s.0) (p s.0) (and_right (is_valid r.0) (meets r.0 s.0) r.3) (and_right (any (λ k. is_valid k && meets k s.0) (range 0 count)) (p s.0) s.3))))

      back : T (any (λ k. is_valid k && any (λ i. meets k i && p i) (range 0 (n - 1))) (range 0 count)) → T (any (λ i. any (λ k. is_valid k && meets k i) (range 0 count) && p i) (range 0 (n - 1)))
      back t =
          let r = some_of_range (λ k. is_valid k && any (λ i. meets k i && p i) (range 0 (n - 1))) count 0 t in
          let s = some_of_range (λ i. meets r.0 i && p i) (n - 1) 0 (and_right (is_valid r.0) (any (λ i. meets r.0 i && p i) (range 0 (n - 1))) r.3) in
          range_some (λ i. any (λ k. is_valid k && meets k i) (range 0 count) && p i) (n - 1) 0 s.0 s.1 s.2
          (and_made (any (λ k. is_valid k && meets k s.0) (range 0 count)) (p s.0)
          (range_some (λ k. is_valid k && meets k s.0) count 0 r.0 r.1 r.2
          (and_made (is_valid r.0) (meets r.0 s.0) (and_left (is_valid r.0) (any (λ i. meets r.0 i && p i) (range 0 (n - 1))) r.3) (and_left (meets r.0 s.0) (p s.0) s.3)))
          (and_right (meets r.0 s.0) (p s.0) s.3))

  -- ---- interval by interval
  abbrev passes : ℕ → Bool
  passes i = is_profiled count valid ps i && p i

  pub some_found : (i : ℕ) → i < n - 1 → is_profiled count valid ps i ≡ true → p i ≡ true → true ≡ some_winter count valid ps n p
  some_found i h e f = sym (is_true (any passes (range 0 (n - 1))) (range_some passes (n - 1) 0 i (omega arith) (omega arith) (rw (e, f) tt))) ∙ profiled_some

  pub none_found : ((i : ℕ) → i < n - 1 → (is_profiled count valid ps i && p i) ≡ false) → false ≡ some_winter count valid ps n p
  none_found f =
      same false (any passes (range 0 (n - 1))) (λ t. absurd t) (λ t. let s = some_of_range passes (n - 1) 0 t in rw (f s.0 (omega (arith, s.2))) at s.3)
      ∙ profiled_some
