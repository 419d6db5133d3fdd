-- A day's values in a block: a copy into a part of it is a run of stores, and what each code became.
use mathlib.Core.Path.{◌≡◌, sym, ◌∙◌}
use mathlib.Core.List.{List, ◌++◌, map, append_assoc}
use Prim.Native.Nat.{ℕ, ◌+◌, ◌-◌, ◌*◌, ◌≤◌, ◌<◌}
use native.Mathlib.Omega.{arith}
use lib.ListN.{length, take, drop, get_or, length-map, get_or-map}
use lib.Seq.{sets, sets-eq, drop-drop, ext_get_or}
use Rattle.lists.specs.Lists.{tab}
use Rattle.lists.proofs.Laws.{length_tab, get_d_tab0}
use Rattle.meaning.specs.Blocks.{slot_at}

-- 20 values copied to the places from a winter place's first half-hour on
pub day_put : {A : Type 0} (l vs ys : List A) (s w : ℕ) → s + 3040 ≤ length l → w < 152 → length vs ≡ 20 → ys ≡ vs
    → take (s + 20 * w) l ++ (ys ++ drop (s + 20 * w + 20 - (s + 20 * w)) (drop (s + 20 * w) l)) ≡ sets l (s + slot_at w 0) vs
unfolding slot_at
day_put l vs ys s w h k n e =
    let m : s + 20 * w + 20 - (s + 20 * w) ≡ 20 = omega arith in
    let z : s + (20 * w + 0) ≡ s + 20 * w = omega arith in
    rw (e, m, z, sets-eq vs l (s + 20 * w) (omega (arith, n)), n, drop-drop 20 (s + 20 * w) l, append_assoc (take (s + 20 * w) l) vs (drop (s + 20 * w + 20) l))

-- an array made place by place of h of each value is h of the values
pub mapped : {A : Type 0} (d : A) (h : A → ℕ) (xs : List A) (ys : List ℕ) → length xs ≡ 20 → ys ≡ tab 20 0 (λ k. h (get_or xs k d)) → ys ≡ map h xs
mapped d h xs ys n e =
    e ∙ ext_get_or (h d) (tab 20 0 (λ k. h (get_or xs k d))) (map h xs) (length_tab 20 0 (λ k. h (get_or xs k d)) ∙ sym (length-map xs h ∙ n))
    (λ k l. get_d_tab0 20 (λ k. h (get_or xs k d)) k (h d) (omega (arith, l, length_tab 20 0 (λ k. h (get_or xs k d)))) ∙ sym (get_or-map h xs k d))
