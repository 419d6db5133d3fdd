-- An accepted line stores what the words say.
use mathlib.Core.Path.{◌≡◌, refl, ap, sym, subst, ◌∙◌}
use mathlib.Core.Logic.{◌↔◌, ◌⊎◌, inl, inr}
use mathlib.Core.Bool.{Bool, true, false, not, ◌&&◌, cond}
use mathlib.Core.List.{List}
use mathlib.Core.Option.{none}
use Prim.Native.Nat.{ℕ, ◌+◌, ◌-◌, ◌≤◌, ◌<◌}
use native.Mathlib.Omega.{arith}
use lib.Dec.{T, leb, nleb→lt}
use lib.ListN.{get_or}
use lib.Seq.{sets}
use Rattle.lists.specs.Lists.{tab}
use Rattle.lists.proofs.Laws.{length_tab, get_d_tab0}
use Rattle.lists.proofs.Tables.{get_d_sets_same, get_d_sets_other}
use Rattle.lists.proofs.Reflect.{of_and, of_not, of_le}
use Rattle.meaning.specs.Line.{Line, C, X, D, P, is, tag_of, number_at, year_on, value_at, point_of}
use Rattle.meaning.specs.Blocks.{Blocks, missing_point, fresh_reading, code_of_point, is_near, near_start, far_start, slots_start, slot_at}
use Rattle.meaning.specs.Record.{Rec, axis_of_rec}
use Rattle.meaning.specs.Calls.{Out, point_codes, profile_values, position_on, reading_at, blocks_after, line_by}
use Rattle.meaning.specs.Restated.Stores.{Put, Stores, StoreWords}
use Rattle.meaning.proofs.Pins.Tables.{of_is}
use Rattle.meaning.proofs.Pins.Calls.{line_is}

put : {A c : Type 0} (b : Bool) → T b ↔ c → (d : A) (q p n : ℕ) (f : ℕ → A) (xs : List A) → q ≡ p → Put c d p n f xs (cond b (sets xs q (tab n 0 f)) xs)
put {A} {c} true w d q p n f xs e = record {
  there = λ k h l m. ap (λ (i : ℕ). get_or (sets xs q (tab n 0 f)) (i + h) d) (sym e)
      ∙ get_d_sets_same xs q (tab n 0 f) h d (omega (arith, length_tab n 0 f)) (omega (arith, length_tab n 0 f)) ∙ get_d_tab0 n f h d l;
  elsewhere = λ i g. get_d_sets_other xs q (tab n 0 f) i d (λ k l m. apart i k (g (w.0 tt)) (omega (arith, length_tab n 0 f)) (omega arith));
}
  where
    apart : (i k : ℕ) → (i < p) ⊎ (p + n ≤ i) → k < n → i ≡ p + k → ⊥
    apart i k (inl a) l m = omega arith
    apart i k (inr a) l m = omega arith
put false w d q p n f xs e = record { there = λ k. absurd (w.1 k); elsewhere = λ i g. refl }

-- ---- a near year, and one that is not
near_year : (al y : ℕ) → T (is_near al y) ↔ (al - 9 ≤ y)
unfolding is_near
near_year al y = of_le (al - 9) y

far_year : (al y : ℕ) → T (not (is_near al y)) ↔ (y < al - 9)
unfolding is_near
far_year al y = (nleb→lt (al - 9) y, λ k. (of_not (leb (al - 9) y) (of_le (al - 9) y)).1 (λ n. omega arith))

stores : (l : Line) (s : Rec) (w : Blocks) → Stores l s w (line_by none s l w).blocks
unfolding line_by blocks_after point_codes profile_values position_on reading_at near_start far_start slots_start slot_at tab
stores l s w = record {
  near =
      put (is C (tag_of l) && is_near s.site.al (year_on l)) (of_and (is C (tag_of l)) _ (of_is C (tag_of l)) (near_year s.site.al (year_on l))) missing_point _ _ 20
      (λ h. code_of_point (point_of l h)) w.near (omega arith);
  far =
      put (is C (tag_of l) && not (is_near s.site.al (year_on l))) (of_and (is C (tag_of l)) _ (of_is C (tag_of l)) (far_year s.site.al (year_on l))) missing_point _ _ 20
      (λ h. code_of_point (point_of l h)) w.far (omega arith);
  slots = put (is P (tag_of l)) (of_is P (tag_of l)) 0 _ _ 20 (value_at l) w.slots (omega arith);
  daily = put (is D (tag_of l)) (of_is D (tag_of l)) 0 _ _ 1 (λ h. number_at l 4) w.daily refl;
  readings = put (is X (tag_of l)) (of_is X (tag_of l)) fresh_reading _ _ 1 (λ h. reading_at (axis_of_rec s) l) w.readings refl;
  curve = refl;
}

pub store_words : StoreWords
store_words s l w f e h = subst (λ (o : Out). Stores l s w o.blocks) (sym (line_is s l w f e none h)) (stores l s w)
