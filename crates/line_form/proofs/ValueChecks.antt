-- 5 and 6 of a C or P line from what is read from it.
use Rattle.std.specs.Prelude.{Some, None}
use mathlib.Core.Path.{◌≡◌, refl, ap, sym, ◌∙◌}
use mathlib.Core.Bool.{Bool, true, false, not, ◌||◌, cond}
use mathlib.Core.List.{List}
use Prim.Native.Nat.{ℕ, zero, suc, ◌+◌, min}
use native.Mathlib.Omega.{arith}
use lib.Dec.{leb}
use lib.ListN.{length, replicate}
use Rattle.lists.specs.Lists.{any, tab}
use Rattle.lists.proofs.Laws.{length_tab}
use Rattle.lists.proofs.Tests.{or_parts}
use Rattle.calendar.specs.declared.Years.{Years}
use Rattle.calendar.specs.Spans.{among}
use Rattle.text.specs.Fields.{up_to, past, rest_at, field_at}
use Rattle.text.specs.Numbers.{most, value_of, is_dash}
use Rattle.text.proofs.NumberLaws.{ltb_capped}
use Rattle.meaning.specs.Line.{Line, C, P, tag_of, Form, number, number_or_dash, forms_of, in_range, some_field, number_at, year_on, value_at, most_power, most_profile}
use Rattle.meaning.specs.Refusals.{is_outside}
use Rattle.line_form.specs.Reads.{capped_at, date_read_of}
use Rattle.line_form.proofs.Rows.{rest_suc}
use Rattle.line_form.proofs.Capped.{Early, not_leb, above_capped}
use Rattle.line_form.proofs.Checks.{either, year_off, year_exact}
use Rattle.rounding.specs.Units.{in_w}
use Rattle.line_form.specs.Codes.{point_row, profile_row, is_point_outside, is_profile_outside}
use Rattle.line_form.specs.ValueRanges.{is_points_outside, is_profiles_outside}

-- ---- 6
field_here : (l : List ℕ) (n : ℕ) → up_to (rest_at l n) ≡ field_at l n
unfolding field_at
field_here l n = refl

-- some field of a row fails a test, by a test of the value of each
row_fails : {A : Type 0} (fails : Form → List ℕ → Bool) (m : Form) (p : A → Bool) (value : List ℕ → A) → ((f : List ℕ) → fails m f ≡ p (value f)) → (n i : ℕ) (l : List ℕ)
    → some_field fails (replicate n m) (rest_at l (4 + i)) ≡ any p (tab n i (λ h. value (field_at l (4 + h))))
unfolding some_field any tab
row_fails fails m p value e zero i l = refl
row_fails fails m p value e (suc n) i l = go (row_fails fails m p value e n (suc i) l)
  where
    next : past (rest_at l (4 + i)) ≡ rest_at l (4 + suc i)
    next = let z : suc (4 + i) ≡ 4 + suc i = omega arith in sym (rest_suc (4 + i) l) ∙ ap (λ (k : ℕ). rest_at l k) z

    go : some_field fails (replicate n m) (rest_at l (4 + suc i)) ≡ any p (tab n (suc i) (λ h. value (field_at l (4 + h))))
        → (fails m (up_to (rest_at l (4 + i))) || some_field fails (replicate n m) (past (rest_at l (4 + i)))) ≡ (p (value (field_at l (4 + i))) || any p (tab n (suc i) (λ h. value (field_at l (4 + h)))))
    go r = rw (next, r, e (up_to (rest_at l (4 + i))), field_here l (4 + i))

-- a point is outside where its field is
point_off : (h : Years) (f : List ℕ) → not (in_range h (number_or_dash most_power) f) ≡ is_point_outside (cond (is_dash f) None (Some (in_w (min (value_of f) most))))
unfolding in_range is_point_outside
point_off h f = go (is_dash f)
  where
    go : (b : Bool) → not (b || leb (value_of f) most_power) ≡ is_point_outside (cond b None (Some (in_w (min (value_of f) most))))
    go true = refl
    go false = not_leb (value_of f) most_power ∙ sym (ltb_capped most (value_of f) most_power (omega arith))

profile_off : (h : Years) (f : List ℕ) → not (in_range h (number 0 most_profile) f) ≡ is_profile_outside (min (value_of f) most)
unfolding in_range is_profile_outside
profile_off h f = above_capped most_profile (value_of f) (omega arith)

pub outside_c : (h : Years) (l : Line) → Early h → tag_of l ≡ C → is_outside h l ≡ is_points_outside h (date_read_of l) (point_row l)
unfolding is_outside forms_of some_field in_range is_points_outside date_read_of point_row value_at number_at field_at rest_at
outside_c h l y e =
    rw e (either (year_off h l 1 (omega arith))
    (row_fails (λ m f. not (in_range h m f)) (number_or_dash most_power) is_point_outside (λ f. cond (is_dash f) None (Some (in_w (min (value_of f) most)))) (point_off h) 20 0 l))

pub outside_p : (h : Years) (l : Line) → Early h → tag_of l ≡ P → is_outside h l ≡ is_profiles_outside h (date_read_of l) (profile_row l)
unfolding is_outside forms_of some_field in_range is_profiles_outside date_read_of profile_row value_at number_at field_at rest_at
outside_p h l y e =
    rw e (either (year_off h l 1 (omega arith))
    (row_fails (λ m f. not (in_range h m f)) (number 0 most_profile) is_profile_outside (λ f. min (value_of f) most) (profile_off h) 20 0 l))

-- ---- numbers that are not outside their ranges are not capped, and what the blocks hold
pub exact_c : (h : Years) (l : Line) → Early h → tag_of l ≡ C → is_outside h l ≡ false → ((date_read_of l).year ≡ year_on l) × (any is_point_outside (point_row l) ≡ false)
unfolding date_read_of is_points_outside
exact_c h l y e o =
    let p = or_parts (not (among h (capped_at l 1))) (any is_point_outside (point_row l)) (sym (outside_c h l y e) ∙ o) in
    (year_exact h l 1 (omega arith) p.0, p.1)

pub exact_p : (h : Years) (l : Line) → Early h → tag_of l ≡ P → is_outside h l ≡ false → ((date_read_of l).year ≡ year_on l) × (any is_profile_outside (profile_row l) ≡ false)
unfolding date_read_of is_profiles_outside
exact_p h l y e o =
    let p = or_parts (not (among h (capped_at l 1))) (any is_profile_outside (profile_row l)) (sym (outside_p h l y e) ∙ o) in
    (year_exact h l 1 (omega arith) p.0, p.1)

-- ---- the number of values
pub point_count : (l : Line) → length (point_row l) ≡ 20
unfolding point_row
point_count l = length_tab 20 0 _

pub profile_count : (l : Line) → length (profile_row l) ≡ 20
unfolding profile_row
profile_count l = length_tab 20 0 _
