-- The points of an accepted C line and the values of a P line, as the blocks hold them after it.
use Rattle.std.specs.Prelude.{Some, None}
use mathlib.Core.Path.{◌≡◌, refl, ◌∙◌}
use mathlib.Core.Bool.{Bool, true, false, cond}
use mathlib.Core.List.{map}
use mathlib.Core.Option.{some, none}
use Prim.Native.Nat.{ℕ, ◌+◌, ◌≤◌, min}
use native.Mathlib.Omega.{arith}
use borrow.Author.Tests.{le-leb}
use Rattle.blocks.specs.PointStores.{point_code}
use Rattle.lists.proofs.Tables.{tab_same}
use Rattle.lists.proofs.Ranges.{map_tab}
use Rattle.text.specs.Fields.{field_at}
use Rattle.text.specs.Numbers.{is_dash, most}
use Rattle.meaning.specs.Line.{Line, C, P, tag_of, value_at, point_of, most_power, most_profile}
use Rattle.meaning.specs.Refusals.{Before, refusal}
use Rattle.meaning.specs.Blocks.{code_of_point}
use Rattle.meaning.specs.Calls.{point_codes, profile_values}
use Rattle.meaning.proofs.Accepted.{PointFits, point_in_lem, profile_in_lem}
use Rattle.rounding.specs.Units.{in_w}
use Rattle.line_form.specs.Codes.{point_row, profile_row}
use Rattle.blocks.specs.Stores.{profile_code}

one_point : (d : Bool) (v : ℕ) → PointFits (cond d none (some v)) → point_code (cond d None (Some (in_w (min v most)))) ≡ code_of_point (cond d none (some v))
unfolding PointFits point_code code_of_point
one_point true v f = refl
one_point false v f = let m : min v most ≡ v = omega arith in rw (m, le-leb v most_power f)

pub codes_c : (b : Before) (l : Line) → refusal b l ≡ none → tag_of l ≡ C → map point_code (point_row l) ≡ point_codes l
unfolding point_row point_codes point_of
codes_c b l e u =
    map_tab point_code 20 0 (λ h. cond (is_dash (field_at l (4 + h))) None (Some (in_w (min (value_at l h) most))))
    ∙ tab_same 20 0 _ _ (λ h k. one_point (is_dash (field_at l (4 + h))) (value_at l h) (point_in_lem b l e u h (omega arith)))

pub codes_p : (b : Before) (l : Line) → refusal b l ≡ none → tag_of l ≡ P → map profile_code (profile_row l) ≡ profile_values l
unfolding profile_row profile_values profile_code
codes_p b l e u =
    map_tab profile_code 20 0 (λ h. min (value_at l h) most)
    ∙ tab_same 20 0 _ _ (λ h k. one (value_at l h) (profile_in_lem b l e u h (omega arith)))
  where
    one : (v : ℕ) → v ≤ most_profile → min (min v most) most_profile ≡ v
    one v h = omega arith
