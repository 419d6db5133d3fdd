-- The values of a C and of a P line, each by its field, and a row of 20.
use Rattle.std.specs.Prelude.{Bool, cond, List, ℕ, min, replicate, Option, Some, None}
use Rattle.lists.specs.Lists.{tab}
use Rattle.text.specs.Fields.{field_at}
use Rattle.text.specs.Numbers.{value_of, is_dash, most}
use Rattle.meaning.specs.Line.{Form}
use Rattle.rounding.specs.Units.{in_w}
use Rattle.rounding.specs.declared.Watts.{Watts}
use Rattle.line_form.specs.Reads.{in_forms}

-- a point, none for a dash, and a profile value
unfoldable pub point_in : List ℕ → Option Watts
point_in f = cond (is_dash f) None (Some (in_w (min (value_of f) most)))

unfoldable pub profile_in : List ℕ → ℕ
profile_in f = min (value_of f) most

-- the first 20 fields of what is left of a line: whether each is in the form, and their values
unfoldable pub are_values : Form → List ℕ → Bool
are_values m t = in_forms (replicate 20 m) t

unfoldable pub row_of : {A : Type 0} → (List ℕ → A) → List ℕ → List A
row_of value t = tab 20 0 (λ h. value (field_at t h))
