-- The 20 values of a C or P line, numbers capped at 10^18: points in W, none where one is missing, and profile values.
use Rattle.std.specs.Prelude.{Bool, false, cond, List, ℕ, ◌+◌, min, ltb, Option, Some, None}
use Rattle.lists.specs.Lists.{tab}
use Rattle.text.specs.Fields.{field_at}
use Rattle.text.specs.Numbers.{is_dash, most}
use Rattle.meaning.specs.Line.{Line, value_at, most_power, most_profile}
use Rattle.rounding.specs.Units.{in_w}
use Rattle.rounding.specs.declared.Watts.{Watts}

-- the points of a C line
unfoldable pub point_row : Line → List (Option Watts)
point_row l = tab 20 0 (λ h. cond (is_dash (field_at l (4 + h))) None (Some (in_w (min (value_at l h) most))))

-- the values of a P line
unfoldable pub profile_row : Line → List ℕ
profile_row l = tab 20 0 (λ h. min (value_at l h) most)

-- 6: a point above 100,000,000 W, a profile value above 65,535
unfoldable pub is_point_outside : Option Watts → Bool
is_point_outside None = false
is_point_outside (Some p) = ltb most_power p.0

unfoldable pub is_profile_outside : ℕ → Bool
is_profile_outside v = ltb most_profile v
