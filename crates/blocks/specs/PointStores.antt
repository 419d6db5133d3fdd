-- Where the 20 points of a C line are stored, and as what (document 01, Calls and the lines of a file).
use Rattle.std.specs.Prelude.{cond, List, map, ℕ, ◌+◌, ◌≤◌, ◌<◌, leb, Option, Some, None}
use Rattle.std.proofs.lemmas.List.Edits.{sets}
use Rattle.rounding.specs.declared.Watts.{Watts}
use Rattle.meaning.specs.Line.{most_power}
use Rattle.meaning.specs.Blocks.{missing_point, is_near, near_start, far_start, slot_at}

-- a point as the block stores it: its number of W where that is within a point's range; else, as where there is none, it is missing
unfoldable pub point_code : Option Watts → ℕ
point_code None = missing_point
point_code (Some p) = cond (leb p.0 most_power) p.0 missing_point

-- a year from AL-14 to AL-5, and a winter place
pub record RowPlace (al y w : ℕ) : Type 0 where
  pub long : 14 ≤ al
  pub from : al ≤ y + 14
  pub to : y + 5 ≤ al
  pub winter : w < 152

-- the block that has the year's row with the points of a C line stored, by AL, year and winter place; the other block stays
unfoldable pub near_put : ℕ → ℕ → ℕ → List (Option Watts) → List ℕ → List ℕ
near_put al y w points near = cond (is_near al y) (sets near (near_start al y + slot_at w 0) (map point_code points)) near

unfoldable pub far_put : ℕ → ℕ → ℕ → List (Option Watts) → List ℕ → List ℕ
far_put al y w points far = cond (is_near al y) far (sets far (far_start al y + slot_at w 0) (map point_code points))
