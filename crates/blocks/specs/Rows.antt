-- A year's row is a part of the near or the far block (document 01, Calls).
use Rattle.std.specs.Prelude.{Bool, ◌&&◌, cond, List, [], ℕ, ◌-◌, leb, take, drop}
use Rattle.meaning.specs.Blocks.{row_size, is_near, near_start, far_start}

-- the ten years that the two blocks hold for an AL of 2021 to 2026
unfoldable pub holds_year : ℕ → ℕ → Bool
holds_year al y = (leb 2021 al && leb al 2026) && (leb (al - 14) y && leb y (al - 5))

unfoldable pub part : List ℕ → ℕ → List ℕ
part block start = take row_size (drop start block)

-- the 3,040 points of a year; none where the blocks have no such year
unfoldable pub row_of : ℕ → List ℕ → List ℕ → ℕ → List ℕ
row_of al near far y =
    cond (holds_year al y) (cond (is_near al y) (part near (near_start al y)) (part far (far_start al y))) []
