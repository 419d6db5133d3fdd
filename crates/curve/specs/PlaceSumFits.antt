-- A bound on sums over places.
use Rattle.std.specs.Prelude.{ℕ, ◌*◌, ◌≤◌}
use Rattle.curve.specs.declared.place_sums.PlaceSum.{PlaceSum}

-- the sum over n places: no point is above 20,000,000,000,000 mW after its rate
pub record PlaceSumFits (n : ℕ) (t : PlaceSum) : Type 0 where
  pub sum : t.sum.0 ≤ 20000000000000 * t.counted
  pub counted : t.counted ≤ n
