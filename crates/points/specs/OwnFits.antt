-- What is known of a site and its points once 1 and 14 to 17 are checked, and bounds on the point of a place.
use Rattle.std.specs.Prelude.{◌≡◌, Bool, ◌||◌, List, ℕ, ◌≤◌, ◌<◌, Some, None, Ok, Err, T, eqb, leb, get_or}
use Rattle.meaning.specs.Points.{Source, source_exceeds, rounded_point}
use Rattle.meaning.specs.Blocks.{missing_point}
use Rattle.rounding.specs.Points.{most_point}
use Rattle.rounding.specs.Answers.{limit_view, limited}
use Rattle.blocks.specs.Rows.{row_of}
use Rattle.points.specs.declared.own.SiteFactors.{SiteFactors}
use Rattle.points.specs.PlacePoints.{PlacePoint, point_repr}

-- a point's code: missing, or at most 100,000,000 W
unfoldable pub is_point : ℕ → Bool
is_point v = eqb v missing_point || leb v 100000000

-- the points of every year's row
abbrev pub PointsFit : ℕ → List ℕ → List ℕ → Type 0
PointsFit al near far = (y i : ℕ) → T (is_point (get_or (row_of al near far y) i missing_point))

pub record SiteFactorsFit (b : SiteFactors) : Type 0 where
  pub first : b.first ≤ 2021
  pub count : b.count ≤ 10
  pub ps : b.ps.0 ≤ 100000000
  pub theta : b.theta ≤ 100000
  pub some_cas : 0 < b.ca_sum
  pub most_cas : b.ca_sum ≤ 99990

-- the point of a place is at most the limit of 18, also one that is read
abbrev pub PlacePointFits : PlacePoint → Type 0
PlacePointFits (Err e) = Unit {0}
PlacePointFits (Ok None) = Unit {0}
PlacePointFits (Ok (Some p)) = p.0 ≤ most_point

-- 18 where the source exceeds, else its rounded point, if any
pub record PlacePointIs (s : Source) (r : PlacePoint) : Type 0 where
  pub is : limit_view r ≡ limited (source_exceeds s) (point_repr (rounded_point s))
  pub fits : PlacePointFits r

-- a profile value, and its bound
pub record ProfileIs (p r : ℕ) : Type 0 where
  pub is : r ≡ p
  pub fits : r ≤ 65535
