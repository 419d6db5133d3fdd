-- What is known of a site and its lists once 1 and 14 to 17 are checked.
use Rattle.std.specs.Prelude.{◌≡◌, List, ℕ, ◌≤◌, ◌<◌, T, length, get_or}
use Rattle.meaning.specs.Blocks.{slots_size}
use Rattle.points.specs.declared.own.SiteFactors.{SiteFactors}
use Rattle.points.specs.Sources.{Day}
-- for a point's code, a list's numbers, and a site's factors and CA
use Rattle.points.specs.OwnFits.{PointsFit}
use Rattle.points.specs.DonorFits.{CasFit}
use Rattle.history.specs.declared.YearOnDay.{YearOnDay}
use Rattle.history.specs.Years.{no_year}

-- a rate: none (0), or 10 to 1000 thousandths
pub record RateFits (r : ℕ) : Type 0 where
  pub least : (r ≡ 0 → ⊥) → 10 ≤ r
  pub most : r ≤ 1000

abbrev pub RatesFit : List ℕ → Type 0
RatesFit rates = (k : ℕ) → RateFits (get_or rates k 0)

-- E and daily total of the interval around a day
pub record YearFits (y : YearOnDay) : Type 0 where
  pub energy : y.energy.0 ≤ 1000000000000
  pub total : y.total ≤ 13815826560
  -- by 17
  pub nonzero : T y.is_donor → 0 < y.total

pub record DayFits (b : SiteFactors) (d : Day) : Type 0 where
  pub points : PointsFit b.al d.near d.far
  pub slots : length d.slots ≡ slots_size
  pub years : (k : ℕ) → YearFits (get_or d.years k no_year)
  pub cas : CasFit b.count d.cas
