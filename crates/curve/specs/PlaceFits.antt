-- What is known of the lists once 1 and 14 to 17 are checked, and what a loop over places promises.
use Rattle.std.specs.Prelude.{◌≡◌, List, ℕ, length}
use Rattle.std.proofs.lemmas.List.Edits.{sets}
use Rattle.meaning.specs.Points.{CurvePlace}
use Rattle.meaning.specs.Blocks.{slots_size}
use Rattle.history.specs.Fits.{AtMost, EnergiesAtMost, NonzeroTotals}
use Rattle.points.specs.declared.own.SiteFactors.{SiteFactors}
use Rattle.points.specs.OwnFits.{PointsFit}
use Rattle.points.specs.DonorFits.{CasFit}
use Rattle.curve.specs.declared.place_sums.PlaceSum.{PlaceSum}
use Rattle.curve.specs.PlaceSums.{place_sum_of, entries_of}
use Rattle.curve.specs.PlaceSumFits.{PlaceSumFits}
use Rattle.curve.specs.YearPlaces.{FileData}

pub record FileDataFits (b : SiteFactors) (l : FileData) : Type 0 where
  pub points : PointsFit b.al l.near l.far
  pub slots : length l.slots ≡ slots_size
  pub energies : EnergiesAtMost 1000000000000 l.energies
  pub totals : AtMost 13815826560 l.totals
  -- 17
  pub nonzero : NonzeroTotals b.first l.indexes l.totals
  pub cas : CasFit b.count l.cas

-- the places qs are entered from place `at` of the curve on
pub record Entered (n at : ℕ) (qs : List CurvePlace) (before after : List ℕ) (t : PlaceSum) : Type 0 where
  pub tally : t ≡ place_sum_of qs
  pub fits : PlaceSumFits n t
  pub curve : after ≡ sets before at (entries_of qs)
