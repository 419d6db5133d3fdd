-- What is known of the history years' CA once 1 and 14 to 17 are checked, and bounds on the donors' sums.
use Rattle.std.specs.Prelude.{List, ℕ, ◌*◌, ◌≤◌, ◌<◌, Result, Ok, Err, get_or}
use Rattle.history.specs.Fits.{AtMost}
use Rattle.rounding.specs.declared.Exceeds.{Exceeds}
use Rattle.points.specs.declared.donors.DonorSums.{DonorSums}

-- CA of the history years is 1 to 9,999
pub record CasFit (n : ℕ) (cas : List ℕ) : Type 0 where
  pub some : (k : ℕ) → k < n → 0 < get_or cas k 0
  pub most : AtMost 9999 cas

-- the sums over n donors, each point at most the limit of 18
pub record SumsFit (n : ℕ) (d : DonorSums) : Type 0 where
  pub points : d.points.0 ≤ n * 200000000000
  pub cas : d.ca_sum ≤ n * 9999

abbrev pub DonorsFit : ℕ → Result DonorSums Exceeds → Type 0
DonorsFit n (Err e) = Unit {0}
DonorsFit n (Ok d) = SumsFit n d
