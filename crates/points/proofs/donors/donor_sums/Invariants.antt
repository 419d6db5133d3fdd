use mathlib.Core.Path.{◌≡◌}
use mathlib.Core.Option.{Option}
use Prim.Native.Nat.{ℕ, ◌<◌}
use Rattle.meaning.specs.Points.{Origin, own_of}
use Rattle.points.specs.OwnFits.{PlacePointIs}
use Rattle.points.specs.Sums.{donors_of}
use Rattle.points.specs.DonorOrigins.{donors_among}
use Rattle.points.specs.DonorFits.{SumsFit}
use Rattle.points.proofs.Gathered.{joined, left}
use Rattle.points.proofs.donors.donor_sums.Given as goal

abbrev pub invariant-loop-k : goal.invariant-loop-k
invariant-loop-k g l =
    record {
      fit : SumsFit l.k l.sums;
      are : (given : ℕ → Option Origin) → ((k : ℕ) (r : _) → k < l.n → goal.F-post g l.donor k r → PlacePointIs (own_of (given k)) r) → joined l.sums (left l.n l.cas given l.k) ≡ donors_of (donors_among l.n l.cas given);
    }
