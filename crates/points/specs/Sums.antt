-- The donors' sums, and the point rebuilt from them (document 01, Cases; Stops that come from the state).
use Rattle.std.specs.Prelude.{cond, List, ℕ, ◌+◌, Option, Some, None, eqb}
use Rattle.lists.specs.Lists.{any}
use Rattle.rounding.specs.Points.{rounded, rebuilt}
use Rattle.rounding.specs.Units.{in_mw}
use Rattle.rounding.specs.Answers.{Limited, within, limited}
use Rattle.rounding.specs.declared.Power.{Power}
use Rattle.meaning.specs.Points.{Donor, origin_exceeds, donor_points, donor_cas}
use Rattle.points.specs.PlacePoints.{limited_place}
use Rattle.points.specs.declared.donors.DonorSums.{DonorSums}

abbrev pub sums : ℕ → ℕ → DonorSums
sums p c = record { points = in_mw p; ca_sum = c }

-- 18 where a donor's own point exceeds, else the sum of the donors' points in mW and that of their CA
unfoldable pub donors_of : List Donor → Limited DonorSums
donors_of ds = limited (any (λ (d : Donor). origin_exceeds d.origin) ds) (sums (donor_points ds) (donor_cas ds))

-- the sums with one more donor: its CA and its own point, where it has one
unfoldable pub with_donor : DonorSums → ℕ → Option Power → DonorSums
with_donor d ca None = d
with_donor d ca (Some q) = sums (d.points.0 + q.0) (d.ca_sum + ca)

-- the point from CA of the target and the donors' sums; no donor has a CA of 0, so a sum of 0 means no donor
unfoldable pub rebuilt_from : ℕ → DonorSums → Limited (Option Power)
rebuilt_from ca d = cond (eqb d.ca_sum 0) (within None) (limited_place (rounded (rebuilt ca d.points.0 d.ca_sum)))
