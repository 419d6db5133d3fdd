use mathlib.Core.Path.{refl}
use Rattle.std.proofs.Common.{rules}
use Rattle.rounding.specs.Points.{rounded, by_default}
use Rattle.meaning.specs.Points.{from_default, source_exceeds, rounded_point}
use Rattle.points.proofs.PlacePoints.{place_filled}
use Rattle.points.proofs.own.by_default.Goals as goal

pub returns : goal.returns
unfolding source_exceeds rounded_point
returns c =
    let a = c.args in
    let s = a.site.now in
    place_filled (from_default s.ps.0 s.theta a.profile a.ca s.count s.ca_sum) (rounded (by_default s.ps.0 s.theta a.profile a.ca s.count s.ca_sum)) c.by_default.result c.map.result refl refl c.by_default.ensures (search rules)
