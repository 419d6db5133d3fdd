use mathlib.Core.Path.{refl}
use Rattle.std.proofs.Common.{rules}
use Rattle.rounding.specs.Points.{rounded, profiled}
use Rattle.meaning.specs.Points.{own, by_profile, source_exceeds, origin_exceeds, rounded_point, rounded_origin, fraction_of}
use Rattle.points.proofs.PlacePoints.{place_filled}
use Rattle.points.proofs.own.profiled.Goals as goal

pub returns : goal.returns
unfolding source_exceeds origin_exceeds rounded_point rounded_origin fraction_of
returns c =
    let e = c.args.energy.0 in
    let p = c.args.profile in
    let t = c.args.total in
    place_filled (own (by_profile e p t)) (rounded (profiled e p t)) c.profiled.result c.map.result refl refl c.profiled.ensures (search rules)
