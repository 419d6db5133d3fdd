-- The point of a year as a donor, by whether it is one.
use mathlib.Core.Path.{◌≡◌}
use mathlib.Core.Bool.{Bool, true, false, cond}
use mathlib.Core.Option.{Option, none}
use Rattle.meaning.specs.Points.{Origin, own_of, rounded_point, source_exceeds}
use Rattle.std.specs.Prelude.{Ok, None}
use Rattle.rounding.specs.Answers.{limit_view, limited}
use Rattle.points.specs.PlacePoints.{PlacePoint, point_repr}
use Rattle.points.specs.OwnFits.{PlacePointIs}

pub not_given : (v : Bool) (o : Option Origin) → v ≡ false → PlacePointIs (own_of (cond v o none)) (Ok None)
unfolding limit_view limited point_repr own_of source_exceeds rounded_point
not_given v o h = record { is = rw h; fits = tt }

pub is_given : (v : Bool) (o : Option Origin) (r : PlacePoint) → v ≡ true → PlacePointIs (own_of o) r → PlacePointIs (own_of (cond v o none)) r
is_given v o r h f = rw h f
