-- The point of a place before its rate: missing, a power, or refusal 18 (document 01, Cases; Stops that come from the state).
use Rattle.std.specs.Prelude.{ℕ, Option, Some, None, Result}
use Rattle.std.proofs.Math.Option as math
use Rattle.rounding.specs.Points.{exceeds}
use Rattle.rounding.specs.Units.{in_mw}
use Rattle.rounding.specs.Answers.{Limited, limited}
use Rattle.rounding.specs.declared.Power.{Power}
use Rattle.rounding.specs.declared.Exceeds.{Exceeds}

abbrev pub PlacePoint : Type 0
PlacePoint = Result (Option Power) Exceeds

-- a rounded point, if any, as the code has it
unfoldable pub point_repr : math.Option ℕ → Option Power
point_repr math.none = None
point_repr (math.some n) = Some (in_mw n)

-- a rounded number of mW as the point of a place, or 18
unfoldable pub limited_place : ℕ → Limited (Option Power)
limited_place n = limited (exceeds n) (Some (in_mw n))
