use native.Mathlib.Omega.{arith}
use Rattle.meaning.specs.Blocks.{slot_at}
use Rattle.points.specs.OwnPoints.{profile_in}
use Rattle.points.proofs.days.HalfHour.profile.Goals as goal

pub returns : goal.returns
unfolding profile_in slot_at
returns c = record { is = c.from.ensures; fits = omega arith }
