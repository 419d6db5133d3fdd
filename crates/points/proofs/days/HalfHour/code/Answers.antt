use mathlib.Core.Path.{◌∙◌, ap}
use mathlib.Core.List.{List}
use Prim.Native.Nat.{ℕ, ◌+◌, ◌*◌}
use native.Mathlib.Omega.{arith}
use lib.ListN.{get_or}
use Rattle.meaning.specs.Blocks.{missing_point, slot_at}
use Rattle.points.specs.OwnPoints.{code_in}
use Rattle.points.proofs.days.HalfHour.code.Goals as goal

pub returns : goal.returns
unfolding code_in slot_at
returns c =
    rw (c.unwrap_or.ensures, c.copied.ensures)
    (c.get.ensures.lookup.4 (omega arith) missing_point ∙ ap (λ (l : List ℕ). get_or l (20 * c.args.self.day.now.w + c.args.self.h) missing_point) c.row-points.ensures)
