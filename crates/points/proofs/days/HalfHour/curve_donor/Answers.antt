use Prim.Native.Nat.{◌+◌}
use Rattle.meaning.specs.Blocks.{slot_at}
use Rattle.points.specs.OwnPoints.{code_in, read_in}
use Rattle.points.specs.DonorOrigins.{curve_origin}
use Rattle.points.proofs.DonorOrigins.{not_given, is_given}
use Rattle.points.proofs.days.HalfHour.curve_donor.Goals as goal

pub measured-requires : goal.measured-requires
unfolding code_in
measured-requires c = rw c.code.ensures (c.args.self.day.now.fits.points (c.args.self.day.now.site.now.first + c.args.k) (slot_at c.args.self.day.now.w c.args.self.h))

pub returns-then-not-self-k : goal.returns-then-not-self-k
unfolding curve_origin
returns-then-not-self-k c = not_given _ _ c.if-not-self-k.true

pub returns : goal.returns
unfolding curve_origin read_in
returns c = is_given _ _ _ c.if-not-self-k.false (rw c.code.ensures at c.measured.ensures)
