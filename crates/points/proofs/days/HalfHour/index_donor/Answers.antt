use Rattle.meaning.specs.Points.{own_of}
use Rattle.points.specs.DonorOrigins.{index_origin}
use Rattle.points.proofs.DonorOrigins.{not_given, is_given}
use Rattle.points.proofs.days.HalfHour.index_donor.Goals as goal

pub returns-then-not-self-k : goal.returns-then-not-self-k
unfolding index_origin
returns-then-not-self-k c = not_given _ _ c.if-not-self-k.true

pub returns : goal.returns
unfolding index_origin own_of
returns c = is_given _ _ _ c.if-not-self-k.false c.profiled.ensures
