use Rattle.std.proofs.Common.{rules}
use Rattle.points.proofs.Gathered.{some_rebuilt}
use Rattle.points.proofs.donors.DonorSums.rebuilt.Goals as goal

pub returns : goal.returns
returns c = some_rebuilt c.args.ca c.args.self c.rebuilt.result c.map.result c.if-self-eq0.false (search rules) c.rebuilt.ensures
