use Prim.Native.Nat.{◌+◌}
use Rattle.std.proofs.Common.{rules, tests}
use Rattle.note.specs.Coefficients.{ca_of}
use Rattle.lists.proofs.Chains.{made_by}
use Rattle.history.specs.Years.{cas_from}
use Rattle.history.proofs.ca.cas_from.Goals as goal

pub returns : goal.returns
unfolding cas_from
returns c = made_by _ (λ k. ca_of (c.args.first + k) c.args.filiere) 0 _ 10 _ c.from_fn.ensures.items (λ x b r q k. search (rules, tests))
