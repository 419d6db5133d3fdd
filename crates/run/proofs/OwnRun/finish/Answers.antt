use mathlib.Core.Path.{ap, ◌∙◌}
use Rattle.close.specs.Ends.{close_repr}
use Rattle.run.proofs.OwnRun.finish.Goals as goal

pub returns : goal.returns
returns c = c.close_unless_final.ensures ∙ ap close_repr c.last_call-call.ensures
