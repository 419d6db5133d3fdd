use Rattle.run.proofs.Feeds.{rest_fed}
use Rattle.run.proofs.lines.feed_lines.Goals as goal

pub returns : goal.returns
returns c = rest_fed _ _ _ _ _ c.apply_lines-applied.ensures c.of.ensures
