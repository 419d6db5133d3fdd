use Rattle.record_calls.proofs.Opens.{opened, unopened}
use Rattle.record_calls.proofs.Record.open.Goals as goal

pub returns-in-Ok : goal.returns-in-Ok
returns-in-Ok c = opened c.args.self _ _ c.in-Ok.ensures c.empty-self.result c.empty-self.ensures

pub returns-in-Err : goal.returns-in-Err
returns-in-Err c = unopened c.args.self _ _ c.in-Err.refusal c.in-Err.ensures c.answer_to.result c.answer_to.ensures
