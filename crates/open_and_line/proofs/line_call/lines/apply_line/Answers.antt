use Rattle.open_and_line.proofs.Calls.{refused_line, fits_open, few, line_sizes, outcome_line}
use Rattle.open_and_line.proofs.line_call.lines.apply_line.Goals as goal

pub returns-in-Err : goal.returns-in-Err
returns-in-Err c =
    let a = c.args in
    refused_line a.state a.count a.progress.now a.line.now a.near.now a.far.now a.slots.now a.daily.now a.readings.now a.curve.now c.line_refusal.result c.line_refusal.ensures c.in-Err.refusal c.in-Err.is c.refused.result c.refused.ensures

pub take_line-taken-requires : goal.take_line-taken-requires
take_line-taken-requires c =
    let a = c.args in (
      fits_open a.state a.count a.progress.now a.line.now a.near.now a.far.now a.slots.now a.daily.now a.readings.now a.curve.now c.line_refusal.result c.line_refusal.ensures c.in-Ok.is,
      line_sizes a.state a.count a.progress.now a.line.now a.near.now a.far.now a.slots.now a.daily.now a.readings.now a.curve.now c.line_refusal.result c.line_refusal.ensures c.in-Ok.is,
    )

pub counted-requires : goal.counted-requires
counted-requires c =
    let a = c.args in
    few a.state a.count a.progress.now a.line.now a.near.now a.far.now a.slots.now a.daily.now a.readings.now a.curve.now c.line_refusal.result c.line_refusal.ensures c.in-Ok.is

pub returns-in-Ok : goal.returns-in-Ok
returns-in-Ok c =
    let a = c.args in
    outcome_line a.state a.count a.progress.now a.line.now a.near.now a.far.now a.slots.now a.daily.now a.readings.now a.curve.now c.line_refusal.result c.line_refusal.ensures c.in-Ok.is _ c.take_line-taken.result _ _ _ _ _ c.take_line-taken.ensures c.store.ensures _ c.counted.ensures
