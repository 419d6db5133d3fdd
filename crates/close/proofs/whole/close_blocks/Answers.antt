use native.Mathlib.Omega.{arith}
use Rattle.close.proofs.WholeClose.{refused_close, fits_file, told_close}
use Rattle.close.proofs.whole.close_blocks.Goals as goal

pub returns-in-Err : goal.returns-in-Err
returns-in-Err c =
    let a = c.args in
    refused_close a.state a.count a.progress a.blocks.near.now a.blocks.far.now a.blocks.slots.now a.blocks.daily.now a.readings.now a.curve.now _ c.columns_of-columns.ensures c.close_refusal.result c.close_refusal.ensures c.in-Err.refusal c.in-Err.is _ c.state_after.ensures _ c.refuse.ensures

pub close_file-closing-requires : goal.close_file-closing-requires
close_file-closing-requires c =
    let a = c.args in
    fits_file a.state a.count a.progress a.blocks.near.now a.blocks.far.now a.blocks.slots.now a.blocks.daily.now a.readings.now a.curve.now _ c.columns_of-columns.ensures c.close_refusal.result c.close_refusal.ensures c.in-Ok.is
    (omega arith, omega arith, omega arith)

pub returns-in-Ok : goal.returns-in-Ok
returns-in-Ok c =
    let a = c.args in
    told_close a.state a.count a.progress a.blocks.near.now a.blocks.far.now a.blocks.slots.now a.blocks.daily.now a.readings.now a.curve.now _ c.columns_of-columns.ensures c.close_refusal.result c.close_refusal.ensures c.in-Ok.is c.close_file-closing.result _ c.close_file-closing.ensures _ c.close_outcome.ensures
