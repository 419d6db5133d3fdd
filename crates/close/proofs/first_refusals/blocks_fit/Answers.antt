use mathlib.Core.List.{[]}
use Rattle.readings.specs.Columns.{lent_blocks_in}
use Rattle.readings.proofs.Columned.{first_read}
use Rattle.close_checks.proofs.ContentLaws.{years_taken}
use Rattle.progress.specs.declared.State.TheVariants.{Open}
use Rattle.progress.specs.ProgressViews.{rec_of}
use Rattle.close.proofs.Laws.{history_by, axis_by, fits_contents}
use Rattle.close.proofs.first_refusals.blocks_fit.Goals as goal

pub contents_fit-requires : goal.contents_fit-requires
contents_fit-requires c =
    let y = years_taken (rec_of Open 0 c.args.progress) in
    let h = history_by (rec_of Open 0 c.args.progress) _ _ _ c.once_taken-al.ensures c.once_taken-filiere.ensures c.history-years.ensures in
    let v = axis_by (rec_of Open 0 c.args.progress) _ _ _ c.once_taken-al.ensures c.once_taken-filiere.ensures c.axis-around.ensures in
    (c.requires.1, (rw h y.history, rw v y.axis))

-- for any state and count
pub returns : goal.returns
returns c st n =
    fits_contents (rec_of st n c.args.progress)
    (lent_blocks_in c.args.blocks.near.now c.args.blocks.far.now c.args.blocks.slots.now c.args.blocks.daily.now c.args.columns.now.positions c.args.columns.now.indexes c.args.columns.now.kinds [])
    _ _ _
    (first_read c.args.blocks.near.now c.args.blocks.far.now c.args.blocks.slots.now c.args.blocks.daily.now c.args.columns.now.positions c.args.columns.now.indexes c.args.columns.now.kinds [] c.args.progress.readings c.requires.0)
    _ _ _
    (history_by (rec_of st n c.args.progress) _ _ _ c.once_taken-al.ensures c.once_taken-filiere.ensures c.history-years.ensures)
    (axis_by (rec_of st n c.args.progress) _ _ _ c.once_taken-al.ensures c.once_taken-filiere.ensures c.axis-around.ensures)
    (let e = c.of-readings.ensures in rw (e.0, e.1, e.2, e.3) at c.contents_fit.ensures)
