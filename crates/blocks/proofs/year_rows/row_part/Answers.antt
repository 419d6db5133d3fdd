use Prim.Native.Nat.{◌*◌}
use Rattle.blocks.proofs.Parts.{part_cut}
use Rattle.blocks.proofs.year_rows.row_part.Goals as goal

pub returns : goal.returns
returns c = part_cut c.args.block.now (3040 * c.args.i) _ _ c.min-start.ensures c.min-end.ensures
