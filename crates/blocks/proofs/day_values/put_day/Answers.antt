use Rattle.blocks.proofs.Runs.{day_put}
use Prim.Native.Nat.{◌*◌}
use Rattle.blocks.proofs.day_values.put_day.Goals as goal

pub returns : goal.returns
returns g c =
    let a = c.args in
    day_put a.block.now a.values.now _ (3040 * a.row) a.place c.requires.1.1 c.requires.0.1 c.requires.1.0 c.copy_from_slice.ensures.after
