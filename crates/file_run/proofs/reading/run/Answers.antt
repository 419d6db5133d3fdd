use Rattle.std.proofs.Common.{refl}
use Rattle.file_run.proofs.Fresh.{fresh_sized}
use Rattle.file_run.proofs.ReadLoop.{hands_out}
use Rattle.file_run.proofs.reading.run.Goals as goal

pub returns : goal.returns
returns g c =
    let t = hands_out _ _ (fresh_sized _ _ _ _ _ refl refl refl refl refl) _ _ _ _ _ c.begin-own_run.ensures c.in_ok-end.ensures _ _ _ _ _ c.finish-closed.ensures c.text-printed.ensures in
    record { sheet = t.0; known = t.1 }
