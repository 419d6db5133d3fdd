use Rattle.std.proofs.Common.{refl}
use Rattle.file_run.proofs.Fresh.{fresh_sized}
use Rattle.file_run.proofs.WholeInput.{whole_sheet, ncc_within}
use Rattle.file_run.proofs.whole_input.sheet_of.Goals as goal

pub returns : goal.returns
returns c =
    let f = c.finish-closed in
    let h = whole_sheet _ _ (fresh_sized _ _ _ _ _ refl refl refl refl refl) _ _ c.args.input.now c.begin-own_run.ensures c.feed.ensures _ _ _ _ f.ensures _ c.text.ensures in
    record { sheet = h; ncc = ncc_within _ _ h }
