use Rattle.std.proofs.Common.{◌≡◌, rules, min, length}
use Rattle.pieces.proofs.Joins.{kept_is}
use Rattle.pieces.proofs.joining.Pending.of.Goals as goal

pub returns : goal.returns
returns c =
    let h : c.min-held.result ≡ min (length c.args.begun.now) 320 = search rules in
    kept_is _ c.args.begun.now _ c.min-held.result (search rules) h c.put_text.ensures.out_after
