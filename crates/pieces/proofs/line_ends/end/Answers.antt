use Rattle.std.proofs.Common.{◌≡◌, ◌∙◌, arith}
use Rattle.pieces.specs.Parts.{end_at}
use Rattle.pieces.proofs.Parts.{end_found, end_within}
use Rattle.pieces.proofs.line_ends.end.Goals as goal

pub returns : goal.returns
returns c =
    let h : c.unwrap_or.result ≡ end_at c.args.text.now = c.unwrap_or.ensures ∙ rw c.first_end.ensures (end_found c.args.text.now) in
    record { found = h; within = omega (arith, end_within c.args.text.now) }
