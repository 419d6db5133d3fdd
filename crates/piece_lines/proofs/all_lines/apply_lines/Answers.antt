use Rattle.std.proofs.Common.{sym, ◌∙◌}
use Rattle.piece_lines.proofs.Laws.{line_begun, shorter, line_on, kept_final}
use Rattle.piece_lines.proofs.all_lines.apply_lines.Goals as goal

pub returns-in_default : goal.returns-in_default
returns-in_default c = line_begun _ _ (sym c.is_final.ensures ∙ c.lines-test.true) c.in_default.ensures ∙ c.lines.invariant

pub lines-smaller : goal.lines-smaller
lines-smaller c = shorter _ _ _ c.in-Some.ensures

pub lines-preserved : goal.lines-preserved
lines-preserved c = line_on _ _ (sym c.is_final.ensures ∙ c.lines-test.true) _ _ c.in-Some.ensures _ c.line-call.ensures ∙ c.lines.invariant

pub returns : goal.returns
returns c = kept_final _ _ (sym c.is_final.ensures ∙ c.lines-test.false) ∙ c.lines.invariant
