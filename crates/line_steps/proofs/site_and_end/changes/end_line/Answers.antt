use mathlib.Core.Path.{sym, ◌∙◌}
use Rattle.std.proofs.lemmas.Result.{err_from_is_err_and}
use Rattle.progress.specs.ProgressViews.{open_rec}
use Rattle.progress.specs.Steps.{no_block}
use Rattle.progress.proofs.Steps.{step_refused}
use Rattle.progress.proofs.UndatedLines.{took_e}
use Rattle.line_steps.proofs.SiteSteps.{end_seen, end_taken}
use Rattle.line_steps.proofs.site_and_end.changes.end_line.Goals as goal

pub returns-in_err-check_end : goal.returns-in_err-check_end
returns-in_err-check_end c =
    let l = c.args.line.now in
    let k = c.requires in
    let s = open_rec c.args.count c.args.progress.now in
    let p = err_from_is_err_and c.from_residual.result c.from_residual.ensures.1 in
    rw (p.1, p.2) (step_refused s l (no_block) _ _ (sym c.in_err-check_end.was ∙ end_seen s l k _ c.check_end.ensures))

pub returns : goal.returns
returns c =
    let l = c.args.line.now in
    let k = c.requires in
    let s = open_rec c.args.count c.args.progress.now in
    rw c.rank-progress.ensures (took_e s l (end_taken s l k _ c.check_end.ensures c.in_ok-check_end.was) k.tag)
