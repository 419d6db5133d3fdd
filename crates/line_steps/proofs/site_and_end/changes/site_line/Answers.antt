use mathlib.Core.Path.{sym, ◌∙◌}
use Rattle.std.proofs.lemmas.Result.{err_from_is_err_and}
use Rattle.progress.specs.ProgressViews.{open_rec}
use Rattle.progress.specs.Steps.{no_block}
use Rattle.progress.proofs.Steps.{step_refused}
use Rattle.progress.proofs.UndatedLines.{took_s}
use Rattle.line_steps.proofs.SiteSteps.{site_seen, site_taken}
use Rattle.line_steps.proofs.site_and_end.changes.site_line.Goals as goal

pub returns-in_err-progress : goal.returns-in_err-progress
returns-in_err-progress c =
    let l = c.args.line.now in
    let k = c.requires in
    λ n. let s = open_rec n c.args.progress.now in
    let p = err_from_is_err_and c.from_residual.result c.from_residual.ensures.1 in
    rw (p.1, p.2) (step_refused s l (no_block) _ _ (sym c.in_err-progress.was ∙ site_seen s l k _ c.check_site.ensures))

pub returns : goal.returns
returns c =
    let l = c.args.line.now in
    let k = c.requires in
    λ n. let s = open_rec n c.args.progress.now in
    let t = site_taken s l k _ c.check_site.ensures _ c.in_ok-progress.was in
    rw c.rank-progress.ensures (took_s s l t.0 k.tag _ t.1)
