use mathlib.Core.Path.{sym, ◌∙◌}
use Rattle.std.proofs.lemmas.Result.{err_from_is_err_and}
use Rattle.progress.specs.ProgressViews.{open_rec}
use native.Mathlib.Omega.{arith}
use Rattle.progress.specs.Steps.{no_block}
use Rattle.progress.proofs.Steps.{step_refused}
use Rattle.progress.proofs.UndatedLines.{took_r}
use Rattle.line_steps.proofs.YearSteps.{rate_seen, rate_none, rate_year, rate_rate, rate_history, rate_place}
use Rattle.line_steps.proofs.breaks_and_rates.changes.rate_line.Goals as goal

pub returns-in_err-read : goal.returns-in_err-read
returns-in_err-read c =
    let l = c.args.line.now in
    let k = c.requires in
    λ n. let s = open_rec n c.args.progress.now in
    let p = err_from_is_err_and c.from_residual.result c.from_residual.ensures.1 in
    rw (p.1, p.2) (step_refused s l (no_block) _ _ (sym c.in_err-read.was ∙ rate_seen s l k _ c.check_rate.ensures))

pub row-i-requires : goal.row-i-requires
row-i-requires c = (rate_place (open_rec 0 c.args.progress.now) c.args.line.now c.requires _ c.check_rate.ensures _ c.in_ok-read.was _ c.history-years.ensures).from

pub offset_bounds-progress-i : goal.offset_bounds-progress-i
offset_bounds-progress-i c = omega (arith, (rate_place (open_rec 0 c.args.progress.now) c.args.line.now c.requires _ c.check_rate.ensures _ c.in_ok-read.was _ c.history-years.ensures).below)

pub bounds-progress-i : goal.bounds-progress-i
bounds-progress-i c = omega (arith, (rate_place (open_rec 0 c.args.progress.now) c.args.line.now c.requires _ c.check_rate.ensures _ c.in_ok-read.was _ c.history-years.ensures).below)

pub returns : goal.returns
returns c =
    let l = c.args.line.now in
    let k = c.requires in
    let e = c.check_rate.ensures in
    let q = c.in_ok-read.was in
    λ n. let s = open_rec n c.args.progress.now in
    rw (c.rank-progress.ensures, c.row-i.ensures) (took_r s l (rate_none s l k _ e _ q) k.tag c.history-years.result _ _ (c.history-years.ensures ∙ rate_history s l k _ e _ q) (rate_year s l k _ e _ q) (rate_rate s l k _ e _ q))
