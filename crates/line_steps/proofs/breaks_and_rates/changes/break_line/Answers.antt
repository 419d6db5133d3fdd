use mathlib.Core.Path.{sym, ◌∙◌}
use Rattle.std.proofs.lemmas.Result.{err_from_is_err_and}
use Rattle.progress.specs.ProgressViews.{open_rec}
use native.Mathlib.Omega.{arith}
use Rattle.progress.specs.Steps.{no_block}
use Rattle.progress.proofs.Steps.{step_refused}
use Rattle.progress.proofs.UndatedLines.{took_b}
use Rattle.line_steps.proofs.YearSteps.{break_seen, break_none, break_year, break_history, break_place}
use Rattle.line_steps.proofs.breaks_and_rates.changes.break_line.Goals as goal

pub returns-in_err-year : goal.returns-in_err-year
returns-in_err-year c =
    let l = c.args.line.now in
    let k = c.requires in
    λ n. let s = open_rec n c.args.progress.now in
    let p = err_from_is_err_and c.from_residual.result c.from_residual.ensures.1 in
    rw (p.1, p.2) (step_refused s l (no_block) _ _ (sym c.in_err-year.was ∙ break_seen s l k _ c.check_break.ensures))

pub row-i-requires : goal.row-i-requires
row-i-requires c = (break_place (open_rec 0 c.args.progress.now) c.args.line.now c.requires _ c.check_break.ensures _ c.in_ok-year.was _ c.history-years.ensures).from

pub offset_bounds-progress-i : goal.offset_bounds-progress-i
offset_bounds-progress-i c = omega (arith, (break_place (open_rec 0 c.args.progress.now) c.args.line.now c.requires _ c.check_break.ensures _ c.in_ok-year.was _ c.history-years.ensures).below)

pub bounds-progress-i : goal.bounds-progress-i
bounds-progress-i c = omega (arith, (break_place (open_rec 0 c.args.progress.now) c.args.line.now c.requires _ c.check_break.ensures _ c.in_ok-year.was _ c.history-years.ensures).below)

pub returns : goal.returns
returns c =
    let l = c.args.line.now in
    let k = c.requires in
    let e = c.check_break.ensures in
    let q = c.in_ok-year.was in
    λ n. let s = open_rec n c.args.progress.now in
    rw (c.rank-progress.ensures, c.row-i.ensures) (took_b s l (break_none s l k _ e _ q) k.tag c.history-years.result _ (c.history-years.ensures ∙ break_history s l k _ e _ q) (break_year s l k _ e _ q))
