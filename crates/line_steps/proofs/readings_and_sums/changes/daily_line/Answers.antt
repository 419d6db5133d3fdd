use mathlib.Core.Path.{sym, ◌∙◌}
use Rattle.std.proofs.lemmas.Result.{err_from_is_err_and}
use Rattle.progress.specs.ProgressViews.{open_rec}
use native.Mathlib.Omega.{arith}
use Rattle.progress.specs.Steps.{daily_block}
use Rattle.progress.proofs.Steps.{step_refused}
use Rattle.progress.proofs.DatedLines.{daily_place, daily_axis, took_d}
use Rattle.line_steps.proofs.ReadingSteps.{daily_seen, daily_none, daily_say, daily_year_place}
use Rattle.line_steps.proofs.readings_and_sums.changes.daily_line.Goals as goal

pub returns-in_err-checked : goal.returns-in_err-checked
returns-in_err-checked c =
    let l = c.args.line.now in
    let k = c.requires.0 in
    λ n. let s = open_rec n c.args.progress.now in
    let p = err_from_is_err_and c.from_residual.result c.from_residual.ensures.1 in
    rw (p.1, p.2) (step_refused s l (daily_block c.args.daily.now) _ _ (sym c.in_err-checked.was ∙ daily_seen s l k _ c.check_daily.ensures))

pub row-i-requires : goal.row-i-requires
row-i-requires c = (daily_year_place (open_rec 0 c.args.progress.now) c.args.line.now c.requires.0 _ c.check_daily.ensures _ c.in_ok-checked.was _ c.axis-years.ensures).from

pub put_sum-requires : goal.put_sum-requires
put_sum-requires c =
    let l = c.args.line.now in
    let k = c.requires.0 in
    let s = open_rec 0 c.args.progress.now in
    let e = c.check_daily.ensures in
    let q = c.in_ok-checked.was in
    let t = daily_say s l k _ e _ q in
    let p = daily_place s l (daily_none s l k _ e _ q) k.tag in
    (rw (t.1, c.requires.2) p.0, rw t.2 p.1)

pub offset_bounds-progress-i : goal.offset_bounds-progress-i
offset_bounds-progress-i c = omega (arith, (daily_year_place (open_rec 0 c.args.progress.now) c.args.line.now c.requires.0 _ c.check_daily.ensures _ c.in_ok-checked.was _ c.axis-years.ensures).below)

pub bounds-progress-i : goal.bounds-progress-i
bounds-progress-i c = omega (arith, (daily_year_place (open_rec 0 c.args.progress.now) c.args.line.now c.requires.0 _ c.check_daily.ensures _ c.in_ok-checked.was _ c.axis-years.ensures).below)

pub bounds-progress-i-2 : goal.bounds-progress-i-2
bounds-progress-i-2 c = omega (arith, (daily_year_place (open_rec 0 c.args.progress.now) c.args.line.now c.requires.0 _ c.check_daily.ensures _ c.in_ok-checked.was _ c.axis-years.ensures).below)

pub returns : goal.returns
returns c =
    let l = c.args.line.now in
    let k = c.requires.0 in
    let h = c.axis-years in
    let e = c.check_daily.ensures in
    let q = c.in_ok-checked.was in
    λ n. let s = open_rec n c.args.progress.now in
    let f = daily_none s l k _ e _ q in
    rw (c.rank-progress.ensures, c.row-i.ensures) (took_d s l f k.tag c.args.daily.now _ h.result _ _ _ _ (daily_say s l k _ e _ q) (h.ensures ∙ daily_axis s l f k.tag) c.put_sum.ensures)
