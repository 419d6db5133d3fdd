use mathlib.Core.Path.{sym, ◌∙◌}
use Rattle.std.proofs.lemmas.Result.{err_from_is_err_and}
use Rattle.progress.specs.ProgressViews.{open_rec}
use native.Mathlib.Omega.{arith}
use Rattle.progress.specs.Steps.{no_block}
use Rattle.progress.proofs.Steps.{step_refused}
use Rattle.progress.proofs.DatedLines.{reading_place, took_x}
use Rattle.line_steps.proofs.ReadingSteps.{reading_seen, reading_none, reading_say}
use Rattle.line_steps.proofs.readings_and_sums.changes.reading_line.Goals as goal

pub returns-in_err-checked : goal.returns-in_err-checked
returns-in_err-checked c =
    let l = c.args.line.now in
    let k = c.requires in
    λ n. let s = open_rec n c.args.progress.now in
    let p = err_from_is_err_and c.from_residual.result c.from_residual.ensures.1 in
    rw (p.1, p.2) (step_refused s l (no_block) _ _ (sym c.in_err-checked.was ∙ reading_seen s l k _ c.check_reading.ensures))

pub overflow_add-progress : goal.overflow_add-progress
overflow_add-progress c =
    let l = c.args.line.now in
    let k = c.requires in
    let s = open_rec 0 c.args.progress.now in
    omega (arith, (reading_place s l (reading_none s l k _ c.check_reading.ensures _ c.in_ok-checked.was) k.tag).1)

pub overflow_cast-result : goal.overflow_cast-result
overflow_cast-result c =
    let l = c.args.line.now in
    let k = c.requires in
    let s = open_rec 0 c.args.progress.now in
    let e = c.check_reading.ensures in
    let q = c.in_ok-checked.was in
    omega (arith, (reading_place s l (reading_none s l k _ e _ q) k.tag).0, (reading_say s l k _ e _ q).0)

pub returns : goal.returns
returns c =
    let l = c.args.line.now in
    let k = c.requires in
    let e = c.check_reading.ensures in
    let q = c.in_ok-checked.was in
    λ n. let s = open_rec n c.args.progress.now in
    rw c.rank-progress.ensures (took_x s l (reading_none s l k _ e _ q) k.tag _ _ _ _ (reading_say s l k _ e _ q))
