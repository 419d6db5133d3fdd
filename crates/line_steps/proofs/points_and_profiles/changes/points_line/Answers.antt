use mathlib.Core.Path.{ap, sym, ◌∙◌}
use Rattle.std.proofs.lemmas.Result.{err_from_is_err_and}
use Rattle.progress.specs.ProgressViews.{open_rec}
use lib.ListN.{length}
use Rattle.line_form.proofs.ValueChecks.{point_count}
use Rattle.progress.specs.Steps.{point_blocks}
use Rattle.progress.proofs.Steps.{step_refused}
use Rattle.progress.proofs.DatedLines.{points_place, took_c}
use Rattle.line_steps.proofs.PointSteps.{points_seen, points_none, points_say, points_read}
use Rattle.line_steps.proofs.points_and_profiles.changes.points_line.Goals as goal

pub returns-in_err-checked : goal.returns-in_err-checked
returns-in_err-checked c =
    let l = c.args.line.now in
    let k = c.requires.0 in
    λ n. let s = open_rec n c.args.progress.now in
    let p = err_from_is_err_and c.from_residual.result c.from_residual.ensures.1 in
    rw (p.1, p.2) (step_refused s l (point_blocks c.args.near.now c.args.far.now) _ _ (sym c.in_err-checked.was ∙ points_seen s l k _ c.check_points.ensures))

pub put_points-requires : goal.put_points-requires
put_points-requires c =
    let l = c.args.line.now in
    let k = c.requires.0 in
    let s = open_rec 0 c.args.progress.now in
    let e = c.check_points.ensures in
    let q = c.in_ok-checked.was in
    let t = points_say s l k _ e _ q in
    (ap length (points_read s l k _ e _ q) ∙ point_count l, rw (t.0, t.1) (points_place s l (points_none s l k _ e _ q) k.tag), c.requires.1)

pub returns : goal.returns
returns c =
    let l = c.args.line.now in
    let k = c.requires.0 in
    let p = c.put_points.ensures in
    let e = c.check_points.ensures in
    let q = c.in_ok-checked.was in
    λ n. let s = open_rec n c.args.progress.now in
    rw c.rank-progress.ensures (took_c s l (points_none s l k _ e _ q) k.tag c.args.near.now c.args.far.now _ _ _ _ _ _ (points_say s l k _ e _ q) (points_read s l k _ e _ q) p.0 p.1)
