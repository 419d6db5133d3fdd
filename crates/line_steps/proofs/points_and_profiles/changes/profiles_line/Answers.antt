use mathlib.Core.Path.{ap, sym, ◌∙◌}
use Rattle.std.proofs.lemmas.Result.{err_from_is_err_and}
use Rattle.progress.specs.ProgressViews.{open_rec}
use native.Mathlib.Omega.{arith}
use lib.ListN.{length}
use Rattle.line_form.proofs.ValueChecks.{profile_count}
use Rattle.progress.specs.Steps.{slot_block}
use Rattle.progress.proofs.Steps.{step_refused}
use Rattle.progress.proofs.DatedLines.{profiles_row, profiles_history, took_p}
use Rattle.line_steps.proofs.PointSteps.{profiles_seen, profiles_none, profiles_say, profiles_read, profiles_place}
use Rattle.line_steps.proofs.points_and_profiles.changes.profiles_line.Goals as goal

pub returns-in_err-checked : goal.returns-in_err-checked
returns-in_err-checked c =
    let l = c.args.line.now in
    let k = c.requires.0 in
    λ n. let s = open_rec n c.args.progress.now in
    let p = err_from_is_err_and c.from_residual.result c.from_residual.ensures.1 in
    rw (p.1, p.2) (step_refused s l (slot_block c.args.slots.now) _ _ (sym c.in_err-checked.was ∙ profiles_seen s l k _ c.check_profiles.ensures))

pub row-i-requires : goal.row-i-requires
row-i-requires c = (profiles_place (open_rec 0 c.args.progress.now) c.args.line.now c.requires.0 _ c.check_profiles.ensures _ c.in_ok-checked.was _ c.history-years.ensures).from

pub put_profiles-requires : goal.put_profiles-requires
put_profiles-requires c =
    let l = c.args.line.now in
    let k = c.requires.0 in
    let s = open_rec 0 c.args.progress.now in
    let e = c.check_profiles.ensures in
    let q = c.in_ok-checked.was in
    let r = profiles_place (open_rec 0 c.args.progress.now) c.args.line.now c.requires.0 _ c.check_profiles.ensures _ c.in_ok-checked.was _ c.history-years.ensures in (
      ap length (profiles_read s l k _ e _ q) ∙ profile_count l,
      (r.from, omega (arith, r.from, r.below)),
      (rw (profiles_say s l k _ e _ q).1 (profiles_row s l (profiles_none s l k _ e _ q) k.tag).1, c.requires.2),
    )

pub offset_bounds-progress-i : goal.offset_bounds-progress-i
offset_bounds-progress-i c = omega (arith, (profiles_place (open_rec 0 c.args.progress.now) c.args.line.now c.requires.0 _ c.check_profiles.ensures _ c.in_ok-checked.was _ c.history-years.ensures).below)

pub bounds-progress-i : goal.bounds-progress-i
bounds-progress-i c = omega (arith, (profiles_place (open_rec 0 c.args.progress.now) c.args.line.now c.requires.0 _ c.check_profiles.ensures _ c.in_ok-checked.was _ c.history-years.ensures).below)

pub bounds-progress-i-2 : goal.bounds-progress-i-2
bounds-progress-i-2 c = omega (arith, (profiles_place (open_rec 0 c.args.progress.now) c.args.line.now c.requires.0 _ c.check_profiles.ensures _ c.in_ok-checked.was _ c.history-years.ensures).below)

pub returns : goal.returns
returns c =
    let l = c.args.line.now in
    let k = c.requires.0 in
    let h = c.history-years in
    let e = c.check_profiles.ensures in
    let q = c.in_ok-checked.was in
    λ n. let s = open_rec n c.args.progress.now in
    let f = profiles_none s l k _ e _ q in
    rw (c.rank-progress.ensures, c.row-i.ensures) (took_p s l f k.tag c.args.slots.now _ _ h.result _ _ _ (profiles_say s l k _ e _ q) (h.ensures ∙ profiles_history s l f k.tag) (profiles_read s l k _ e _ q) c.put_profiles.ensures)
