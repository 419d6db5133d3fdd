use mathlib.Core.Path.{sym, ◌∙◌}
use Rattle.std.proofs.lemmas.Result.{err_from_is_err_and}
use Rattle.line_form.specs.Views.{meter_view}
use Rattle.line_steps.proofs.InWinter.{points_told}
use Rattle.line_steps.proofs.points_and_profiles.checks.check_points.Goals as goal

pub returns-in_err-read : goal.returns-in_err-read
returns-in_err-read c =
    let p = err_from_is_err_and c.from_residual.result c.from_residual.ensures.1 in
    rw (p.1, p.2, points_told c.args.line.now c.args.progress.now.last c.args.progress.now.site.al c.args.progress.now.site.filiere c.args.progress.now.lasts.c (meter_view c.args.progress.now.site.meter) c.requires, sym (rw (c.points_misplaced.ensures, c.read_points.ensures) at c.in_order.ensures) ∙ c.in_err-read.was)

pub returns-in_err-date : goal.returns-in_err-date
returns-in_err-date c =
    let p = err_from_is_err_and c.from_residual-in_err-date.result c.from_residual-in_err-date.ensures.1 in
    rw (p.1, p.2, points_told c.args.line.now c.args.progress.now.last c.args.progress.now.site.al c.args.progress.now.site.filiere c.args.progress.now.lasts.c (meter_view c.args.progress.now.site.meter) c.requires, sym (rw (c.points_misplaced.ensures, c.read_points.ensures) at c.in_order.ensures) ∙ c.in_ok-read.was, sym (rw (c.history-years.ensures, c.points_outside-above.ensures) at c.check_winter.ensures) ∙ c.in_err-date.was)

pub returns : goal.returns
returns c = rw (points_told c.args.line.now c.args.progress.now.last c.args.progress.now.site.al c.args.progress.now.site.filiere c.args.progress.now.lasts.c (meter_view c.args.progress.now.site.meter) c.requires, sym (rw (c.points_misplaced.ensures, c.read_points.ensures) at c.in_order.ensures) ∙ c.in_ok-read.was, sym (rw (c.history-years.ensures, c.points_outside-above.ensures) at c.check_winter.ensures) ∙ c.in_ok-date.was)
