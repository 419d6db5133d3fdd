use mathlib.Core.Path.{sym, ◌∙◌}
use Rattle.std.proofs.lemmas.Result.{err_from_is_err_and}
use Rattle.line_steps.proofs.OnAxis.{daily_told}
use Rattle.line_steps.proofs.readings_and_sums.checks.check_daily.Goals as goal

pub returns-in_err-read : goal.returns-in_err-read
returns-in_err-read c = let p = err_from_is_err_and c.from_residual.result c.from_residual.ensures.1 in rw (p.1, p.2, daily_told c.args.line.now c.args.progress.now.last c.args.progress.now.site.al c.args.progress.now.site.filiere c.args.progress.now.lasts.d c.requires, sym (rw (c.is_misplaced-misplaced.ensures, c.read_daily.ensures) at c.in_order.ensures) ∙ c.in_err-read.was)

pub returns-in_err-date : goal.returns-in_err-date
returns-in_err-date c = let p = err_from_is_err_and c.from_residual-in_err-date.result c.from_residual-in_err-date.ensures.1 in rw (p.1, p.2, daily_told c.args.line.now c.args.progress.now.last c.args.progress.now.site.al c.args.progress.now.site.filiere c.args.progress.now.lasts.d c.requires, sym (rw (c.is_misplaced-misplaced.ensures, c.read_daily.ensures) at c.in_order.ensures) ∙ c.in_ok-read.was, sym c.check_axis.ensures ∙ c.in_err-date.was)

pub returns : goal.returns
returns c = rw (daily_told c.args.line.now c.args.progress.now.last c.args.progress.now.site.al c.args.progress.now.site.filiere c.args.progress.now.lasts.d c.requires, sym (rw (c.is_misplaced-misplaced.ensures, c.read_daily.ensures) at c.in_order.ensures) ∙ c.in_ok-read.was, sym c.check_axis.ensures ∙ c.in_ok-date.was)
