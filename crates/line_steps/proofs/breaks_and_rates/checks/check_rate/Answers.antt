use mathlib.Core.Path.{sym, ◌∙◌}
use Rattle.std.proofs.lemmas.Result.{err_from_is_err_and}
use Rattle.line_checks.proofs.ByTag.{rate_told}
use Rattle.line_steps.proofs.breaks_and_rates.checks.check_rate.Goals as goal

pub returns-in_err-read : goal.returns-in_err-read
returns-in_err-read c = let p = err_from_is_err_and c.from_residual.result c.from_residual.ensures.1 in rw (p.1, p.2, rate_told c.args.line.now c.args.progress.now.last c.args.progress.now.site.al c.args.progress.now.site.filiere c.args.progress.now.lasts.r c.requires, sym (rw (c.is_misplaced-misplaced.ensures, c.read_rate.ensures) at c.in_order.ensures) ∙ c.in_err-read.was)

pub returns-in_err-rising_checks : goal.returns-in_err-rising_checks
returns-in_err-rising_checks c = let p = err_from_is_err_and c.from_residual-in_err-rising_checks.result c.from_residual-in_err-rising_checks.ensures.1 in rw (p.1, p.2, rate_told c.args.line.now c.args.progress.now.last c.args.progress.now.site.al c.args.progress.now.site.filiere c.args.progress.now.lasts.r c.requires, sym (rw (c.is_misplaced-misplaced.ensures, c.read_rate.ensures) at c.in_order.ensures) ∙ c.in_ok-read.was, sym (rw (c.is_outside-outside.ensures, c.history-years.ensures, c.is_rate_outside.ensures) at c.rising_checks.ensures) ∙ c.in_err-rising_checks.was)

pub returns : goal.returns
returns c = rw (rate_told c.args.line.now c.args.progress.now.last c.args.progress.now.site.al c.args.progress.now.site.filiere c.args.progress.now.lasts.r c.requires, sym (rw (c.is_misplaced-misplaced.ensures, c.read_rate.ensures) at c.in_order.ensures) ∙ c.in_ok-read.was, sym (rw (c.is_outside-outside.ensures, c.history-years.ensures, c.is_rate_outside.ensures) at c.rising_checks.ensures) ∙ c.in_ok-rising_checks.was)
