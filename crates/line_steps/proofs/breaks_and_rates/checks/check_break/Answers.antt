use mathlib.Core.Path.{sym, ◌∙◌}
use Rattle.std.proofs.lemmas.Result.{err_from_is_err_and}
use Rattle.line_checks.proofs.ByTag.{break_told}
use Rattle.line_steps.proofs.breaks_and_rates.checks.check_break.Goals as goal

pub returns-in_err-year : goal.returns-in_err-year
returns-in_err-year c = let p = err_from_is_err_and c.from_residual.result c.from_residual.ensures.1 in rw (p.1, p.2, break_told c.args.line.now c.args.progress.now.last c.args.progress.now.site.al c.args.progress.now.site.filiere c.args.progress.now.lasts.b c.requires, sym (rw (c.is_misplaced-misplaced.ensures, c.read_year.ensures) at c.in_order.ensures) ∙ c.in_err-year.was)

pub returns-in_err-rising_checks : goal.returns-in_err-rising_checks
returns-in_err-rising_checks c = let p = err_from_is_err_and c.from_residual-in_err-rising_checks.result c.from_residual-in_err-rising_checks.ensures.1 in rw (p.1, p.2, break_told c.args.line.now c.args.progress.now.last c.args.progress.now.site.al c.args.progress.now.site.filiere c.args.progress.now.lasts.b c.requires, sym (rw (c.is_misplaced-misplaced.ensures, c.read_year.ensures) at c.in_order.ensures) ∙ c.in_ok-year.was, sym (rw (c.contains.ensures, c.history-years.ensures) at c.rising_checks.ensures) ∙ c.in_err-rising_checks.was)

pub returns : goal.returns
returns c = rw (break_told c.args.line.now c.args.progress.now.last c.args.progress.now.site.al c.args.progress.now.site.filiere c.args.progress.now.lasts.b c.requires, sym (rw (c.is_misplaced-misplaced.ensures, c.read_year.ensures) at c.in_order.ensures) ∙ c.in_ok-year.was, sym (rw (c.contains.ensures, c.history-years.ensures) at c.rising_checks.ensures) ∙ c.in_ok-rising_checks.was)
