use mathlib.Core.Path.{sym, ◌∙◌}
use Rattle.std.proofs.lemmas.Result.{err_from_is_err_and}
use Rattle.line_steps.proofs.OnAxis.{reading_told}
use Rattle.line_steps.proofs.readings_and_sums.checks.check_reading.Goals as goal

pub returns-in_err-read : goal.returns-in_err-read
returns-in_err-read c = let p = err_from_is_err_and c.from_residual.result c.from_residual.ensures.1 in rw (p.1, p.2, reading_told c.args.line.now c.args.progress.now.last c.args.progress.now.site.al c.args.progress.now.site.filiere c.args.progress.now.lasts.x c.args.progress.now.last_index.0 c.args.progress.now.readings c.requires, sym (rw (c.is_misplaced-misplaced.ensures, c.read_reading.ensures) at c.in_order.ensures) ∙ c.in_err-read.was)

pub returns-in_err-date : goal.returns-in_err-date
returns-in_err-date c = let p = err_from_is_err_and c.from_residual-in_err-date.result c.from_residual-in_err-date.ensures.1 in rw (p.1, p.2, reading_told c.args.line.now c.args.progress.now.last c.args.progress.now.site.al c.args.progress.now.site.filiere c.args.progress.now.lasts.x c.args.progress.now.last_index.0 c.args.progress.now.readings c.requires, sym (rw (c.is_misplaced-misplaced.ensures, c.read_reading.ensures) at c.in_order.ensures) ∙ c.in_ok-read.was, sym c.check_axis.ensures ∙ c.in_err-date.was)

pub returns-in_err-refuse_if : goal.returns-in_err-refuse_if
returns-in_err-refuse_if c = let p = err_from_is_err_and c.from_residual-in_err-refuse_if.result c.from_residual-in_err-refuse_if.ensures.1 in rw (p.1, p.2, reading_told c.args.line.now c.args.progress.now.last c.args.progress.now.site.al c.args.progress.now.site.filiere c.args.progress.now.lasts.x c.args.progress.now.last_index.0 c.args.progress.now.readings c.requires, sym (rw (c.is_misplaced-misplaced.ensures, c.read_reading.ensures) at c.in_order.ensures) ∙ c.in_ok-read.was, sym c.check_axis.ensures ∙ c.in_ok-date.was, sym c.refuse_if.ensures ∙ c.in_err-refuse_if.was)

pub returns-in_err-refuse_if-2 : goal.returns-in_err-refuse_if-2
returns-in_err-refuse_if-2 c = let p = err_from_is_err_and c.from_residual-in_err-refuse_if-2.result c.from_residual-in_err-refuse_if-2.ensures.1 in rw (p.1, p.2, reading_told c.args.line.now c.args.progress.now.last c.args.progress.now.site.al c.args.progress.now.site.filiere c.args.progress.now.lasts.x c.args.progress.now.last_index.0 c.args.progress.now.readings c.requires, sym (rw (c.is_misplaced-misplaced.ensures, c.read_reading.ensures) at c.in_order.ensures) ∙ c.in_ok-read.was, sym c.check_axis.ensures ∙ c.in_ok-date.was, sym c.refuse_if.ensures ∙ c.in_ok-refuse_if.was, sym c.refuse_if-2.ensures ∙ c.in_err-refuse_if-2.was)

pub returns : goal.returns
returns c = rw (reading_told c.args.line.now c.args.progress.now.last c.args.progress.now.site.al c.args.progress.now.site.filiere c.args.progress.now.lasts.x c.args.progress.now.last_index.0 c.args.progress.now.readings c.requires, sym (rw (c.is_misplaced-misplaced.ensures, c.read_reading.ensures) at c.in_order.ensures) ∙ c.in_ok-read.was, sym c.check_axis.ensures ∙ c.in_ok-date.was, sym c.refuse_if.ensures ∙ c.in_ok-refuse_if.was, sym c.refuse_if-2.ensures ∙ c.in_ok-refuse_if-2.was)
