use mathlib.Core.Path.{sym, ◌∙◌}
use Rattle.std.proofs.lemmas.Result.{err_from_is_err_and}
use Rattle.line_form.specs.Ranges.{is_count_outside}
use Rattle.line_checks.proofs.ByTag.{end_told}
use Rattle.line_steps.proofs.site_and_end.checks.check_end.Goals as goal

pub returns-in_err-lines : goal.returns-in_err-lines
returns-in_err-lines c = let p = err_from_is_err_and c.from_residual.result c.from_residual.ensures.1 in rw (p.1, p.2, end_told c.args.line.now c.args.progress.now.last c.args.count c.requires, sym (rw (c.is_misplaced-misplaced.ensures, c.read_count.ensures) at c.in_order.ensures) ∙ c.in_err-lines.was)

pub returns-in_err-refuse_if : goal.returns-in_err-refuse_if
unfolding is_count_outside
returns-in_err-refuse_if c = let p = err_from_is_err_and c.from_residual-in_err-refuse_if.result c.from_residual-in_err-refuse_if.ensures.1 in rw (p.1, p.2, end_told c.args.line.now c.args.progress.now.last c.args.count c.requires, sym (rw (c.is_misplaced-misplaced.ensures, c.read_count.ensures) at c.in_order.ensures) ∙ c.in_ok-lines.was, sym c.refuse_if.ensures ∙ c.in_err-refuse_if.was)

pub returns : goal.returns
unfolding is_count_outside
returns c = rw (end_told c.args.line.now c.args.progress.now.last c.args.count c.requires, sym (rw (c.is_misplaced-misplaced.ensures, c.read_count.ensures) at c.in_order.ensures) ∙ c.in_ok-lines.was, sym c.refuse_if.ensures ∙ c.in_ok-refuse_if.was) c.refuse_if-2.ensures
