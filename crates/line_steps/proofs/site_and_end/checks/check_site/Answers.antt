use mathlib.Core.Path.{sym, ◌∙◌}
use Rattle.std.proofs.lemmas.Result.{err_from_is_err_and}
use Rattle.line_checks.proofs.ByTag.{site_told}
use Rattle.line_steps.proofs.site_and_end.checks.check_site.Goals as goal

pub returns-in_err-site : goal.returns-in_err-site
returns-in_err-site c = let p = err_from_is_err_and c.from_residual.result c.from_residual.ensures.1 in rw (p.1, p.2, site_told c.args.line.now c.args.progress.now.last c.requires, sym (rw (c.read_site.ensures) at c.in_order.ensures) ∙ c.in_err-site.was)

pub returns-in_err-refuse_if : goal.returns-in_err-refuse_if
returns-in_err-refuse_if c = let p = err_from_is_err_and c.from_residual-in_err-refuse_if.result c.from_residual-in_err-refuse_if.ensures.1 in rw (p.1, p.2, site_told c.args.line.now c.args.progress.now.last c.requires, sym (rw (c.read_site.ensures) at c.in_order.ensures) ∙ c.in_ok-site.was, sym (rw c.is_site_outside.ensures at c.refuse_if.ensures) ∙ c.in_err-refuse_if.was)

pub returns-in_err-refuse_if-2 : goal.returns-in_err-refuse_if-2
returns-in_err-refuse_if-2 c = let p = err_from_is_err_and c.from_residual-in_err-refuse_if-2.result c.from_residual-in_err-refuse_if-2.ensures.1 in rw (p.1, p.2, site_told c.args.line.now c.args.progress.now.last c.requires, sym (rw (c.read_site.ensures) at c.in_order.ensures) ∙ c.in_ok-site.was, sym (rw c.is_site_outside.ensures at c.refuse_if.ensures) ∙ c.in_ok-refuse_if.was, sym (rw c.is_too_soon.ensures at c.refuse_if-2.ensures) ∙ c.in_err-refuse_if-2.was)

pub returns : goal.returns
returns c = rw (site_told c.args.line.now c.args.progress.now.last c.requires, sym (rw (c.read_site.ensures) at c.in_order.ensures) ∙ c.in_ok-site.was, sym (rw c.is_site_outside.ensures at c.refuse_if.ensures) ∙ c.in_ok-refuse_if.was, sym (rw c.is_too_soon.ensures at c.refuse_if-2.ensures) ∙ c.in_ok-refuse_if-2.was)
