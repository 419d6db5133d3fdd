use mathlib.Core.Path.{sym, ◌∙◌}
use Rattle.calendar.proofs.Laws.{has_date_cases}
use Rattle.calendar.proofs.rows.has_date.Goals as goal

pub returns : goal.returns
returns c = c.has_place.ensures ∙ sym (has_date_cases _ _)
