use mathlib.Core.Path.{sym, ◌∙◌}
use Rattle.calendar.proofs.Laws.Answers.{winter_day_by, no_winter_day}
use Rattle.calendar.proofs.places.winter_day_at.Goals as goal

pub returns-in_err-date_of_winter : goal.returns-in_err-date_of_winter
returns-in_err-date_of_winter c =
    c.from_residual.ensures ∙ sym (no_winter_day c.args.place (sym c.date_of_winter.ensures ∙ c.in_err-date_of_winter.was))

pub returns : goal.returns
returns c =
    c.day_at.ensures ∙ winter_day_by c.args.place _ (sym c.date_of_winter.ensures ∙ c.in_ok-date_of_winter.was)
