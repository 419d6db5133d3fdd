-- The result of a close: answer, record, ten years and the lent blocks (document 01, Calls).
use Rattle.std.specs.Prelude.{List, ℕ, replicate, Result, Ok, Err}
use Rattle.rounding.specs.Units.{in_w}
use Rattle.meaning.specs.Blocks.{Blocks}
use Rattle.meaning.specs.Record.{Rec}
use Rattle.meaning.specs.Calls as meant
use Rattle.meaning.specs.Calls.{Out, accepted, refused, reported}
use Rattle.refusals.specs.declared.Refusal.{Refusal}
use Rattle.refusals.specs.Refusals.{refusal_number}
use Rattle.line_form.specs.declared.Site.{Site}
use Rattle.progress.specs.declared.State.{State}
use Rattle.progress.specs.declared.State.TheVariants as states
use Rattle.progress.specs.declared.Progress.{Progress}
use Rattle.progress.specs.ProgressViews.{rec_of}
use Rattle.close.specs.declared.outcome.file.YearRow.{YearRow}
use Rattle.close.specs.declared.outcome.file.FileReport.{FileReport}
use Rattle.close.specs.FileOutcomes.{no_year, years_repr}
use Rattle.answers.specs.declared.Answer.{Answer}
use Rattle.answers.specs.declared.Answer.TheVariants.{Accepted, Refused, Reported}
use Rattle.close.specs.declared.outcome.call.CloseOutcome.{CloseOutcome}

pub record CloseOut : Type 0 where
  pub answer : Answer
  pub after : Rec
  pub years : List YearRow
  pub blocks : Blocks

abbrev pub close_out : Answer → Rec → List YearRow → Blocks → CloseOut
close_out a s ys w = record { answer = a; after = s; years = ys; blocks = w }

-- the result in the code, for a record's count and progress, with the blocks after it
abbrev pub close_outcome_view : CloseOutcome → ℕ → Progress → Blocks → CloseOut
close_outcome_view r n p w = close_out r.answer (rec_of r.state n p) r.years w

-- ---- the result in the definitions: a report has ten years, empty where the file has no such year; a refusal's are all empty
unfoldable pub no_years : List YearRow
no_years = replicate 10 no_year

unfoldable pub answer_repr : meant.Answer → Answer
answer_repr accepted = Accepted
answer_repr (refused n c) = Refused n c
answer_repr (reported r) = Reported r.al r.filiere (in_w r.level) r.points

unfoldable pub years_beside : meant.Answer → List YearRow
years_beside accepted = no_years
years_beside (refused n c) = no_years
years_beside (reported r) = years_repr r.years

unfoldable pub close_repr : Out → CloseOut
close_repr o = close_out (answer_repr o.answer) o.after (years_beside o.answer) o.blocks

-- ---- results
-- a refusal, which leaves a record of n lines in a state
abbrev pub refused_of : State → ℕ → Refusal → CloseOutcome
refused_of st n y = record { answer = Refused (refusal_number y) n; state = st; years = no_years }

-- the close of a file: a refusal by 15 to 18 marks the record refused, a report closes it
unfoldable pub close_outcome_of : ℕ → Site → Result FileReport Refusal → CloseOutcome
close_outcome_of n t (Ok f) = record { answer = Reported t.al t.filiere f.level f.points; state = states.Closed; years = f.years }
close_outcome_of n t (Err y) = refused_of states.Refused n y
