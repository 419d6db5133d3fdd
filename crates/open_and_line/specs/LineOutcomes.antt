-- What a line gives: answer, record, and the reading that it stores (document 01, Calls; Stops that come from the input).
use Rattle.std.specs.Prelude.{ℕ, ◌+◌, List, set, Option, Some, None, Result, Ok, Err}
use Rattle.meaning.specs.Blocks.{Blocks}
use Rattle.meaning.specs.Calls.{Out, out}
use Rattle.refusals.specs.declared.Refusal.{Refusal}
use Rattle.refusals.specs.Refusals.{refusal_number}
use Rattle.readings.specs.declared.Reading.{Reading}
use Rattle.progress.specs.declared.State.{State}
use Rattle.progress.specs.declared.State.TheVariants as states
use Rattle.progress.specs.declared.State.TheVariants.{Open}
use Rattle.progress.specs.declared.Progress.{Progress}
use Rattle.progress.specs.ProgressViews.{rec_of}
use Rattle.answers.specs.declared.Answer.TheVariants.{Accepted, Refused}
use Rattle.answers.specs.Views.{answer_view}
use Rattle.open_and_line.specs.declared.line_call.outcome.LineOutcome.{LineOutcome}

-- with the lent progress and the lent lists as the line leaves them
abbrev pub line_outcome_view : LineOutcome → Progress → Blocks → Out
line_outcome_view r p w = out (answer_view r.answer) (rec_of r.state r.count p) w

-- the list with the reading of a line at place n, if the line is accepted and has one
abbrev pub with_reading : List Reading → ℕ → Result (Option Reading) Refusal → List Reading
with_reading rs n (Ok (Some r)) = set rs n r
with_reading rs n (Ok None) = rs
with_reading rs n (Err y) = rs

-- a refusal, by its number, the state and the count after it
abbrev pub refused_of : State → ℕ → ℕ → LineOutcome
refused_of st n k = record { answer = Refused k n; state = st; count = n }

-- a line on an open record: refused or taken, and counted
abbrev pub line_outcome_of : ℕ → Result (Option Reading) Refusal → LineOutcome
line_outcome_of lines (Err y) = refused_of states.Refused (lines + 1) (refusal_number y)
line_outcome_of lines (Ok r) = record { answer = Accepted; state = Open; count = lines + 1 }
