-- The answers of the code, as the definitions of document 01 have them (document 01, Calls).
use Rattle.std.specs.Prelude.{[], ℕ, Result, Ok, Err}
use Rattle.meaning.specs.Calls as meant
use Rattle.meaning.specs.Calls.{accepted, refused, reported}
use Rattle.refusals.specs.declared.Refusal.{Refusal}
use Rattle.refusals.specs.Refusals.{refusal_number}
use Rattle.answers.specs.declared.Answer.{Answer}
use Rattle.answers.specs.declared.Answer.TheVariants.{Accepted, Refused, Reported}

-- a refusal has document 01's number and the count of lines; opening and line report no level, so there are no years beside it
abbrev pub answer_view : Answer → meant.Answer
answer_view Accepted = accepted
answer_view (Refused n c) = refused n c
answer_view (Reported al f w k) = reported (record { al = al; filiere = f; level = w.0; points = k; years = [] })

-- the answer to a line that was taken or refused
unfoldable pub answer_to : Result (Unit {0}) Refusal → ℕ → Answer
answer_to (Ok _) c = Accepted
answer_to (Err y) c = Refused (refusal_number y) c
