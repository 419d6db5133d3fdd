-- Progress and steps, in the code and in the definitions of document 01.
use Rattle.std.specs.Prelude.{true, ◌≡◌, ℕ, Option, Some, None, Result, Ok, Err}
use Rattle.line_form.specs.Views.{site_view}
use Rattle.progress.specs.TallyViews.{last_dates_view, tallies_view}
use Rattle.meaning.specs.Line.{Line}
use Rattle.meaning.specs.Blocks.{Blocks}
use Rattle.meaning.specs.Record as meant
use Rattle.meaning.specs.Record.{Rec}
use Rattle.refusals.specs.declared.Refusal.{Refusal}
use Rattle.refusals.specs.Refusals.{refusal_number}
use Rattle.readings.specs.declared.Reading.{Reading}
use Rattle.readings.specs.Readings.{kind_view}
use Rattle.progress.specs.Steps.{Stepped, with_no_reading, step_of}
use Rattle.progress.specs.declared.State.{State}
use Rattle.progress.specs.declared.State.TheVariants.{NeverOpened, Open, Refused, Closed}
use Rattle.progress.specs.declared.Progress.{Progress}

abbrev pub state_view : State → meant.State
state_view NeverOpened = meant.unopened
state_view Open = meant.open_state
state_view Refused = meant.refused_state
state_view Closed = meant.closed_state

-- a record from its state, its count and its progress
abbrev pub rec_of : State → ℕ → Progress → Rec
rec_of st n p = record {
  state = state_view st;
  count = n;
  last = p.last;
  site = site_view p.site;
  readings = p.readings;
  last_index = p.last_index.0;
  lasts = last_dates_view p.lasts;
  tallies = tallies_view p.tallies;
}

abbrev pub open_rec : ℕ → Progress → Rec
open_rec n p = rec_of Open n p

-- an accepted line: the record and the blocks after it, and its reading if it has one
abbrev pub taken_view : Rec → Option Reading → Blocks → Stepped
taken_view s None w = with_no_reading 0 s w
taken_view s (Some r) w = record { number = 0; after = s; reads = true; position = r.position; index = r.count.0; kind = kind_view r.kind; blocks = w }

-- a line on an open record of count n, with the progress and the blocks after it: refused, or taken with the reading that it gives
abbrev pub step_view : ℕ → Progress → Result (Option Reading) Refusal → Blocks → Stepped
step_view n p (Err y) w = with_no_reading (refusal_number y) (open_rec n p) w
step_view n p (Ok r) w = taken_view (open_rec n p) r w

-- what is told of a line that has no reading
abbrev pub without_reading : Result (Unit {0}) Refusal → Result (Option Reading) Refusal
without_reading (Ok t) = Ok None
without_reading (Err y) = Err y

-- from the progress p and the blocks w to q and w', for every count: only E uses it
abbrev pub StepsTo : Progress → Line → Blocks → Progress → Result (Option Reading) Refusal → Blocks → Type 0
StepsTo p l w q r w' = (n : ℕ) → step_view n q r w' ≡ step_of (open_rec n p) l w
