-- 1 at a close: record, blocks and their contents (document 01, both sections on stops).
use Rattle.std.specs.Prelude.{◌≡◌, Bool, ◌&&◌, ℕ}
use Rattle.meaning.specs.Blocks.{Blocks}
use Rattle.meaning.specs.Record.{Rec, rec_fits, contents_fit}
use Rattle.progress.specs.declared.State.{State}
use Rattle.progress.specs.declared.Progress.{Progress}
use Rattle.progress.specs.ProgressViews.{rec_of}
use Rattle.answers.specs.declared.lengths.Lengths.{Lengths}
use Rattle.answers.specs.Refusals.{lengths_fit}

-- 1, from the lengths of the lent blocks, and the blocks with the readings of the columns
unfoldable pub all_fit : Rec → Lengths → Blocks → Bool
all_fit s n w = lengths_fit n.near n.far n.slots n.daily n.readings n.curve && (rec_fits s && contents_fit s w)

-- a test has found whether the blocks' contents fit, for any state and count
abbrev pub FoundFit : Progress → Blocks → Bool → Type 0
FoundFit p w b = (st : State) (n : ℕ) → b ≡ contents_fit (rec_of st n p) w
