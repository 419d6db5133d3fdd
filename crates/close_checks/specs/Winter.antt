-- Refusal 1 at the close: one place of the blocks by winter place (document 01, Stops that come from the input).
use Rattle.std.specs.Prelude.{Bool, ℕ, ◌+◌, ◌/◌, ◌%◌}
use Rattle.calendar.specs.declared.Years.{Years}
use Rattle.meaning.specs.Blocks.{row_size}
use Rattle.meaning.specs.Record.{is_dated}

-- a place in rows of winter dates has a date of the history; the first row is that of the year first
unfoldable pub dated_at : Years → ℕ → ℕ → Bool
dated_at history first i = is_dated history (first + i / row_size) (i % row_size / 20)

-- a day in such rows has a date of the history
unfoldable pub dated_on : Years → ℕ → ℕ → Bool
dated_on history first day = is_dated history (first + day / 152) (day % 152)
