-- Refusal 1 at the close: all blocks (document 01, Stops that come from the input).
use Rattle.std.specs.Prelude.{Bool, ◌&&◌, List, ℕ, ◌-◌}
use Rattle.calendar.specs.declared.Years.{Years}
use Rattle.meaning.specs.Record.{points_fit, slots_fit, daily_fits, readings_fit}
use Rattle.readings.specs.Columns.{readings_in}

-- all five kinds of contents; near rows run from AL-9, far rows end before them
unfoldable pub contents_in : Years → Years → ℕ → List ℕ → List ℕ → List ℕ → List ℕ → List ℕ → List ℕ → List ℕ → ℕ → Bool
contents_in history axis al near far slots daily ps xs ks n =
    (points_fit history (al - 9) near && points_fit history (al - 14) far) && ((slots_fit history slots && daily_fits axis daily) && readings_fit axis (readings_in ps xs ks n))
