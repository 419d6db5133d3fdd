-- Refusal 1 at the close: one profile value (document 01, Stops that come from the input).
use Rattle.std.specs.Prelude.{Bool, ◌&&◌, ◌||◌, ℕ, eqb, leb}
use Rattle.meaning.specs.Line.{most_profile}

-- a profile value that P can give at a place with a date, or 0
unfoldable pub slot_fits : Bool → ℕ → Bool
slot_fits dated v = eqb v 0 || (dated && leb v most_profile)
