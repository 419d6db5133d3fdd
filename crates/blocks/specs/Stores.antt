-- Where the 20 values of a P line are stored, and as what (document 01, Calls and the lines of a file).
use Rattle.std.specs.Prelude.{List, map, ℕ, ◌+◌, min}
use Rattle.std.proofs.lemmas.List.Edits.{sets}
use Rattle.meaning.specs.Line.{most_profile}
use Rattle.meaning.specs.Blocks.{slots_start, slot_at}

unfoldable pub profile_code : ℕ → ℕ
profile_code v = min v most_profile

-- the slot block with the values of a P line stored, by oldest history year, year and winter place
unfoldable pub slots_put : ℕ → ℕ → ℕ → List ℕ → List ℕ → List ℕ
slots_put oldest y w values slots = sets slots (slots_start oldest y + slot_at w 0) (map profile_code values)
