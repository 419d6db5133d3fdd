-- The lines of an input: separated by byte 10, which may be missing after the last one (document 01, The printed sheet).
use Rattle.std.specs.Prelude.{cond, List, [], ◌∷◌, ℕ, eqb}
use Rattle.meaning.specs.Line.{Line}

-- one byte more in front of the first line
unfoldable pub ahead : ℕ → List Line → List Line
ahead b [] = (b ∷ []) ∷ []
ahead b (l ∷ ls) = (b ∷ l) ∷ ls

unfoldable pub lines_of : List ℕ → List Line
lines_of [] = []
lines_of (b ∷ bs) = cond (eqb b 10) ([] ∷ lines_of bs) (ahead b (lines_of bs))
