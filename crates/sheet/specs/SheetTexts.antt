-- The text of an answer and its years (document 01, The printed sheet).
use Rattle.std.specs.Prelude.{◌≡◌, cond, List, [], ◌∷◌, ◌++◌, map, ℕ, eqb, length, take}
use Rattle.lists.specs.Lists.{flat}
use Rattle.meaning.specs.Text.{end_byte, tabbed, level_text, year_text, refusal_line}
use Rattle.close.specs.declared.outcome.file.YearRow.{YearRow}
use Rattle.answers.specs.declared.Answer.{Answer}
use Rattle.answers.specs.declared.Answer.TheVariants.{Accepted, Refused, Reported}
use Rattle.sheet.specs.declared.Printed.{Printed}

-- a letter, and each number after a tab
unfoldable pub line_text : ℕ → List ℕ → List ℕ
line_text c ns = (c ∷ []) ++ (flat (map tabbed ns) ++ (end_byte ∷ []))

-- a year that the file does not have has no line
unfoldable pub row_text : YearRow → List ℕ
row_text y = cond (eqb y.year 0) [] (year_text y.year y.case y.present)

unfoldable pub rows_text : List YearRow → List ℕ
rows_text ys = flat (map row_text ys)

unfoldable pub sheet_text : Answer → List YearRow → List ℕ
sheet_text Accepted ys = refusal_line 0 0
sheet_text (Refused n c) ys = refusal_line n c
sheet_text (Reported al f w k) ys = level_text al f w.0 k ++ rows_text ys

-- the first bytes are the text
pub record Holds (r : Printed) (s : List ℕ) : Type 0 where
  pub length : r.length ≡ length s
  pub bytes : take r.length r.bytes ≡ s
