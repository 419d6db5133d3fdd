-- What a run returns (document 01, The printed sheet): the text of the sheet of an input, and its NCC.
use Rattle.std.specs.Prelude.{◌≡◌, List, [], ◌∷◌, ◌++◌, ℕ, take}
use Rattle.text.specs.Fields.{field_at}
use Rattle.meaning.specs.Line.{number_at}
use Rattle.meaning.specs.Input.{lines_of}
use Rattle.meaning.specs.File.{filing_in}
use Rattle.meaning.specs.Level.{lowest_rate}
use Rattle.meaning.specs.Text.{text_of}
use Rattle.meaning.specs.Sheet.{sheet_of}
use Rattle.demands.specs.Exact.{exact_fraction}
use Rattle.demands.specs.Demands.{Within}
use Rattle.sheet.specs.declared.Printed.{Printed}
use Rattle.sheet.specs.SheetTexts.{Holds}
use Rattle.file_run.specs.declared.ends.End.{End}
use Rattle.file_run.specs.declared.ends.End.TheVariants.{Answer, Input}

-- the text that is handed out
abbrev pub text_in : Printed → List ℕ
text_in p = take p.length p.bytes

abbrev pub SheetOf : Printed → List ℕ → Type 0
SheetOf p bs = Holds p (text_of (sheet_of (lines_of bs)))

-- where the text begins with an N line, its third number is within the bound of demand 3 of the exact fraction of the lines
abbrev pub NccWithin : Printed → List ℕ → Type 0
NccWithin p bs =
    field_at (text_in p) 0 ≡ 78 ∷ []
    → Within 3 1 (lowest_rate (filing_in (lines_of bs))) (number_at (text_in p) 3) (exact_fraction (filing_in (lines_of bs)))

-- after a final answer, the sheet of the bytes read whatever follows them; at the input's end, theirs
unfoldable pub PrintsSheet : End → Printed → Type 0
PrintsSheet Answer p = (bs : List ℕ) × ((cs : List ℕ) → SheetOf p (bs ++ cs))
PrintsSheet Input p = (bs : List ℕ) × SheetOf p bs
