-- What a run over pieces promises, each one statement.
use Rattle.std.specs.Prelude.{◌≡◌, false, List, [], ◌∷◌, ℕ, ◌*◌, ◌<◌, T, length}
use Rattle.lists.specs.Lists.{flat}
use Rattle.text.specs.Fields.{field_at}
use Rattle.meaning.specs.Line.{number_at}
use Rattle.meaning.specs.Input.{lines_of}
use Rattle.meaning.specs.File.{filing_in}
use Rattle.meaning.specs.Level.{Report, lowest_rate}
use Rattle.demands.specs.Exact.{exact_fraction}
use Rattle.meaning.specs.Text.{text_of}
use Rattle.meaning.specs.Blocks.{Blocks, sizes_fit}
use Rattle.meaning.specs.Record.{Rec}
use Rattle.meaning.specs.Sheet.{level, sheet_of, outcome_of}
use Rattle.demands.specs.CallLists.{outcome_of_out}
use Rattle.demands.specs.Demands.{Within, Bounded}
use Rattle.pieces.specs.Run.{is_final, started, fed, ran_over, text_out}

-- whatever record and blocks held, and wherever the input is cut: the sheet and the curve are those of the lines of the pieces put together
abbrev pub Pieces : Type 0
Pieces = (s : Rec) (w : Blocks) → T (sizes_fit w) → (ps : List (List ℕ)) → outcome_of_out (ran_over s w ps) ≡ outcome_of (lines_of (flat ps))

abbrev pub PiecesText : Type 0
PiecesText = (s : Rec) (w : Blocks) → T (sizes_fit w) → (ps : List (List ℕ)) → text_out (ran_over s w ps) ≡ text_of (sheet_of (lines_of (flat ps)))

-- 8,032 lines of 321 bytes, the byte 10 or the 321st included
abbrev pub most_input : ℕ
most_input = 8032 * 321

-- a run that has no final answer has had less than that
abbrev pub AnswerComes : Type 0
AnswerComes =
    (s : Rec) (w : Blocks) → T (sizes_fit w) → (bs : List ℕ)
    → is_final (fed (started s w) bs).out.answer ≡ false → length bs < most_input

-- a level on a sheet lies within the bound of demand 3
abbrev pub LevelBounded : Type 0
LevelBounded = (bs : List ℕ) (r : Report) → sheet_of (lines_of bs) ≡ level r → Bounded (filing_in (lines_of bs)) r

-- so where a run's text begins with an N line, its third number is within that bound of the lines' exact fraction
abbrev pub NccBounded : Type 0
NccBounded =
    (s : Rec) (w : Blocks) → T (sizes_fit w) → (ps : List (List ℕ)) → field_at (text_out (ran_over s w ps)) 0 ≡ 78 ∷ []
    → Within 3 1 (lowest_rate (filing_in (lines_of (flat ps)))) (number_at (text_out (ran_over s w ps)) 3) (exact_fraction (filing_in (lines_of (flat ps))))
