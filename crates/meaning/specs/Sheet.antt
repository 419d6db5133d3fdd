-- The sheet that the lines of a file define, from the lines alone (document 01, The printed sheet).
use Rattle.std.specs.Prelude.{List, [], ◌∷◌, ◌++◌, ℕ, ◌+◌, length, replicate}
use Rattle.std.proofs.Math.Option.{Option, some, none}
use Rattle.meaning.specs.Filing.{Filing}
use Rattle.meaning.specs.Line.{Line}
use Rattle.meaning.specs.Refusals.{Reason, number_of}
use Rattle.meaning.specs.File.{refusal_at, filing_in}
use Rattle.meaning.specs.Level.{Report, report_of, curve_of, missing_entry}
use Rattle.meaning.specs.Closing.{CloseReason, close_number, closing_refusal}
use Rattle.meaning.specs.Blocks.{curve_size}

-- a refusal's number and count, or a level with its cases and counts; and the curve that is left
pub data Sheet : Type 0 where
  refused_sheet : ℕ → ℕ → Sheet
  level : Report → Sheet

pub record Outcome : Type 0 where
  pub sheet : Sheet
  pub curve : List ℕ

unfoldable pub no_curve : List ℕ
no_curve = replicate curve_size missing_entry

unfoldable pub refused_at : ℕ → ℕ → Outcome
refused_at n c = record { sheet = refused_sheet n c; curve = no_curve }

-- the close of a file of n lines
unfoldable pub closing_by : Option CloseReason → Filing → ℕ → Outcome
closing_by none F n = record { sheet = level (report_of F); curve = curve_of F }
closing_by (some k) F n = refused_at (close_number k) n

unfoldable pub closing_of : Filing → ℕ → Outcome
closing_of F n = closing_by (closing_refusal F) F n

unfoldable pub outcome_by : Option Reason → ℕ → Outcome → Outcome
outcome_by none n later = later
outcome_by (some y) n later = refused_at (number_of y) n

-- of the lines ls after the accepted lines es: the first line that is refused, else the close
unfoldable pub outcome_from : List Line → List Line → Outcome
outcome_from es [] = closing_of (filing_in es) (length es)
outcome_from es (l ∷ ls) = outcome_by (refusal_at es l) (length es + 1) (outcome_from (es ++ (l ∷ [])) ls)

unfoldable pub outcome_of : List Line → Outcome
outcome_of ls = outcome_from [] ls

unfoldable pub sheet_of : List Line → Sheet
sheet_of ls = (outcome_of ls).sheet
