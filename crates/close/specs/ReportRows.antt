-- The report of a file, from the totals of its curve (document 01, Calls; The printed sheet).
use Rattle.std.specs.Prelude.{List, ℕ, ◌+◌, get_or}
use Rattle.calendar.specs.declared.Years.{Years}
use Rattle.meaning.specs.Text.{letter_of_case}
use Rattle.history.specs.declared.cases.Case.{Case}
use Rattle.history.specs.declared.cases.Case.TheVariants.{M}
use Rattle.history.specs.Cases.{case_view}
use Rattle.history.specs.Years.{by_history}
use Rattle.curve.specs.declared.CurveTotals.{CurveTotals}
use Rattle.curve.specs.Places.{ncc_of}
use Rattle.close.specs.declared.outcome.file.YearRow.{YearRow}
use Rattle.close.specs.declared.outcome.file.FileReport.{FileReport}
use Rattle.close.specs.FileOutcomes.{year_row, no_year, file_report}

-- from a year's case and its points present
unfoldable pub row_in : ℕ → Case → ℕ → YearRow
row_in y case present = year_row y (letter_of_case (case_view case)) present

unfoldable pub rows_in : Years → List Case → List ℕ → List YearRow
rows_in history cases present = by_history history.count no_year (λ k. row_in (history.first + k) (get_or cases k M) (get_or present k 0))

unfoldable pub reported_by : ℕ → ℕ → Years → List Case → CurveTotals → FileReport
reported_by al f history cases x = file_report (ncc_of al f x.sum.0 x.counted) x.counted (rows_in history cases x.present)
