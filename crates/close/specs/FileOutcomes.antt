-- The report of a file: level, points and years (document 01, Calls; The printed sheet).
use Rattle.std.specs.Prelude.{List, map, ℕ, get_or}
use Rattle.lists.specs.Lists.{tab}
use Rattle.rounding.specs.Units.{in_w}
use Rattle.meaning.specs.Level.{YearReport}
use Rattle.meaning.specs.Text.{letter_of_case}
use Rattle.close.specs.declared.outcome.file.YearRow.{YearRow}
use Rattle.close.specs.declared.outcome.file.FileReport.{FileReport}

abbrev pub year_row : ℕ → ℕ → ℕ → YearRow
year_row y c p = record { year = y; case = c; present = p }

-- a year that the file does not have
abbrev pub no_year : YearRow
no_year = year_row 0 0 0

abbrev pub file_report : ℕ → ℕ → List YearRow → FileReport
file_report l p ys = record { level = in_w l; points = p; years = ys }

-- ---- the years of a report
unfoldable pub year_repr : YearReport → YearRow
year_repr y = year_row y.year (letter_of_case y.case) y.present

-- ten years, empty where the file has no such year
unfoldable pub years_repr : List YearReport → List YearRow
years_repr ys = tab 10 0 (λ k. get_or (map year_repr ys) k no_year)
