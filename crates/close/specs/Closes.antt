-- The result of the close of a filing, and what 1 and 14 have checked before (document 01, Calls and both sections on stops).
use Rattle.std.specs.Prelude.{true, not, List, ℕ, ◌-◌, ◌≤◌, T, Result, Ok, Err}
use Rattle.std.proofs.Math.Option.{Option, some, none}
use Rattle.calendar.specs.Spans.{axis_years}
use Rattle.meaning.specs.Filing.{Site, Filing}
use Rattle.meaning.specs.Refusals.{is_too_soon, most_readings}
use Rattle.meaning.specs.Level.{Report, report_of, curve_of}
use Rattle.meaning.specs.Closing.{CloseReason, closing_refusal}
use Rattle.meaning.specs.Blocks.{Blocks, sizes_fit, readings_of}
use Rattle.meaning.specs.Record.{Tallies, history_of_site, site_fits, tallies_fit, points_fit, slots_fit, daily_fits, readings_fit}
use Rattle.refusals.specs.declared.Refusal.{Refusal}
use Rattle.refusals.specs.Refusals.{of_close_reason}
use Rattle.readings.specs.Columns.{Columned}
use Rattle.close.specs.declared.outcome.file.FileReport.{FileReport}
use Rattle.close.specs.FileOutcomes.{file_report, years_repr}

-- ---- 1 for a file whose S was taken: site, number of readings and numbers by year are in their ranges, and the blocks hold what lines can give
pub record FileFits (t : Site) (n : ℕ) (k : Tallies) (w : Blocks) (ps xs ks : List ℕ) : Type 0 where
  pub site : T (site_fits true t)
  -- 9
  pub not_too_soon : T (not (is_too_soon t.al t.filiere))
  pub few : n ≤ most_readings
  pub tallies : T (tallies_fit (history_of_site t) k)
  pub sizes : T (sizes_fit w)
  pub near : T (points_fit (history_of_site t) (t.al - 9) w.near)
  pub far : T (points_fit (history_of_site t) (t.al - 14) w.far)
  pub slots : T (slots_fit (history_of_site t) w.slots)
  pub daily : T (daily_fits (axis_years (history_of_site t)) w.daily)
  pub readings : T (readings_fit (axis_years (history_of_site t)) (readings_of w n))
  -- three columns hold the readings
  pub columns : Columned w n ps xs ks

-- ---- the result, with the curve after it
pub record FileOut : Type 0 where
  pub closing : Result FileReport Refusal
  pub curve : List ℕ

abbrev pub file_out : Result FileReport Refusal → List ℕ → FileOut
file_out r c = record { closing = r; curve = c }

unfoldable pub report_repr : Report → FileReport
report_repr r = file_report r.level r.points (years_repr r.years)

-- a refusal leaves the curve
unfoldable pub file_out_by : Option CloseReason → Filing → List ℕ → FileOut
file_out_by none F c = file_out (Ok (report_repr (report_of F))) (curve_of F)
file_out_by (some k) F c = file_out (Err (of_close_reason k)) c

unfoldable pub file_out_of : Filing → List ℕ → FileOut
file_out_of F c = file_out_by (closing_refusal F) F c
