-- Points present, the level NCC, and the curve as it is lent (document 01, Cases and Calls).
use Rattle.std.specs.Prelude.{◌&&◌, cond, ℕ, ◌+◌, ◌-◌, ◌/◌, ◌%◌, ◌^◌, min, ltb, length, get_or}
use mathlib.Core.List.{List, map, foldr}
use Rattle.std.proofs.Math.Option.{Option}
use Rattle.lists.specs.Lists.{sum, present, tab, or_else}
use Rattle.note.specs.Peaks.{peak_days, peak_count}
use Rattle.note.specs.Coefficients.{coefficient_c}
use Rattle.rounding.specs.Points.{rounded, level}
use Rattle.meaning.specs.Filing.{Filing, history_of, history_list}
use Rattle.meaning.specs.Cases.{Case, case_of}
use Rattle.meaning.specs.Points.{CurvePlace, place_of, year_places, all_places, point_at, applied_rate}

-- the points that are present, in mW
unfoldable pub points_in : List CurvePlace → List ℕ
points_in qs = present (map point_at qs)

-- points present in a year, and in all
unfoldable pub present_in : Filing → ℕ → ℕ
present_in F y = length (points_in (year_places F y))

unfoldable pub counted : Filing → ℕ
counted F = length (points_in (all_places F))

-- C times the mean of the present points, in whole watts
unfoldable pub coefficient_of : Filing → ℕ
coefficient_of F = coefficient_c F.site.al F.site.filiere

unfoldable pub ncc : Filing → ℕ
ncc F = rounded (level (coefficient_of F) (sum (points_in (all_places F))) (counted F))

-- ---- the curve: 4,400 places, year by year from the oldest, 440 a year, peak days in date order
abbrev pub missing_entry : ℕ
missing_entry = 2 ^ 64 - 1

unfoldable pub entry_of : Option ℕ → ℕ
entry_of p = or_else p missing_entry

-- the entry of the k-th history year, its j-th peak day and half-hour h; unused ones are missing
unfoldable pub curve_entry : Filing → ℕ → ℕ → ℕ → ℕ
curve_entry F k j h =
    cond (ltb k (history_of F).count && ltb j (peak_count ((history_of F).first + k)))
    (entry_of (point_at (place_of F ((history_of F).first + k) (get_or (peak_days ((history_of F).first + k)) j 0) h)))
    missing_entry

unfoldable pub curve_of : Filing → List ℕ
curve_of F = tab 4400 0 (λ i. curve_entry F (i / 440) (i % 440 / 20) (i % 20))

-- ---- T: the lowest rate that applies to a history year, in thousandths, or 1000
unfoldable pub lowest_rate : Filing → ℕ
lowest_rate F = foldr min 1000 (present (map (applied_rate F) (history_list F)))

-- ---- what a close reports
pub record YearReport : Type 0 where
  pub year : ℕ
  pub case : Case
  pub present : ℕ

pub record Report : Type 0 where
  pub al : ℕ
  pub filiere : ℕ
  -- in W
  pub level : ℕ
  pub points : ℕ
  pub years : List YearReport

unfoldable pub year_report : Filing → ℕ → YearReport
year_report F y = record { year = y; case = case_of F y; present = present_in F y }

unfoldable pub report_of : Filing → Report
report_of F = record { al = F.site.al; filiere = F.site.filiere; level = ncc F; points = counted F; years = map (year_report F) (history_list F) }
