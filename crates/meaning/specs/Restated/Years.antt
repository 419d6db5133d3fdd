-- Valid years and the case of a year, in words (document 01, Validity and Cases).
use Rattle.std.specs.Prelude.{◌≡◌, ◌≢◌, ◌↔◌, ◌⊎◌, List, map, ℕ, ◌*◌, ◌≤◌, ◌<◌, T, length}
use Rattle.std.proofs.Math.Option.{none}
use Rattle.lists.specs.Lists.{flat, range}
use Rattle.lists.specs.Restated.{CountIs, Adjacent}
use Rattle.calendar.specs.Places.{month_of, day_of}
use Rattle.calendar.specs.Spans.{place_at}
use Rattle.note.specs.Peaks.{peak_days, peak_count}
use Rattle.meaning.specs.Filing.{Filing, curve_meter, Kind, real, corrected, Reading, year_of}
use Rattle.meaning.specs.Validity.{present_points, curve_valid, index_valid}
use Rattle.meaning.specs.Cases.{case_m, case1, case2, case3, case4, case_p, case5, case6, case_of}
use Rattle.meaning.specs.Restated.Dates.{Winter, Date, HistoryYear}

-- ---- curve years
-- each peak day of the year with each of its 20 half-hours
unfoldable pub peak_points : ℕ → List (ℕ × ℕ)
peak_points y = flat (map (λ w. map (λ (h : ℕ). (w, h)) (range 0 20)) (peak_days y))

-- the point at a winter place and half-hour is present
abbrev pub Present : Filing → ℕ → ℕ × ℕ → Type 0
Present F y q = F.point y q.0 q.1 ≢ none

-- no break, and at least 80 in 100 of the peak points are present
abbrev pub CurveValid : Filing → ℕ → Type 0
CurveValid F y = (¬ T (F.broken y)) × ((n : ℕ) × CountIs (Present F y) (peak_points y) n × (80 * length (peak_points y) ≤ 100 * n))

-- ---- index years
-- a day between two readings: the first one's or a later one before the second's
abbrev pub Between : Reading → Reading → ℕ → Type 0
Between a b p = (a.position ≤ p) × (p < b.position)

-- a position that is a date of the year, in winter
abbrev pub WinterDay : Filing → ℕ → ℕ → Type 0
WinterDay F y p = (year_of F p ≡ y) × Date y (month_of (place_at p)) (day_of (place_at p)) × Winter (month_of (place_at p))

abbrev pub Trusted : Kind → Type 0
Trusted k = (k ≡ real) ⊎ (k ≡ corrected)

-- no break; each winter day of the year lies between two neighbouring readings; any two neighbours with such a day between them are real or corrected
abbrev pub IndexValid : Filing → ℕ → Type 0
IndexValid F y =
    (¬ T (F.broken y))
    × ((p : ℕ) → WinterDay F y p → (a : Reading) × (b : Reading) × Adjacent a b F.readings × Between a b p)
    × ((a b : Reading) → Adjacent a b F.readings → (p : ℕ) → Between a b p → WinterDay F y p → Trusted a.kind × Trusted b.kind)

pub record ValidWords : Type 0 where
  pub curve : (F : Filing) (y : ℕ) → T (curve_valid F y) ↔ CurveValid F y
  pub points : (y : ℕ) → length (peak_points y) ≡ 20 * peak_count y
  pub index : (F : Filing) (y : ℕ) → T (index_valid F y) ↔ IndexValid F y
  -- where more points are present, a valid curve stays valid
  pub more :
      (F G : Filing) (y : ℕ) → ((w h : ℕ) → F.point y w h ≢ none → G.point y w h ≢ none) → (¬ T (G.broken y)) → T (curve_valid F y)
      → T (curve_valid G y)
  -- 2019 has 11 peak days and 2017 has 22: 176 of 220 points are enough and 175 are not, 352 of 440 and not 351, whichever they are
  pub least_2019 : (F : Filing) → T (curve_valid F 2019) ↔ ((¬ T (F.broken 2019)) × (176 ≤ present_points F 2019))
  pub least_2017 : (F : Filing) → T (curve_valid F 2017) ↔ ((¬ T (F.broken 2017)) × (352 ≤ present_points F 2017))
  pub present : (F : Filing) (y : ℕ) → CountIs (Present F y) (peak_points y) (present_points F y)

-- ---- cases
abbrev pub OfHistory : Filing → ℕ → Type 0
OfHistory F y = HistoryYear F.site.al F.site.filiere y

abbrev pub SomeYear : Filing → (ℕ → Type 0) → Type 0
SomeYear F P = (z : ℕ) × OfHistory F z × P z

abbrev pub CurveFile : Filing → Type 0
CurveFile F = F.site.meter ≡ curve_meter

pub record CaseWords (F : Filing) (y : ℕ) : Type 0 where
  pub m : (case_of F y ≡ case_m) ↔ (CurveFile F × CurveValid F y)
  pub one : (case_of F y ≡ case1) ↔ (CurveFile F × ((¬ CurveValid F y) × IndexValid F y))
  pub two : (case_of F y ≡ case2) ↔ (CurveFile F × ((¬ CurveValid F y) × ((¬ IndexValid F y) × SomeYear F (CurveValid F))))
  pub three :
      (case_of F y ≡ case3)
      ↔ (CurveFile F × ((¬ CurveValid F y) × ((¬ IndexValid F y) × ((¬ SomeYear F (CurveValid F)) × SomeYear F (IndexValid F)))))
  pub four :
      (case_of F y ≡ case4)
      ↔ (CurveFile F × ((¬ CurveValid F y) × ((¬ IndexValid F y) × ((¬ SomeYear F (CurveValid F)) × (¬ SomeYear F (IndexValid F))))))
  pub p : (case_of F y ≡ case_p) ↔ ((¬ CurveFile F) × IndexValid F y)
  pub five : (case_of F y ≡ case5) ↔ ((¬ CurveFile F) × ((¬ IndexValid F y) × SomeYear F (IndexValid F)))
  pub six : (case_of F y ≡ case6) ↔ ((¬ CurveFile F) × ((¬ IndexValid F y) × (¬ SomeYear F (IndexValid F))))
