-- The places of a day and of a year, from the lists of a site (document 01, Calls and the lines of a file; Peak days and coefficients).
use Rattle.std.specs.Prelude.{Bool, List, map, ℕ, ◌+◌}
use Rattle.lists.specs.Lists.{tab, flat}
use Rattle.note.specs.Peaks.{peak_days}
use Rattle.rounding.specs.declared.Energy.{Energy}
use Rattle.meaning.specs.Cases.{Case}
use Rattle.meaning.specs.Points.{CurvePlace}
use Rattle.history.specs.declared.ValidYears.{ValidYears}
use Rattle.history.specs.Years.{years_on}
use Rattle.points.specs.declared.own.SiteFactors.{SiteFactors}
use Rattle.points.specs.Sources.{Day, day, source_in}
use Rattle.curve.specs.PlaceSums.{place}

-- points and slot profiles, E and daily total by position, and by history year valid curves, valid indexes and CA
pub record FileData : Type 0 where
  pub near : List ℕ
  pub far : List ℕ
  pub slots : List ℕ
  pub energies : List Energy
  pub totals : List ℕ
  pub curves : List Bool
  pub indexes : List Bool
  pub cas : List ℕ

abbrev pub file_data : List ℕ → List ℕ → List ℕ → List Energy → List ℕ → List Bool → List Bool → List ℕ → FileData
file_data n f s e t v i c = record { near = n; far = f; slots = s; energies = e; totals = t; curves = v; indexes = i; cas = c }

-- from the valid years and CA
abbrev pub file_data_with : List ℕ → List ℕ → List ℕ → List Energy → List ℕ → ValidYears → List ℕ → FileData
file_data_with n f s e t valid c = file_data n f s e t valid.curves valid.indexes c

-- what the points of a winter day are computed from
unfoldable pub day_in : ℕ → FileData → ℕ → Day
day_in first l w = day l.near l.far l.slots (years_on l.energies l.totals l.indexes first w) l.curves l.cas

-- ---- places: k is a year's number from the oldest, w a winter place, h a half-hour
unfoldable pub places_on : SiteFactors → Day → Case → ℕ → ℕ → ℕ → List CurvePlace
places_on b d x rate k w = tab 20 0 (λ h. place rate (source_in b d x k w h))

-- a year's peak days in date order
unfoldable pub places_in : SiteFactors → FileData → Case → ℕ → ℕ → List CurvePlace
places_in b l x rate k = flat (map (λ w. places_on b (day_in b.first l w) x rate k w) (peak_days (b.first + k)))
