-- A filing: what a site's file says, as look-ups. Validity, cases, points, level and exact fraction are defined over it alone.
use Rattle.std.specs.Prelude.{Bool, true, false, List, ℕ}
use Rattle.std.proofs.Math.Option.{Option}
use Rattle.lists.specs.Lists.{range}
use Rattle.calendar.specs.declared.Years.{Years}
use Rattle.calendar.specs.Spans.{history_years, axis_years, year_at, place_at}

-- T curve meter, I index meter; none until S is taken
pub data Meter : Type 0 where
  no_meter curve_meter index_meter : Meter

-- what S says: AL, filière, meter, and the retained power PS in W
pub record Site : Type 0 where
  pub al : ℕ
  pub filiere : ℕ
  pub meter : Meter
  pub ps : ℕ

abbrev pub site : ℕ → ℕ → Meter → ℕ → Site
site a f m p = record { al = a; filiere = f; meter = m; ps = p }

unfoldable pub no_site : Site
no_site = site 0 0 no_meter 0

-- R real, C corrected, E estimated
pub data Kind : Type 0 where
  real corrected estimated no_kind : Kind

abbrev pub is_trusted : Kind → Bool
is_trusted real = true
is_trusted corrected = true
is_trusted estimated = false
is_trusted no_kind = false

-- a reading at 00:00 of the day at a position on the axis, in Wh
pub record Reading : Type 0 where
  pub position : ℕ
  pub index : ℕ
  pub kind : Kind

abbrev pub reading : ℕ → ℕ → Kind → Reading
reading p i k = record { position = p; index = i; kind = k }

pub record Filing : Type 0 where
  pub site : Site
  -- the point in W at a year, winter place and half-hour; none where it is missing
  pub point : ℕ → ℕ → ℕ → Option ℕ
  -- the profile value in ten-thousandths at a year, winter place and half-hour
  pub profile : ℕ → ℕ → ℕ → ℕ
  -- the sum of the day's 48 profile values at a year and date place
  pub daily : ℕ → ℕ → ℕ
  pub readings : List Reading
  -- a declared break of a year
  pub broken : ℕ → Bool
  -- a year's rate in thousandths, where an R line names the year
  pub rate : ℕ → Option ℕ
  -- how many P and D dates a year has
  pub profile_dates : ℕ → ℕ
  pub daily_dates : ℕ → ℕ
  -- E has been taken
  pub ended : Bool
  -- CA of a year for the site's filière, in thousandths
  pub ca : ℕ → ℕ

-- ---- the years of a filing
unfoldable pub history_of : Filing → Years
history_of F = history_years F.site.al F.site.filiere

unfoldable pub axis_of : Filing → Years
axis_of F = axis_years (history_of F)

unfoldable pub years_in : Years → List ℕ
years_in s = range s.first s.count

unfoldable pub history_list : Filing → List ℕ
history_list F = years_in (history_of F)

-- ---- positions: year, date place, daily sum
unfoldable pub year_of : Filing → ℕ → ℕ
year_of F p = year_at (axis_of F) p

unfoldable pub daily_at : Filing → ℕ → ℕ
daily_at F p = F.daily (year_of F p) (place_at p)
