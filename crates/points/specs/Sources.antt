-- Where each point comes from, by the lists of a site (document 01, Cases; Calls and the lines of a file).
use Rattle.std.specs.Prelude.{Bool, true, false, List, ℕ, ◌+◌, get_or}
use Rattle.meaning.specs.Cases.{Case, case_m, case1, case2, case3, case4, case_p, case5, case6}
use Rattle.meaning.specs.Points.{Donor, Source, own, from_default, own_of, rebuilt_by}
use Rattle.points.specs.declared.own.SiteFactors.{SiteFactors}
use Rattle.points.specs.OwnPoints.{read_in, profile_in, profiled_on}
use Rattle.points.specs.DonorOrigins.{curve_origin, index_origin, donors_among}
use Rattle.history.specs.declared.YearOnDay.{YearOnDay}

-- ---- what the points of a day are computed from
pub record Day : Type 0 where
  pub near : List ℕ
  pub far : List ℕ
  pub slots : List ℕ
  -- by history year: what was looked up for the day, valid curves, and CA
  pub years : List YearOnDay
  pub curves : List Bool
  pub cas : List ℕ

abbrev pub day : List ℕ → List ℕ → List ℕ → List YearOnDay → List Bool → List ℕ → Day
day n f s ys v c = record { near = n; far = f; slots = s; years = ys; curves = v; cas = c }

-- ---- donors
unfoldable pub curve_donors_in : SiteFactors → Day → ℕ → ℕ → List Donor
curve_donors_in b d w h = donors_among b.count d.cas (curve_origin b.al b.first d.near d.far d.curves w h)

unfoldable pub index_donors_in : SiteFactors → Day → ℕ → ℕ → List Donor
index_donors_in b d w h = donors_among b.count d.cas (index_origin d.slots d.years w h)

-- ---- the source of a point, by the year's case
-- profiled from the year's own index
abbrev pub is_profiled : Case → Bool
is_profiled case_m = false
is_profiled case1 = true
is_profiled case2 = false
is_profiled case3 = false
is_profiled case4 = false
is_profiled case_p = true
is_profiled case5 = false
is_profiled case6 = false

unfoldable pub default_in : SiteFactors → Day → ℕ → ℕ → ℕ → Source
default_in b d k w h = from_default b.ps.0 b.theta (profile_in d.slots k w h) (get_or d.cas k 0) b.count b.ca_sum

unfoldable pub source_in : SiteFactors → Day → Case → ℕ → ℕ → ℕ → Source
source_in b d case_m k w h = own_of (read_in b.al d.near d.far (b.first + k) w h)
source_in b d case1 k w h = own (profiled_on d.slots d.years k w h)
source_in b d case2 k w h = rebuilt_by (get_or d.cas k 0) (curve_donors_in b d w h)
source_in b d case3 k w h = rebuilt_by (get_or d.cas k 0) (index_donors_in b d w h)
source_in b d case4 k w h = default_in b d k w h
source_in b d case_p k w h = own (profiled_on d.slots d.years k w h)
source_in b d case5 k w h = rebuilt_by (get_or d.cas k 0) (index_donors_in b d w h)
source_in b d case6 k w h = default_in b d k w h
