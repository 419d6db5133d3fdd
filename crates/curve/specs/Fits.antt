-- What is known of a site and its lists once 1 and 14 to 17 are checked, and what the loop over all years promises.
use Rattle.std.specs.Prelude.{◌≡◌, Bool, false, List, ℕ, ◌*◌, ◌≤◌, T, length, get_or, Result, Ok, Err}
use Rattle.curve.specs.YearPlaces.{FileData}
use Rattle.points.specs.OwnFits.{PointsFit}
use Rattle.history.specs.declared.cases.Case.{Case}
use Rattle.history.specs.declared.cases.Case.TheVariants.{M}
use Rattle.history.specs.Cases.{case_view}
use Rattle.history.specs.Fits.{AtMost, EnergiesAtMost, NonzeroTotals}
use Rattle.calendar.specs.Spans.{is_known}
use Rattle.meaning.specs.Blocks.{slots_size}
use Rattle.points.specs.declared.own.SiteFactors.{SiteFactors}
use Rattle.points.specs.Sources.{is_profiled}
use Rattle.points.specs.Fits.{RatesFit}
use Rattle.curve.specs.declared.CurveTotals.{CurveTotals}
use Rattle.rounding.specs.Answers.{limit_view, limited}
use Rattle.rounding.specs.declared.Energy.{Energy}
use Rattle.rounding.specs.declared.Exceeds.{Exceeds}
use Rattle.curve.specs.Places.{some_exceeds, curve_totals_of, curve_in}

-- a site that document 01 accepts
pub record SiteFits (al f p : ℕ) : Type 0 where
  pub known : T (is_known al f)
  -- 9
  pub not_too_soon : 6 ≤ f → 2023 ≤ al
  pub ps : p ≤ 100000000

pub record ListsFit (al : ℕ) (near far profiles : List ℕ) (es : List Energy) (ts rs : List ℕ) : Type 0 where
  pub points : PointsFit al near far
  pub slots : length profiles ≡ slots_size
  pub energies : EnergiesAtMost 1000000000000 es
  pub totals : AtMost 13815826560 ts
  pub rates : RatesFit rs

-- 1 and P: a profiled year has a valid index
abbrev pub ProfiledFit : List Case → List Bool → Type 0
ProfiledFit cases indexes = (k : ℕ) → T (is_profiled (case_view (get_or cases k M))) → T (get_or indexes k false)

pub record IndexYearsFit (first : ℕ) (ts : List ℕ) (indexes : List Bool) (cases : List Case) : Type 0 where
  -- 17
  pub nonzero : NonzeroTotals first indexes ts
  pub profiled : ProfiledFit cases indexes

-- no point is above 20,000,000,000,000 mW after its rate
pub record TotalsFit (t : CurveTotals) : Type 0 where
  pub sum : t.sum.0 ≤ 20000000000000 * t.counted
  pub counted : t.counted ≤ 4400

abbrev pub AnswerFits : Result CurveTotals Exceeds → Type 0
AnswerFits (Err e) = Unit {0}
AnswerFits (Ok t) = TotalsFit t

-- 18 where some place exceeds the limit, else the totals; and the curve
pub record CurveTotalsAre (b : SiteFactors) (l : FileData) (cases : List Case) (rates after : List ℕ) (r : Result CurveTotals Exceeds) : Type 0 where
  pub is : limit_view r ≡ limited (some_exceeds b l cases rates) (curve_totals_of b l cases rates)
  pub curve : after ≡ curve_in b l cases rates
  pub fits : AnswerFits r
