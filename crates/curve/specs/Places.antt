-- The places of a site's curve, from its lists (document 01, Calls and the lines of a file; Peak days and coefficients).
use Rattle.std.specs.Prelude.{Bool, cond, List, map, ℕ, ◌/◌, ◌%◌, ltb, get_or}
use Rattle.lists.specs.Lists.{any, tab, flat}
use Rattle.calendar.specs.Spans.{history_years}
use Rattle.note.specs.Coefficients.{theta, coefficient_c}
use Rattle.rounding.specs.Points.{rounded, level}
use Rattle.rounding.specs.Units.{in_w}
use Rattle.meaning.specs.Points.{CurvePlace}
use Rattle.meaning.specs.Level.{missing_entry}
use Rattle.points.specs.declared.own.SiteFactors.{SiteFactors}
use Rattle.history.specs.declared.cases.Case.{Case}
use Rattle.history.specs.declared.cases.Case.TheVariants.{M}
use Rattle.history.specs.Cases.{case_view}
use Rattle.history.specs.Years.{cas_from, cas_sum}
use Rattle.curve.specs.declared.CurveTotals.{CurveTotals}
use Rattle.curve.specs.PlaceSums.{exceeds_in, place_sum_of, entry_in}
use Rattle.curve.specs.YearPlaces.{places_in, FileData}

-- from the years' cases and their rates
unfoldable pub places_of : SiteFactors → FileData → List Case → List ℕ → ℕ → List CurvePlace
places_of b l cases rates k = places_in b l (case_view (get_or cases k M)) (get_or rates k 0) k

unfoldable pub all_places_in : SiteFactors → FileData → List Case → List ℕ → List CurvePlace
all_places_in b l cases rates = flat (tab b.count 0 (places_of b l cases rates))

-- ---- the factors of a site
unfoldable pub site_factors_of : ℕ → ℕ → ℕ → SiteFactors
site_factors_of al f ps = record {
  al = al;
  first = (history_years al f).first;
  count = (history_years al f).count;
  ps = in_w ps;
  theta = theta f;
  ca_sum = cas_sum (history_years al f).count (cas_from (history_years al f).first f);
}

-- ---- the totals of the curve
unfoldable pub present_years : SiteFactors → FileData → List Case → List ℕ → List ℕ
present_years b l cases rates = tab 10 0 (λ k. cond (ltb k b.count) (place_sum_of (places_of b l cases rates k)).counted 0)

-- 18 holds at some place
unfoldable pub some_exceeds : SiteFactors → FileData → List Case → List ℕ → Bool
some_exceeds b l cases rates = any exceeds_in (all_places_in b l cases rates)

unfoldable pub curve_totals_of : SiteFactors → FileData → List Case → List ℕ → CurveTotals
curve_totals_of b l cases rates = record {
  sum = (place_sum_of (all_places_in b l cases rates)).sum;
  counted = (place_sum_of (all_places_in b l cases rates)).counted;
  present = present_years b l cases rates;
}

-- the curve: 440 entries for each of ten years, oldest first, in the order of peak days and half-hours; unused ones are missing
unfoldable pub curve_entry_in : SiteFactors → FileData → List Case → List ℕ → ℕ → ℕ → ℕ
curve_entry_in b l cases rates k i =
    cond (ltb k b.count) (get_or (map entry_in (places_of b l cases rates k)) i missing_entry) missing_entry

unfoldable pub curve_in : SiteFactors → FileData → List Case → List ℕ → List ℕ
curve_in b l cases rates = tab 4400 0 (λ i. curve_entry_in b l cases rates (i / 440) (i % 440))

unfoldable pub ncc_of : ℕ → ℕ → ℕ → ℕ → ℕ
ncc_of al f sum n = rounded (level (coefficient_c al f) sum n)
