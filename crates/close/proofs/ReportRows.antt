-- A report in the code: level, points, and a row for each history year.
use mathlib.Core.Path.{◌≡◌, refl, ap, ap₂, sym, ◌∙◌}
use mathlib.Core.Bool.{Bool, true, false, not, cond}
use mathlib.Core.List.{List, map}
use Prim.Native.Nat.{ℕ, ◌+◌, ◌<◌}
use native.Mathlib.Omega.{arith}
use lib.Dec.{T, ltb}
use lib.ListN.{get_or, get_or-eq_default}
use borrow.Author.Tests.{ltb-true, ltb-false}
use Rattle.curve.specs.YearPlaces.{file_data}
use Rattle.lists.specs.Lists.{tab}
use Rattle.lists.proofs.Laws.{length_tab, get_d_tab0}
use Rattle.lists.proofs.Tables.{tab_same}
use Rattle.lists.proofs.Ranges.{map_tab}
use Rattle.rounding.specs.declared.Energy.{Energy}
use Rattle.calendar.specs.declared.Years.{Years}
use Rattle.calendar.specs.Spans.{history_years}
use Rattle.meaning.specs.Filing.{Site, Filing, history_of, years_in, history_list}
use Rattle.meaning.specs.Level.{year_report, report_of}
use Rattle.meaning.specs.Cases.{Case as DocumentCase}
use Rattle.meaning.specs.Text.{letter_of_case}
use Rattle.meaning.specs.Closing.{too_high, close_holds}
use Rattle.meaning.specs.Blocks.{Blocks}
use Rattle.meaning.specs.Record.{Tallies, filing_held}
use Rattle.validity.specs.Days.{energies_of, totals_of}
use Rattle.history.specs.declared.cases.Case.{Case}
use Rattle.history.specs.declared.cases.Case.TheVariants.{M}
use Rattle.history.specs.Cases.{cases_of}
use Rattle.history.specs.Years.{by_history, cas_from}
use Rattle.history.specs.ValidYears.{valid_curves, valid_indexes}
use Rattle.curve.specs.declared.CurveTotals.{CurveTotals}
use Rattle.curve.specs.Places.{site_factors_of, curve_totals_of}
use Rattle.curve.proofs.Filings.{map_range}
use Rattle.curve.proofs.Close.{counted_is, ncc_is, present_is}
use Rattle.close.specs.declared.outcome.file.YearRow.{YearRow}
use Rattle.close.specs.FileOutcomes.{year_row, no_year, year_repr, years_repr}
use Rattle.close.specs.ReportRows.{row_in, rows_in, reported_by}
use Rattle.close.specs.Closes.{FileFits, report_repr}
use Rattle.close.proofs.FileFacts.{case_is, means}

-- the years of a report, by number
pub years_tab : (F : Filing) → map year_repr (report_of F).years ≡ tab (history_of F).count 0 (λ k. year_repr (year_report F ((history_of F).first + k)))
unfolding report_of history_list years_in
years_tab F =
    ap (map year_repr) (map_range (year_report F) (history_of F).first (history_of F).count)
    ∙ map_tab year_repr (history_of F).count 0 (λ k. year_report F ((history_of F).first + k))

-- rows that are those of the report's years, with none after them
pub rows_shown : (F : Filing) (cases : List Case) (present : List ℕ)
    → ((k : ℕ) → k < (history_of F).count → row_in ((history_of F).first + k) (get_or cases k M) (get_or present k 0) ≡ year_repr (year_report F ((history_of F).first + k)))
    → rows_in (history_of F) cases present ≡ years_repr (report_of F).years
unfolding rows_in by_history years_repr
rows_shown F cases present e =
    tab_same 10 0 (λ k. cond (ltb k n) (row k) no_year) (λ k. get_or (map year_repr (report_of F).years) k no_year) (λ k l. at k (ltb k n) refl)
  where
    n : ℕ
    n = (history_of F).count

    row : ℕ → YearRow
    row k = row_in ((history_of F).first + k) (get_or cases k M) (get_or present k 0)

    shown : ℕ → YearRow
    shown k = year_repr (year_report F ((history_of F).first + k))

    at : (k : ℕ) (b : Bool) → ltb k n ≡ b → cond (ltb k n) (row k) no_year ≡ get_or (map year_repr (report_of F).years) k no_year
    at k true q =
        ap (λ (v : Bool). cond v (row k) no_year) q ∙ e k (ltb-true k n q)
        ∙ sym (ap (λ (ys : List YearRow). get_or ys k no_year) (years_tab F) ∙ get_d_tab0 n shown k no_year (ltb-true k n q))
    at k false q =
        ap (λ (v : Bool). cond v (row k) no_year) q
        ∙ sym (ap (λ (ys : List YearRow). get_or ys k no_year) (years_tab F) ∙ get_or-eq_default (tab n 0 shown) no_year {n = k} (omega (arith, length_tab n 0 shown, ltb-false k n q)))

module _ {t : Site} {n : ℕ} {k : Tallies} {w : Blocks} {ps xs ks : List ℕ} (fit : FileFits t n k w ps xs ks) where
  abbrev F : Filing
  F = filing_held t n k true w

  abbrev h : Years
  h = history_years t.al t.filiere

  abbrev es : List Energy
  es = energies_of ps xs n

  abbrev ts : List ℕ
  ts = totals_of ps w.daily n

  abbrev cs : List Bool
  cs = valid_curves t.al h w.near w.far k.breaks

  abbrev is : List Bool
  is = valid_indexes ps ks n h.count k.breaks

  abbrev cases : List Case
  cases = cases_of t.meter h.count cs is

  abbrev found : CurveTotals
  found = curve_totals_of (site_factors_of t.al t.filiere t.ps) (file_data w.near w.far w.slots es ts cs is (cas_from h.first t.filiere)) cases k.rates

  module _ (fine : T (not (close_holds too_high F))) where
    row_is : (j : ℕ) → j < h.count → row_in (h.first + j) (get_or cases j M) (get_or found.present j 0) ≡ year_repr (year_report F (h.first + j))
    unfolding row_in year_repr year_report
    row_is j l =
        ap₂ (λ (c : DocumentCase) (p : ℕ). year_row (h.first + j) (letter_of_case c) p)
        (case_is fit j l)
        (present_is t n k true w es ts cs is cases (means fit) fine j l)

    rows_are : rows_in h cases found.present ≡ years_repr (report_of F).years
    unfolding history_of filing_held
    rows_are = rows_shown F cases found.present row_is

    pub reported_is : reported_by t.al t.filiere h cases found ≡ report_repr (report_of F)
    unfolding reported_by report_repr report_of
    reported_is =
        rw (ncc_is t n k true w es ts cs is cases (means fit) fine, counted_is t n k true w es ts cs is cases (means fit) fine, rows_are)
