-- The results of the steps of a close, put together to its result.
use mathlib.Core.Path.{◌≡◌, refl, ap, ap₂, sym, ◌∙◌}
use mathlib.Core.Bool.{Bool, true, false, not}
use mathlib.Core.List.{List}
use Prim.Native.Nat.{ℕ, ◌≤◌, ◌<◌}
use lib.Dec.{T}
use lib.ListN.{length}
use Rattle.points.specs.declared.own.SiteFactors.{SiteFactors}
use Rattle.curve.specs.YearPlaces.{FileData, file_data}
use Rattle.lists.proofs.Laws.{length_tab}
use Rattle.calendar.specs.declared.Years.{Years}
use Rattle.calendar.specs.Spans.{history_years}
use Rattle.meaning.specs.Filing.{Site, Filing}
use Rattle.meaning.specs.Closing.{too_high, close_holds}
use Rattle.meaning.specs.Blocks.{Blocks}
use Rattle.meaning.specs.Record.{Tallies, filing_held}
use Rattle.demands.proofs.Bound.Counted.{some_point}
use Rattle.validity.specs.Columns.{Rising, NonDecreasing}
use Rattle.validity.specs.Days.{energies_of, totals_of}
use Rattle.history.specs.declared.cases.Case.{Case}
use Rattle.history.specs.declared.ValidYears.{ValidYears}
use Rattle.history.specs.Cases.{cases_of, default_years}
use Rattle.history.specs.Years.{cas_from}
use Rattle.curve.specs.declared.CurveTotals.{CurveTotals}
use Rattle.rounding.specs.Answers.{limit_view, limited}
use Rattle.rounding.specs.declared.Energy.{Energy}
use Rattle.rounding.specs.declared.Exceeds.{Exceeds}
use Rattle.curve.specs.Places.{site_factors_of, some_exceeds, curve_totals_of, curve_in}
use Rattle.curve.specs.Fits.{ListsFit, IndexYearsFit, CurveTotalsAre}
use Rattle.curve.proofs.Close.{exceeds_is, counted_is, curve_is}
use Rattle.std.specs.Prelude.{Result, Ok, Err}
use Rattle.refusals.specs.declared.Refusal.{Refusal}
use Rattle.refusals.specs.declared.Refusal.TheVariants.{TooHigh}
use Rattle.close.specs.declared.outcome.file.FileReport.{FileReport}
use Rattle.history.specs.ValidYears.{valid_curves, valid_indexes, valid_years}
use Rattle.close_checks.specs.DataRefusals.{data_refusal}
use Rattle.close.specs.ReportRows.{reported_by}
use Rattle.close.specs.Closes.{FileFits, file_out, file_out_of}
use Rattle.close.proofs.FileFacts.{known, short, oldest, rise, climb, lists_fit, index_years, means}
use Rattle.close.proofs.DataRefusals.{stopped, some_total, exceeded, reports}
use Rattle.close.proofs.ReportRows.{reported_is}

-- what an answer with 18 says of the test
exceeds_by : {A : Type 0} (b : Bool) (a : A) {e : Exceeds} → limit_view {A = A} (Err e) ≡ limited b a → b ≡ true
unfolding limit_view limited
exceeds_by true a h = refl
exceeds_by false a h = cc

within_by : {A : Type 0} (b : Bool) (a : A) {v : A} → limit_view (Ok v) ≡ limited b a → (b ≡ false) × (v ≡ a)
unfolding limit_view limited
within_by true a h = cc
within_by false a h = (refl, cc)

-- the counted readings, which are those of three columns
abbrev SameReadings : List ℕ → List ℕ → List ℕ → ℕ → List ℕ → List ℕ → List ℕ → ℕ → Type 0
SameReadings ps' xs' ks' n' ps xs ks n = (ps' ≡ ps) × (xs' ≡ xs) × (ks' ≡ ks) × (n' ≡ n)

-- history, valid years, cases, default power, and E and daily total by position, as computed
pub record Found (t : Site) (n : ℕ) (k : Tallies) (w : Blocks) (ps xs ks : List ℕ) (h : Years) (v : ValidYears) (x : List Case) (d : List Bool) (es : List Energy) (ts : List ℕ) : Type 0 where
  pub history : h ≡ history_years t.al t.filiere
  pub valid : v ≡ valid_years t.al h k.breaks w.near w.far ps ks n
  pub cases : x ≡ cases_of t.meter h.count v.curves v.indexes
  pub defaults : d ≡ default_years h.count x
  pub energies : es ≡ energies_of ps xs n
  pub totals : ts ≡ totals_of ps w.daily n

module _ {t : Site} {n : ℕ} {k : Tallies} {w : Blocks} {ps xs ks : List ℕ} (fit : FileFits t n k w ps xs ks) where
  abbrev F : Filing
  F = filing_held t n k true w

  pub few_years : {h : Years} → h ≡ history_years t.al t.filiere → (h.first ≤ 2021) × (h.count ≤ 10)
  few_years e = rw e (oldest fit, short fit)

  module _ {ps' xs' ks' : List ℕ} {n' : ℕ} (same : SameReadings ps' xs' ks' n' ps xs ks n) where
    pub found_by : {h : Years} {v : ValidYears} {x : List Case} {d : List Bool} {es : List Energy} {ts : List ℕ} → h ≡ history_years t.al t.filiere
        → v ≡ valid_years t.al h k.breaks w.near w.far ps' ks' n'
        → x ≡ cases_of t.meter h.count v.curves v.indexes
        → d ≡ default_years h.count x
        → es ≡ energies_of ps' xs' n'
        → ts ≡ totals_of ps' w.daily n'
        → Found t n k w ps xs ks h v x d es ts
    found_by a b c d e f =
        record {
          history = a;
          valid = rw (same.0, same.2, same.3) at b;
          cases = c;
          defaults = d;
          energies = rw (same.0, same.1, same.3) at e;
          totals = rw (same.0, same.3) at f;
        }

    pub rising_by : Rising ps' n' × NonDecreasing xs' n'
    rising_by = rw (same.0, same.1, same.3) (rise fit, climb fit)

  module _ {h : Years} {v : ValidYears} {x : List Case} {d : List Bool} {es : List Energy} {ts : List ℕ} (found : Found t n k w ps xs ks h v x d es ts) where
    pub lists : ListsFit t.al w.near w.far w.slots es ts k.rates
    lists = rw (found.energies, found.totals) (lists_fit fit)

    module _ (c : List ℕ) {ps' xs' ks' : List ℕ} {n' : ℕ} (same : SameReadings ps' xs' ks' n' ps xs ks n) {number : Result (Unit {0}) Refusal}
        (told : number ≡ data_refusal h k.profile_dates k.daily_dates v.indexes d ps' n' ts) where
      abbrev y : Years
      y = history_years t.al t.filiere

      abbrev cs : List Bool
      cs = valid_curves t.al y w.near w.far k.breaks

      abbrev is : List Bool
      is = valid_indexes ps ks n y.count k.breaks

      abbrev cases : List Case
      cases = cases_of t.meter y.count cs is

      abbrev energies : List Energy
      energies = energies_of ps xs n

      abbrev totals : List ℕ
      totals = totals_of ps w.daily n

      abbrev B : SiteFactors
      B = site_factors_of t.al t.filiere t.ps

      abbrev L : FileData
      L = file_data w.near w.far w.slots energies totals cs is (cas_from y.first t.filiere)

      abbrev some : Bool
      some = some_exceeds B L cases k.rates

      abbrev sums : CurveTotals
      sums = curve_totals_of B L cases k.rates

      stop_is : number ≡ data_refusal y k.profile_dates k.daily_dates is (default_years y.count cases) ps n totals
      unfolding valid_years
      stop_is = rw (same.0, same.3, found.defaults, found.cases, found.valid, found.history, found.totals) at told

      -- 15, 16, 17
      pub stops : {y : Refusal} → number ≡ Err y → file_out (Err y) c ≡ file_out_of F c
      stops {y} z = stopped fit c y (sym z ∙ stop_is)

      module _ {u : Unit {0}} (passed : number ≡ Ok u) where
        pub years_fit : IndexYearsFit B.first ts v.indexes x
        unfolding valid_years
        years_fit = rw (found.cases, found.valid, found.history, found.totals) (index_years fit (some_total fit c (sym passed ∙ stop_is)))

      module _ {u : Unit {0}} (passed : number ≡ Ok u) {after : List ℕ} {r : Result CurveTotals Exceeds}
          (filled : CurveTotalsAre B (file_data w.near w.far w.slots es ts v.curves v.indexes (cas_from B.first t.filiere))
          x k.rates after r) where
        filled_is : CurveTotalsAre B L cases k.rates after r
        unfolding valid_years site_factors_of
        filled_is = rw (found.cases, found.valid, found.history, found.energies, found.totals) at filled

        too_high_lem : close_holds too_high F ≡ some
        too_high_lem = sym (exceeds_is t n k true w energies totals cs is cases (means fit))

        told_limit : limit_view r ≡ limited some sums
        told_limit = filled_is.is

        -- 18
        pub exceeds : {e : Exceeds} → r ≡ Err e → file_out (Err TooHigh) c ≡ file_out_of F c
        exceeds q = exceeded fit c (sym passed ∙ stop_is) (too_high_lem ∙ exceeds_by some sums (rw q at told_limit))

        pub whole : length after ≡ 4400
        unfolding curve_in
        whole = ap length filled_is.curve ∙ length_tab 4400 0 _

        module _ {f : CurveTotals} (low : r ≡ Ok f) where
          within : (some ≡ false) × (f ≡ sums)
          within = within_by some sums (rw low at told_limit)

          fine : T (not (close_holds too_high F))
          fine = rw (too_high_lem, within.0) tt

          pub some_counted : 0 < f.counted
          some_counted =
              rw (ap (λ (q : CurveTotals). q.counted) within.1, counted_is t n k true w energies totals cs is cases (means fit) fine) (some_point F (known_filing))
            where
              known_filing : T (Rattle.calendar.specs.Spans.is_known F.site.al F.site.filiere)
              known_filing = unfold filing_held in (known fit)

          -- no refusal
          pub reported : {p : FileReport} {left : List ℕ} → p ≡ reported_by t.al t.filiere h x f → left ≡ after → file_out (Ok p) left ≡ file_out_of F c
          reported e l =
              ap₂ (λ (y : FileReport) (ys : List ℕ). file_out (Ok y) ys) (e ∙ alike ∙ reported_is fit fine) (l ∙ filled_is.curve ∙ curve_is t n k true w energies totals cs is cases (means fit) fine)
              ∙ reports fit c (sym passed ∙ stop_is) (too_high_lem ∙ within.0)
            where
              alike : reported_by t.al t.filiere h x f ≡ reported_by t.al t.filiere y cases sums
              alike = unfold valid_years in (rw (within.1, found.cases, found.valid, found.history))
