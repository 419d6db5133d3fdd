-- What 1 has checked of a file, as the loop over its years requires it, and its valid years and cases as document 01's.
use mathlib.Core.Path.{◌≡◌, refl, ap, sym, subst, ◌∙◌}
use mathlib.Core.Bool.{Bool, true, false, ◌&&◌, ◌||◌, not, cond}
use mathlib.Core.List.{List}
use mathlib.Core.Option.{Option, some, none}
use Prim.Native.Nat.{ℕ, ◌+◌, ◌-◌, ◌/◌, ◌%◌, ◌≤◌, ◌<◌}
use native.Mathlib.Omega.{arith}
use lib.Dec.{T, eqb, leb, ltb, eqb→eq, leb→le}
use borrow.Author.Tests.{ltb-true, ltb-false}
use lib.ListN.{length, get_or}
use Rattle.calendar.specs.Dates.{all_winter_dates, all_dates}
use Rattle.calendar.specs.Places.{has_winter_date}
use Rattle.points.specs.OwnFits.{is_point}
use Rattle.lists.proofs.AllAt.{all_at_read}
use Rattle.lists.proofs.Tests.{and_parts, and_made}
use Rattle.rounding.specs.declared.Energy.{Energy}
use Rattle.rounding.specs.Units.{in_wh}
use Rattle.calendar.specs.declared.Years.{Years}
use Rattle.calendar.specs.Spans.{among, is_known, history_years, axis_years}
use Rattle.calendar.proofs.Laws.{among_words, history_short}
use Rattle.meaning.specs.Filing.{Site, Filing, history_of}
use Rattle.meaning.specs.Line.{most_power}
use Rattle.meaning.specs.Validity.{Interval, total_of, curve_valid, index_valid}
use Rattle.meaning.specs.Cases.{is_default, case_of}
use Rattle.meaning.specs.Points.{Origin, as_read, by_profile, profiled_in, profiled_at, interval_at, position_at}
use Rattle.meaning.specs.Closing.{zero_total, close_holds}
use Rattle.meaning.specs.Blocks.{Blocks, missing_point, row_size, points_size, slots_size, daily_size, readings_size, curve_size, sizes_fit}
use Rattle.meaning.specs.Record.{Tallies, history_of_site, is_within, site_fits, each_year, tallies_fit, is_dated, point_fits, points_fit, filing_held}
use Rattle.meaning.proofs.Lines.{timely}
use Rattle.blocks.specs.Rows.{row_of}
use Rattle.validity.specs.Availability.{valid_row}
use Rattle.validity.proofs.Filings.{valid_is}
use Rattle.validity.specs.Columns.{Rising, NonDecreasing}
use Rattle.validity.specs.Days.{energies_of, totals_of}
use Rattle.validity.specs.Index.{valid_index}
use Rattle.validity.proofs.Filed.{columns_rise, columns_count, columns_daily, by_year_lem}
use Rattle.validity.proofs.Valid.{index_valid_held}
use Rattle.validity.proofs.Totals.{profiled_year}
use Rattle.validity.proofs.Bounds.{energies_most, totals_most}
use Rattle.history.specs.declared.cases.Case.{Case}
use Rattle.history.specs.declared.cases.Case.TheVariants.{M}
use Rattle.history.specs.Cases.{case_view, cases_of, default_years}
use Rattle.history.specs.Years.{position_in}
use Rattle.history.specs.Fits.{NonzeroTotals}
use Rattle.history.specs.ValidYears.{is_broken, valid_curve_at, valid_curves, valid_index_at, valid_indexes}
use Rattle.points.specs.Fits.{RateFits, RatesFit}
use Rattle.curve.specs.Places.{site_factors_of}
use Rattle.curve.specs.Fits.{SiteFits, ListsFit, IndexYearsFit}
use Rattle.curve.proofs.Sites.{basis_fits}
use Rattle.curve.proofs.Filings.{Means}
use Rattle.curve.proofs.GivenFile.{position_is, points_fit_lem, cases_are, profiled_fit_lem}
use Rattle.close.specs.Closes.{FileFits}
use Rattle.history.proofs.YearTables.{at_year, past_years}
use Rattle.demands.proofs.Bound.Intervals.{in_152, total_positive}

-- ---- the site
pub site_words : (t : Site) → T (site_fits true t) → T (is_known t.al t.filiere) × (t.ps ≤ most_power)
unfolding site_fits is_within is_known
site_words t h =
    let a = and_parts (leb 2021 t.al && leb t.al 2026) _ h in
    let b = and_parts (leb 1 t.filiere && leb t.filiere 11) _ a.1 in
    let p = and_parts (leb 1 t.ps && leb t.ps most_power) _ b.1 in
    (and_made (leb 2021 t.al && leb t.al 2026) (leb 1 t.filiere && leb t.filiere 11) a.0 b.0, leb→le t.ps most_power (and_parts (leb 1 t.ps) _ p.0).1)

-- ---- numbers by year and in the blocks
point_fits_lem : (h : Years) (first : ℕ) (xs : List ℕ) → T (points_fit h first xs) → (i : ℕ) → T (is_point (get_or xs i missing_point))
unfolding points_fit point_fits is_point
point_fits_lem h first xs t i =
    let v = get_or xs i missing_point in
    fit (eqb v missing_point) (is_dated h (first + i / row_size) (i % row_size / 20)) (leb v most_power)
    (all_at_read (λ j u. eqb u missing_point || (is_dated h (first + j / row_size) (j % row_size / 20) && leb u most_power)) xs missing_point t (λ j. tt) i)
  where
    fit : (a b c : Bool) → T (a || (b && c)) → T (a || c)
    fit true b c u = tt
    fit false b c u = (and_parts b c u).1

rate_fits_lem : (b : Bool) (r : ℕ) → T (cond b (eqb r 0 || is_within 10 1000 r) (eqb r 0)) → RateFits r
unfolding is_within
rate_fits_lem false r t = let e = eqb→eq r 0 t in record { least = λ n. absurd (n e); most = omega (arith, e) }
rate_fits_lem true r t = go (eqb r 0) refl t
  where
    go : (z : Bool) → eqb r 0 ≡ z → T (z || (leb 10 r && leb r 1000)) → RateFits r
    go true e u = let q = eqb→eq r 0 (subst T (sym e) tt) in record { least = λ n. absurd (n q); most = omega (arith, q) }
    go false e u = let p = and_parts (leb 10 r) (leb r 1000) u in record { least = λ n. leb→le 10 r p.0; most = leb→le r 1000 p.1 }

rates_fit : (h : Years) (k : Tallies) → T (tallies_fit h k) → RatesFit k.rates
unfolding tallies_fit each_year
rates_fit h k t i =
    let d = and_parts (each_year h (λ y n. leb n (all_winter_dates y)) k.profile_dates) _ t in
    let b = and_parts (each_year (axis_years h) (λ y n. leb n (all_dates y)) k.daily_dates) _ d.1 in
    let r = and_parts (each_year h (λ y n. leb n 1) k.breaks) _ b.1 in
    rate_fits_lem (ltb i h.count) (get_or k.rates i 0)
    (all_at_read (λ j n. cond (ltb j h.count) (eqb n 0 || is_within 10 1000 n) (eqb n 0)) k.rates 0 r.1 (λ j. none_zero (ltb j h.count)) i)
  where
    none_zero : (b : Bool) → T (cond b (eqb 0 0 || is_within 10 1000 0) (eqb 0 0))
    none_zero true = tt
    none_zero false = tt

-- ---- the sizes that are required besides those of the columns
block_sizes : (w : Blocks) → T (sizes_fit w) → (length w.slots ≡ slots_size) × (length w.curve ≡ curve_size)
unfolding sizes_fit
block_sizes w t =
    let n = and_parts (eqb (length w.near) points_size) _ t in
    let f = and_parts (eqb (length w.far) points_size) _ n.1 in
    let s = and_parts (eqb (length w.slots) slots_size) _ f.1 in
    let d = and_parts (eqb (length w.daily) daily_size) _ s.1 in
    let r = and_parts (eqb (length w.readings) readings_size) _ d.1 in
    (eqb→eq (length w.slots) slots_size s.0, eqb→eq (length w.curve) curve_size r.1)

-- ---- the point profiled from an interval, for any profile value
energy_in : Origin → ℕ
energy_in (as_read w) = 0
energy_in (by_profile e p t) = e

total_in : Origin → ℕ
total_in (as_read w) = 0
total_in (by_profile e p t) = t

any_profile : (F : Filing) (o : Option Interval) (p q e t : ℕ) → profiled_in F o p ≡ by_profile e p t → profiled_in F o q ≡ by_profile e q t
unfolding profiled_in energy_in total_in
any_profile F none p q e t h = ap (λ (x : Origin). by_profile (energy_in x) q (total_in x)) h
any_profile F (some v) p q e t h = ap (λ (x : Origin). by_profile (energy_in x) q (total_in x)) h

module _ {t : Site} {n : ℕ} {k : Tallies} {w : Blocks} {ps xs ks : List ℕ} (fit : FileFits t n k w ps xs ks) where
  abbrev F : Filing
  F = filing_held t n k true w

  abbrev h : Years
  h = history_years t.al t.filiere

  pub known : T (is_known t.al t.filiere)
  known = (site_words t fit.site).0

  pub site_fits_lem : SiteFits t.al t.filiere t.ps
  site_fits_lem = record { known = known; not_too_soon = timely t.al t.filiere fit.not_too_soon; ps = (site_words t fit.site).1 }

  pub short : h.count ≤ 10
  short = history_short t.al t.filiere known

  pub oldest : h.first ≤ 2021
  unfolding site_factors_of
  oldest = (basis_fits t.al t.filiere t.ps site_fits_lem).first

  in_history : (j : ℕ) → j < h.count → T (among (history_of_site t) (h.first + j))
  unfolding history_of_site
  in_history j l = (among_words h (h.first + j)).1 (omega arith, omega (arith, l))

  -- ---- the columns and the blocks
  pub rise : Rising ps n
  rise = columns_rise t n w fit.columns fit.few fit.readings

  pub climb : NonDecreasing xs n
  climb = columns_count t n w fit.columns fit.few fit.readings

  pub daily_size_lem : length w.daily ≡ 4392
  daily_size_lem = columns_daily w fit.sizes

  pub curve_size_lem : length w.curve ≡ 4400
  curve_size_lem = (block_sizes w fit.sizes).1

  abbrev energies : List Energy
  energies = energies_of ps xs n

  abbrev totals : List ℕ
  totals = totals_of ps w.daily n

  pub lists_fit : ListsFit t.al w.near w.far w.slots energies totals k.rates
  lists_fit = record {
    points = points_fit_lem t.al w.near w.far (point_fits_lem (history_of_site t) (t.al - 9) w.near fit.near) (point_fits_lem (history_of_site t) (t.al - 14) w.far fit.far);
    slots = (block_sizes w fit.sizes).0;
    energies = energies_most t n w fit.columns fit.readings;
    totals = totals_most t n w fit.columns fit.readings rise fit.daily;
    rates = rates_fit (history_of_site t) k fit.tallies;
  }

  -- ---- valid years, cases and default power
  abbrev curves : List Bool
  curves = valid_curves t.al h w.near w.far k.breaks

  abbrev indexes : List Bool
  indexes = valid_indexes ps ks n h.count k.breaks

  abbrev cases : List Case
  cases = cases_of t.meter h.count curves indexes

  abbrev defaults : List Bool
  defaults = default_years h.count cases

  broken : (j : ℕ) → j < h.count → is_broken k.breaks j ≡ F.broken (h.first + j)
  unfolding filing_held is_broken history_of_site
  broken j l = ap (λ (b : ℕ). not (eqb b 0)) (sym (by_year_lem (history_of_site t) k.breaks j l))

  curves_valid : (j : ℕ) → j < h.count → get_or curves j false ≡ curve_valid F (h.first + j)
  unfolding valid_curves valid_curve_at
  curves_valid j l =
      let y = h.first + j in
      at_year false (valid_curve_at t.al h.first w.near w.far k.breaks) h.count j false l short
      ∙ ap (valid_row (row_of t.al w.near w.far y) y) (broken j l)
      ∙ sym (valid_is t n k true w y (in_history j l))

  pub indexes_valid : (j : ℕ) → j < h.count → get_or indexes j false ≡ index_valid F (h.first + j)
  unfolding valid_indexes valid_index_at history_of_site
  indexes_valid j l =
      at_year false (valid_index_at ps ks n k.breaks) h.count j false l short
      ∙ ap (valid_index ps ks n j) (broken j l)
      ∙ sym (index_valid_held t n k true w fit.columns rise fit.readings j l)

  pub case_is : (j : ℕ) → j < h.count → case_view (get_or cases j M) ≡ case_of F (h.first + j)
  unfolding history_of filing_held
  case_is j l = cases_are F curves indexes known curves_valid indexes_valid j l

  pub default_is : (j : ℕ) → j < h.count → get_or defaults j false ≡ is_default (case_of F (h.first + j))
  unfolding default_years
  default_is j l = at_year false (λ i. is_default (case_view (get_or cases i M))) h.count j false l short ∙ ap is_default (case_is j l)

  -- ---- E and daily total around a winter day
  around : (j v p : ℕ) → j < h.count → v < 152
      → profiled_in F (interval_at F (h.first + j) v) p ≡ by_profile (get_or energies (position_in j v) (in_wh 0)).0 p (get_or totals (position_in j v) 0)
  unfolding profiled_at
  around j v p l m =
      let y = h.first + j in
      any_profile F (interval_at F y v) (F.profile y v 0) p (get_or energies (position_in j v) (in_wh 0)).0 (get_or totals (position_in j v) 0)
      (rw (at_position j v) at (profiled_year t n k true w fit.columns fit.readings y v 0 (in_history j l) m))
    where
      at_position : (i u : ℕ) → position_at F (h.first + i) u ≡ position_in i u
      at_position i u = unfold history_of filing_held in (position_is F known i u)

  -- ---- 17 does not hold
  counted_year : (j : ℕ) → T (get_or indexes j false) → j < h.count
  unfolding valid_indexes
  counted_year j u = go (ltb j h.count) refl
    where
      go : (b : Bool) → ltb j h.count ≡ b → j < h.count
      go true e = ltb-true j h.count e
      go false e = absurd (rw (past_years false (valid_index_at ps ks n k.breaks) h.count j (ltb-false j h.count e)) at u)

  nonzero : T (not (close_holds zero_total F)) → NonzeroTotals h.first indexes totals
  unfolding profiled_in total_in filing_held history_of history_of_site
  nonzero z j v u =
      let y = h.first + j in
      let p = and_parts (get_or indexes j false) (has_winter_date y v) u in
      let l = counted_year j p.0 in
      let a = total_positive F known y v (in_history j l) p.1 z (rw (indexes_valid j l) at p.0) in
      let t : total_of F a.0 ≡ get_or totals (position_in j v) 0 = ap total_in (rw a.1 at (around j v 0 l (in_152 y v p.1))) in
      rw t at a.2

  pub index_years : T (not (close_holds zero_total F)) → IndexYearsFit (site_factors_of t.al t.filiere t.ps).first totals indexes cases
  unfolding site_factors_of
  index_years z = record { nonzero = nonzero z; profiled = profiled_fit_lem t.meter h.count curves indexes short }

  pub means : Means F energies totals curves indexes cases
  unfolding history_of filing_held
  means = record { known = known; around = around; curves_valid = curves_valid; indexes_valid = indexes_valid; cases_are = case_is }
