-- The factors of a site that document 01 accepts are in their ranges.
use mathlib.Core.Path.{◌≡◌, refl}
use mathlib.Core.Bool.{Bool, true, false}
use mathlib.Core.List.{List}
use mathlib.Core.Logic.{⊎_elim}
use Prim.Native.Nat.{ℕ, zero, suc, ◌+◌, ◌*◌, ◌≤◌, ◌<◌}
use native.Mathlib.Omega.{arith}
use lib.Dec.{ltb}
use lib.ListN.{get_or, get_or-eq_default}
use borrow.Author.Tests.{ltb-true, ltb-false}
use Rattle.points.specs.OwnFits.{SiteFactorsFit}
use Rattle.points.specs.DonorFits.{CasFit}
use Rattle.lists.specs.Lists.{tab, sum}
use Rattle.lists.proofs.Laws.{length_tab, get_d_tab0}
use Rattle.calendar.specs.declared.Years.{Years}
use Rattle.calendar.specs.Spans.{history_years}
use Rattle.calendar.proofs.Laws.{among_words, history_bounds, history_short, history_year_lem}
use Rattle.rounding.specs.declared.Energy.{Energy}
use Rattle.note.specs.Coefficients.{ca_of}
use Rattle.note.proofs.Factors.{theta_most}
use Rattle.note.proofs.History.{ca_not_zero, ca_at_most}
use Rattle.history.specs.Years.{cas_from, cas_sum}
use Rattle.history.specs.Fits.{AtMost, NonzeroTotals}
use Rattle.curve.specs.YearPlaces.{file_data}
use Rattle.curve.specs.Places.{site_factors_of}
use Rattle.curve.specs.PlaceFits.{FileDataFits}
use Rattle.curve.specs.Fits.{SiteFits, ListsFit}

ca_at : ℕ → ℕ → ℕ → ℕ
ca_at first f k = ca_of (first + k) f

pub cas_most : (first f : ℕ) → AtMost 9999 (cas_from first f)
unfolding cas_from ca_at
cas_most first f i = go (ltb i 10) refl
  where
    go : (b : Bool) → ltb i 10 ≡ b → get_or (tab 10 0 (ca_at first f)) i 0 ≤ 9999
    go true e = rw (get_d_tab0 10 (ca_at first f) i 0 (ltb-true i 10 e)) (ca_at_most (first + i) f)
    go false e = rw (get_or-eq_default (tab 10 0 (ca_at first f)) 0 {n = i} (omega (arith, length_tab 10 0 (ca_at first f), ltb-false i 10 e))) (omega arith)

sum_to : (n i : ℕ) (g : ℕ → ℕ) → ((k : ℕ) → g k ≤ 9999) → sum (tab n i g) ≤ n * 9999
unfolding tab sum
sum_to zero i g h = omega arith
sum_to (suc n) i g h = omega (arith, h i, sum_to n (suc i) g h)

sum_most : (n : ℕ) (cas : List ℕ) → AtMost 9999 cas → cas_sum n cas ≤ n * 9999
unfolding cas_sum
sum_most n cas h = sum_to n 0 (λ k. get_or cas k 0) h

module _ (al f ps : ℕ) (s : SiteFits al f ps) where
  span : Years
  span = history_years al f

  some_years : 0 < span.count
  unfolding span
  some_years = ⊎_elim (λ e. omega arith) (λ e. omega arith) (history_bounds al f s.known).length

  few_years : span.count ≤ 10
  unfolding span
  few_years = history_short al f s.known

  oldest : span.first ≤ 2021
  unfolding span
  oldest = (history_year_lem al f span.first ((among_words span span.first).1 (omega arith, omega (arith, some_years)))).1

  some_ca : (k : ℕ) → k < span.count → 0 < ca_of (span.first + k) f
  unfolding span
  some_ca k h = ca_not_zero al f (span.first + k) s.not_too_soon ((among_words span (span.first + k)).1 (omega arith, omega (arith, h)))

  cas_some : (k : ℕ) → k < span.count → 0 < get_or (cas_from span.first f) k 0
  unfolding cas_from ca_at
  cas_some k h = rw (get_d_tab0 10 (ca_at span.first f) k 0 (omega (arith, few_years, h))) (some_ca k h)

  cas_fit : CasFit span.count (cas_from span.first f)
  cas_fit = record { some = cas_some; most = cas_most span.first f }

  sum_some : (n : ℕ) → 0 < n → n ≤ span.count → 0 < cas_sum n (cas_from span.first f)
  unfolding cas_sum tab sum
  sum_some zero h g = elim h [ ]
  sum_some (suc n) h g = omega (arith, cas_some 0 (omega arith))

  pub basis_fits : SiteFactorsFit (site_factors_of al f ps)
  unfolding site_factors_of span
  basis_fits =
      let n = span.count in
      record {
        first = oldest;
        count = few_years;
        ps = s.ps;
        theta = omega (arith, theta_most f);
        some_cas = sum_some n some_years (omega arith);
        most_cas = omega (arith, sum_most n (cas_from span.first f) (cas_most span.first f), few_years);
      }

  pub site_cas : CasFit (site_factors_of al f ps).count (cas_from (site_factors_of al f ps).first f)
  unfolding site_factors_of span
  site_cas = cas_fit

  pub held_fits : (near far profiles : List ℕ) (es : List Energy) (ts : List ℕ) (cs is : List Bool) (rs : List ℕ) → ListsFit al near far profiles es ts rs
      → NonzeroTotals (site_factors_of al f ps).first is ts
      → FileDataFits (site_factors_of al f ps) (file_data near far profiles es ts cs is (cas_from (site_factors_of al f ps).first f))
  unfolding site_factors_of
  held_fits near far profiles es ts cs is rs g n =
      record { points = g.points; slots = g.slots; energies = g.energies; totals = g.totals; nonzero = n; cas = site_cas }
