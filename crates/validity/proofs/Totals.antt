-- Energy and daily total of the interval around a day of the filing are those by position.
use mathlib.Core.Path.{◌≡◌, refl, ap, ap₂, sym, subst, ◌∙◌}
use mathlib.Core.Bool.{Bool}
use mathlib.Core.List.{List}
use mathlib.Core.Option.{Option, some, none}
use Prim.Native.Nat.{ℕ, ◌+◌, ◌-◌, ◌*◌, ◌/◌, ◌%◌, ◌<◌}
use native.Mathlib.Omega.{arith}
use lib.Dec.{T}
use lib.ListN.{get_or}
use borrow.Author.Tests.{lt-ltb}
use Rattle.lists.specs.Lists.{first_of}
use Rattle.lists.proofs.Laws.{get_d_tab0}
use Rattle.calendar.specs.declared.Years.{Years}
use Rattle.calendar.specs.Spans.{among, axis_years, year_at, place_at}
use Rattle.calendar.proofs.Laws.Positions.{among_words, has_history, history_short}
use Rattle.calendar.proofs.Laws.Winter.{winter_place_day}
use Rattle.meaning.specs.Filing.{Site, year_of, daily_at}
use Rattle.meaning.specs.Validity.{Interval, intervals, has_day, energy_of, total_between, total_of}
use Rattle.meaning.specs.Points.{by_profile, position_at, interval_at, profiled_in, profiled_at}
use Rattle.meaning.specs.Blocks.{Blocks, readings_of}
use Rattle.meaning.specs.Record.{Tallies, history_of_site, readings_fit, daily_held, filing_held}
use Rattle.readings.specs.Columns.{Columned}
use Rattle.rounding.specs.declared.Energy.{Energy}
use Rattle.rounding.specs.Units.{in_wh}
use Rattle.validity.specs.Columns.{interval_start, interval_end}
use Rattle.validity.specs.Days.{is_around, around, energy_in, sum_between, total_in, of_interval, energy_at, total_at, energies_of, totals_of}
use Rattle.lists.proofs.Ranges.{through, first_tab, first_found, sum_same}
use Rattle.lists.proofs.Tests.{is_true}
use Rattle.validity.proofs.Filed.{interval_of, fits, axis_held, intervals_held, axis_row}

module _ (t : Site) (n : ℕ) (k : Tallies) (e : Bool) (w : Blocks) where
  -- ---- daily sums
  daily_held_lem : (p : ℕ) → p < 366 * (axis_years (history_of_site t)).count → daily_at (filing_held t n k e w) p ≡ get_or w.daily p 0
  unfolding daily_at year_of
  daily_held_lem p h = ap (λ (a : Years). (filing_held t n k e w).daily (year_at a p) (place_at p)) (axis_held t n k e w) ∙ at_place
    where
      place : 366 * ((axis_years (history_of_site t)).first + p / 366 - (axis_years (history_of_site t)).first) + p % 366 ≡ p
      place = omega arith

      at_place : (filing_held t n k e w).daily (year_at (axis_years (history_of_site t)) p) (place_at p) ≡ get_or w.daily p 0
      at_place =
          unfold filing_held daily_held year_at place_at in (rw (is_true (among (axis_years (history_of_site t)) ((axis_years (history_of_site t)).first + p / 366)) ((among_words (axis_years (history_of_site t)) ((axis_years (history_of_site t)).first + p / 366)).1 (omega arith, omega arith)), lt-ltb (p % 366) 366 (omega arith)) (ap (λ (q : ℕ). get_or w.daily q 0) place))

  module _ {ps xs ks : List ℕ} (cols : Columned w n ps xs ks) (fit : T (readings_fit (axis_years (history_of_site t)) (readings_of w n))) where
    pub total_held : (i : ℕ) → i + 1 < n → total_of (filing_held t n k e w) (interval_of ps xs ks i) ≡ total_in ps w.daily i
    unfolding total_of total_between total_in sum_between
    total_held i h =
        sum_same (interval_end ps i - interval_start ps i) (interval_start ps i) (daily_at (filing_held t n k e w)) (λ p. get_or w.daily p 0)
        (λ p a b. daily_held_lem p (omega (arith, (fits (axis_years (history_of_site t)) cols fit).year (i + 1) h, (fits (axis_years (history_of_site t)) cols fit).rises i h)))

    energy_held : (i : ℕ) → energy_of (interval_of ps xs ks i) ≡ (energy_in xs i).0
    unfolding energy_of energy_in
    energy_held i = refl

    -- ---- the interval around a position
    in_columns : (p i : ℕ) → around ps n p ≡ some i → i + 1 < n
    unfolding around
    in_columns p i e' = omega (arith, (first_found (is_around ps p) (n - 1) 0 i e').1)

    around_held : (p : ℕ) → first_of (λ v. has_day v p) (intervals (filing_held t n k e w)) ≡ through (interval_of ps xs ks) (around ps n p)
    unfolding has_day around is_around
    around_held p = rw (intervals_held t n k e w cols) (first_tab (λ v. has_day v p) (n - 1) 0 (interval_of ps xs ks))

    profiled_by : (p q : ℕ) (o : Option ℕ) → around ps n p ≡ o
        → profiled_in (filing_held t n k e w) (through (interval_of ps xs ks) o) q ≡ by_profile (of_interval (in_wh 0) (energy_in xs) o).0 q (of_interval 0 (total_in ps w.daily) o)
    unfolding profiled_in
    profiled_by p q none e' = refl
    profiled_by p q (some i) e' = rw (energy_held i, total_held i (in_columns p i e'))

    -- the interval around a year's winter place
    pub interval_held : (y v : ℕ) → interval_at (filing_held t n k e w) y v ≡ through (interval_of ps xs ks) (around ps n (position_at (filing_held t n k e w) y v))
    unfolding interval_at
    interval_held y v = around_held (position_at (filing_held t n k e w) y v)

    -- the profiled point
    pub profiled_held : (y v h : ℕ) → position_at (filing_held t n k e w) y v < 4392
        → profiled_at (filing_held t n k e w) y v h
        ≡ by_profile (get_or (energies_of ps xs n) (position_at (filing_held t n k e w) y v) (in_wh 0)).0 ((filing_held t n k e w).profile y v h) (get_or (totals_of ps w.daily n) (position_at (filing_held t n k e w) y v) 0)
    unfolding profiled_at energies_of totals_of energy_at total_at
    profiled_held y v h l =
        let F = filing_held t n k e w in
        let p = position_at F y v in
        let q = F.profile y v h in
        ap (λ (o : Option Interval). profiled_in F o q) (interval_held y v) ∙ profiled_by p q (around ps n p) refl
        ∙ sym (ap₂ (λ (a b : ℕ). by_profile a q b) (ap (λ (x : Energy). x.0) (get_d_tab0 4392 (energy_at ps xs n) p (in_wh 0) l)) (get_d_tab0 4392 (total_at ps w.daily n) p 0 l))

  -- a history year's winter place is a position of the axis
  pub position_within : (j v : ℕ) → j < (history_of_site t).count → v < 152 → position_at (filing_held t n k e w) ((history_of_site t).first + j) v < 4392
  unfolding position_at history_of_site
  position_within j v h l =
      rw (axis_held t n k e w)
      (omega (arith, axis_row t j h, history_short t.al t.filiere (has_history t.al t.filiere (λ z. omega arith)), (winter_place_day v l).below))

-- the same for a winter place of a history year
pub profiled_year : (t : Site) (n : ℕ) (k : Tallies) (e : Bool) (w : Blocks) {ps xs ks : List ℕ} → Columned w n ps xs ks → T (readings_fit (axis_years (history_of_site t)) (readings_of w n)) → (y v h : ℕ) → T (among (history_of_site t) y) → v < 152
    → profiled_at (filing_held t n k e w) y v h
    ≡ by_profile (get_or (energies_of ps xs n) (position_at (filing_held t n k e w) y v) (in_wh 0)).0 ((filing_held t n k e w).profile y v h) (get_or (totals_of ps w.daily n) (position_at (filing_held t n k e w) y v) 0)
profiled_year t n k e w cols fit y v h a l =
    let b = (among_words (history_of_site t) y).0 a in
    let j = y - (history_of_site t).first in
    profiled_held t n k e w cols fit y v h
    (subst (λ (z : ℕ). position_at (filing_held t n k e w) z v < 4392) (omega arith) (position_within t n k e w j v (omega arith) l))
