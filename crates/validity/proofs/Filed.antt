-- The readings of the filing in record and blocks, as columns: what 1 has checked of them, and their intervals by number.
use mathlib.Core.Path.{◌≡◌, refl, ap, ◌∙◌}
use mathlib.Core.Bool.{Bool, ◌&&◌}
use mathlib.Core.List.{List, map}
use Prim.Native.Nat.{ℕ, ◌+◌, ◌-◌, ◌/◌, ◌≤◌, ◌<◌}
use native.Mathlib.Omega.{arith}
use lib.Dec.{T, eqb, leb, ltb, eqb→eq, leb→le, ltb→lt}
use lib.ListN.{length, get_or}
use Rattle.lists.specs.Lists.{all, tab, neighbours}
use Rattle.calendar.specs.declared.Years.{Years}
use Rattle.calendar.specs.Places.{has_date}
use Rattle.calendar.specs.Spans.{among, axis_years, year_at, place_at}
use Rattle.calendar.proofs.Laws.Positions.{among_words, has_history, axis_bounds, axis_range}
use Rattle.meaning.specs.Filing.{Site, Reading, axis_of, history_of}
use Rattle.meaning.specs.Line.{most_index, is_kind}
use Rattle.meaning.specs.Validity.{Interval, intervals}
use Rattle.meaning.specs.Blocks.{Blocks, sizes_fit, points_size, slots_size, daily_size, readings_of}
use Rattle.meaning.specs.Record.{Tallies, history_of_site, reading_fits, readings_fit, filing_held, by_year}
use Rattle.readings.specs.Columns.{reading_in, readings_in, Columned}
use Rattle.validity.specs.Columns.{interval_start, interval_end, Rising, NonDecreasing}
use Rattle.lists.proofs.Ranges.{all_tab, map_tab, neighbours_tab, each_of_range}
use Rattle.lists.proofs.Tests.{is_true, and_left, and_right}

abbrev pub interval_of : List ℕ → List ℕ → List ℕ → ℕ → Interval
interval_of ps xs ks i = record { from = reading_in ps xs ks i; to = reading_in ps xs ks (i + 1) }

-- ---- readings that 1 has checked
pub record Fits (axis : Years) (ps xs : List ℕ) (n : ℕ) : Type 0 where
  -- a date of an axis year
  pub year : (i : ℕ) → i < n → get_or ps i 0 / 366 < axis.count
  pub dated : (i : ℕ) → i < n → T (has_date (year_at axis (get_or ps i 0)) (place_at (get_or ps i 0)))
  pub rises : (i : ℕ) → i + 1 < n → interval_start ps i < interval_end ps i
  pub climbs : (i : ℕ) → i + 1 < n → interval_start xs i ≤ interval_end xs i
  pub most : (i : ℕ) → i < n → get_or xs i 0 ≤ 1000000000000

fit_index : (axis : Years) (r : Reading) → T (reading_fits axis r) → r.index ≤ most_index
unfolding reading_fits
fit_index axis r t =
    let a = among axis (year_at axis r.position) && has_date (year_at axis r.position) (place_at r.position) in
    leb→le r.index most_index (and_left (leb r.index most_index) (is_kind r.kind) (and_right a (leb r.index most_index && is_kind r.kind) t))

fit_place : (axis : Years) (r : Reading) → T (reading_fits axis r) → T (among axis (year_at axis r.position)) × T (has_date (year_at axis r.position) (place_at r.position))
unfolding reading_fits
fit_place axis r t =
    let a = among axis (year_at axis r.position) in
    let d = has_date (year_at axis r.position) (place_at r.position) in
    let u = and_left (a && d) (leb r.index most_index && is_kind r.kind) t in
    (and_left a d u, and_right a d u)

fits_in : (axis : Years) (ps xs ks : List ℕ) (n : ℕ) → T (readings_fit axis (readings_in ps xs ks n)) → Fits axis ps xs n
unfolding readings_fit readings_in
fits_in axis ps xs ks n t = record {
  year = λ i h. in_axis i (one i h);
  dated = λ i h. (fit_place axis (reading_in ps xs ks i) (one i h)).1;
  rises = λ i h. order i (two i h);
  climbs = λ i h. count i (two i h);
  most = λ i h. fit_index axis (reading_in ps xs ks i) (one i h);
}
  where
    pair : Reading × Reading → Bool
    pair p = ltb p.0.position p.1.position && leb p.0.index p.1.index

    one : (i : ℕ) → i < n → T (reading_fits axis (reading_in ps xs ks i))
    one i h =
        each_of_range (λ j. reading_fits axis (reading_in ps xs ks j)) n 0
        (rw (all_tab (reading_fits axis) n 0 (reading_in ps xs ks)) at (and_left (all (reading_fits axis) (tab n 0 (reading_in ps xs ks))) (all pair (neighbours (tab n 0 (reading_in ps xs ks)))) t)) i (omega arith) (omega arith)

    two : (i : ℕ) → i + 1 < n → T (pair (reading_in ps xs ks i, reading_in ps xs ks (i + 1)))
    two i h =
        each_of_range (λ j. pair (reading_in ps xs ks j, reading_in ps xs ks (j + 1))) (n - 1) 0
        (rw (neighbours_tab n 0 (reading_in ps xs ks), all_tab pair (n - 1) 0 (λ j. (reading_in ps xs ks j, reading_in ps xs ks (j + 1)))) at
        (and_right (all (reading_fits axis) (tab n 0 (reading_in ps xs ks))) (all pair (neighbours (tab n 0 (reading_in ps xs ks)))) t)) i (omega arith) (omega arith)

    in_axis : (i : ℕ) → T (reading_fits axis (reading_in ps xs ks i)) → get_or ps i 0 / 366 < axis.count
    in_axis i u = unfold year_at in (omega (arith, (among_words axis (year_at axis (get_or ps i 0))).0 (fit_place axis (reading_in ps xs ks i) u).0))

    order : (i : ℕ) → T (pair (reading_in ps xs ks i, reading_in ps xs ks (i + 1))) → interval_start ps i < interval_end ps i
    order i u = ltb→lt _ _ (and_left (ltb (interval_start ps i) (interval_end ps i)) _ u)

    count : (i : ℕ) → T (pair (reading_in ps xs ks i, reading_in ps xs ks (i + 1))) → interval_start xs i ≤ interval_end xs i
    count i u = leb→le _ _ (and_right (ltb (interval_start ps i) (interval_end ps i)) _ u)

pub fits : {w : Blocks} {n : ℕ} {ps xs ks : List ℕ} (axis : Years) → Columned w n ps xs ks → T (readings_fit axis (readings_of w n)) → Fits axis ps xs n
fits {n = n} {ps = ps} {xs = xs} {ks = ks} axis cols t = fits_in axis ps xs ks n (rw cols.read at t)

-- ---- the columns of a site's readings, as the functions require them
module _ (t : Site) (n : ℕ) (w : Blocks) {ps xs ks : List ℕ} (cols : Columned w n ps xs ks) (few : n ≤ 600) where
  module _ (fit : T (readings_fit (axis_years (history_of_site t)) (readings_of w n))) where
    pub columns_rise : Rising ps n
    unfolding history_of_site
    columns_rise =
        let f = fits (axis_years (history_of_site t)) cols fit in
        let short = (axis_range t.al t.filiere).short in
        record {
          held = omega (arith, cols.positions);
          below = λ i h. omega (arith, f.year i h);
          rises = f.rises;
        }

    pub columns_count : NonDecreasing xs n
    columns_count = record { held = omega (arith, cols.indexes); climbs = (fits (axis_years (history_of_site t)) cols fit).climbs }

pub columns_daily : (w : Blocks) → T (sizes_fit w) → length w.daily ≡ 4392
unfolding sizes_fit
columns_daily w t =
    let a = and_right (eqb (length w.near) points_size) _ t in
    let b = and_right (eqb (length w.far) points_size) _ a in
    let c = and_right (eqb (length w.slots) slots_size) _ b in
    eqb→eq _ _ (and_left (eqb (length w.daily) daily_size) _ c)

-- ---- the years of the filing in record and blocks
module _ (t : Site) (n : ℕ) (k : Tallies) (e : Bool) (w : Blocks) where
  pub history_held : history_of (filing_held t n k e w) ≡ history_of_site t
  unfolding history_of history_of_site filing_held
  history_held = refl

  pub axis_held : axis_of (filing_held t n k e w) ≡ axis_years (history_of_site t)
  unfolding axis_of history_of history_of_site filing_held
  axis_held = refl

  -- the intervals, by number
  pub intervals_held : {ps xs ks : List ℕ} → Columned w n ps xs ks → intervals (filing_held t n k e w) ≡ tab (n - 1) 0 (interval_of ps xs ks)
  unfolding intervals filing_held readings_in
  intervals_held {ps} {xs} {ks} cols =
      ap (λ (rs : List Reading). map (λ (p : Reading × Reading). record { from = p.0; to = p.1 }) (neighbours rs)) cols.read
      ∙ ap (map (λ (p : Reading × Reading). record { from = p.0; to = p.1 })) (neighbours_tab n 0 (reading_in ps xs ks))
      ∙ map_tab (λ (p : Reading × Reading). record { from = p.0; to = p.1 }) (n - 1) 0 (λ i. (reading_in ps xs ks i, reading_in ps xs ks (i + 1)))

-- the j-th history year is year j + 1 of the axis
pub axis_row : (t : Site) (j : ℕ) → j < (history_of_site t).count → (axis_years (history_of_site t)).first + 1 ≡ (history_of_site t).first
unfolding history_of_site
axis_row t j h = (axis_bounds t.al t.filiere (has_history t.al t.filiere (λ z. omega arith))).starts

-- a number by year, for the j-th year of a span
pub by_year_lem : (span : Years) (ns : List ℕ) (j : ℕ) → j < span.count → by_year span ns (span.first + j) ≡ get_or ns j 0
unfolding by_year
by_year_lem span ns j h = rw (is_true (among span (span.first + j)) ((among_words span (span.first + j)).1 (omega arith, omega arith))) (ap (λ (i : ℕ). get_or ns i 0) row)
  where
    row : span.first + j - span.first ≡ j
    row = omega arith
