-- The row of an accepted line's year in the record's spans, and bounds on the numbers by year of a record within its ranges.
use mathlib.Core.Path.{◌≡◌, refl}
use mathlib.Core.Bool.{Bool, true, false, not, ◌&&◌, ◌||◌, cond}
use mathlib.Core.List.{List, [], ◌∷◌}
use Prim.Native.Nat.{ℕ, zero, suc, ◌+◌, ◌-◌, ◌≤◌, ◌<◌}
use native.Mathlib.Omega.{arith}
use lib.Dec.{T, eqb, leb, ltb, leb→le, eqb→eq}
use lib.ListN.{get_or}
use Rattle.lists.specs.Lists.{all_at}
use Rattle.calendar.specs.Dates.{leap, all_winter_dates, all_dates}
use Rattle.calendar.specs.Spans.{among, is_known, history_years, axis_years}
use Rattle.calendar.proofs.Laws.{among_words, has_history, history_bounds, history_short, axis_range}
use Rattle.meaning.specs.Filing.{no_site}
use Rattle.meaning.specs.Line.{most_index}
use Rattle.meaning.specs.Refusals.{is_too_soon, most_readings}
use Rattle.meaning.specs.Record.{Rec, rec_fits, site_fits, last_dates_fit, tallies_fit, each_year, is_within, is_taken, site_of_rec, history_of_site, history_of_rec, axis_of_rec}
use Rattle.blocks.specs.PointStores.{RowPlace}
use Rattle.progress.specs.Steps.{FewDates}

-- ---- a record whose history has a year has taken S
pub site_given : (s : Rec) (y : ℕ) → T (among (history_of_rec s) y) → site_of_rec s ≡ s.site
unfolding history_of_rec history_of_site site_of_rec history_years is_known no_site
site_given s y t = go (is_taken s) t
  where
    go : (b : Bool) → T (among (history_of_site (cond b s.site no_site)) y) → cond b s.site no_site ≡ s.site
    go true t = refl
    go false t = let h = (among_words (history_years 0 0) y).0 t in absurd (omega arith)

site_given_axis : (s : Rec) (y : ℕ) → T (among (axis_of_rec s) y) → site_of_rec s ≡ s.site
unfolding axis_of_rec history_of_rec history_of_site site_of_rec history_years is_known axis_years no_site
site_given_axis s y t = go (is_taken s) t
  where
    go : (b : Bool) → T (among (axis_years (history_of_site (cond b s.site no_site))) y) → cond b s.site no_site ≡ s.site
    go true t = refl
    go false t = let h = (among_words (axis_years (history_years 0 0)) y).0 t in absurd (omega arith)

-- the years, computed in the code from the site of the record
pub history_given : (s : Rec) (y : ℕ) → T (among (history_of_rec s) y) → history_years s.site.al s.site.filiere ≡ history_of_rec s
unfolding history_of_rec history_of_site
history_given s y t = rw (site_given s y t)

pub axis_given : (s : Rec) (y : ℕ) → T (among (axis_of_rec s) y) → axis_years (history_years s.site.al s.site.filiere) ≡ axis_of_rec s
unfolding axis_of_rec history_of_rec history_of_site
axis_given s y t = rw (site_given_axis s y t)

-- ---- a year's row in a span
pub record Row (first y most : ℕ) : Type 0 where
  pub from : first ≤ y
  pub below : y - first < most

pub history_row : (s : Rec) (y : ℕ) → T (among (history_of_rec s) y) → Row (history_of_rec s).first y 10
unfolding history_of_rec history_of_site
history_row s y t =
    let al = (site_of_rec s).al in
    let f = (site_of_rec s).filiere in
    let h = (among_words (history_years al f) y).0 t in
    let k = history_short al f (has_history al f (λ e. omega arith)) in
    record { from = h.0; below = omega arith }

pub axis_row : (s : Rec) (y : ℕ) → T (among (axis_of_rec s) y) → Row (axis_of_rec s).first y 12
unfolding axis_of_rec history_of_rec history_of_site
axis_row s y t =
    let al = (site_of_rec s).al in
    let f = (site_of_rec s).filiere in
    let h = (among_words (axis_years (history_years al f)) y).0 t in
    let k = (axis_range al f).short in
    record { from = h.0; below = omega arith }

-- a year of the history is in the near or the far block
pub row_place : (al f y w : ℕ) → T (among (history_years al f) y) → w < 152 → RowPlace al y w
row_place al f y w t h =
    let a = (among_words (history_years al f) y).0 t in
    let k = has_history al f (λ e. omega arith) in
    let b = history_bounds al f k in
    let c = history_short al f k in
    record { long = omega arith; from = omega arith; to = omega arith; winter = h }

-- ---- numbers by year are small
small : (p : ℕ → ℕ → Bool) (m : ℕ) → ((k n : ℕ) → T (p k n) → n ≤ m) → (i : ℕ) (ns : List ℕ) → T (all_at p i ns) → (k : ℕ) → get_or ns k 0 ≤ m
unfolding all_at
small p m f i [] t k = omega arith
small p m f i (n ∷ ns) t zero = f i n (first (p i n) (all_at p (suc i) ns) t)
  where
    first : (a b : Bool) → T (a && b) → T a
    first true b t = tt
    first false b t = absurd t
small p m f i (n ∷ ns) t (suc k) = small p m f (suc i) ns (second (p i n) (all_at p (suc i) ns) t) k
  where
    second : (a b : Bool) → T (a && b) → T b
    second true b t = t
    second false b t = absurd t

tallies_fit_lem : (s : Rec) → rec_fits s ≡ true → T (tallies_fit (history_of_rec s) s.tallies)
unfolding rec_fits
tallies_fit_lem s e = last
    (leb s.count 9999 && leb s.last 8)
    (site_fits (is_taken s) s.site && not (is_too_soon s.site.al s.site.filiere))
    (leb s.readings most_readings && leb s.last_index most_index)
    (last_dates_fit (history_of_rec s) s.lasts)
    (tallies_fit (history_of_rec s) s.tallies) (rw e tt)
  where
    last : (a b c d x : Bool) → T (a && (b && (c && (d && x)))) → T x
    last true true true true x t = t
    last true true true false x t = absurd t
    last true true false d x t = absurd t
    last true false c d x t = absurd t
    last false b c d x t = absurd t

-- a year has at most 366 dates; the two lists of dates come first
tallies_parts : (s : Rec) → rec_fits s ≡ true
    → T (each_year (history_of_rec s) (λ y n. leb n (all_winter_dates y)) s.tallies.profile_dates)
    × T (each_year (axis_years (history_of_rec s)) (λ y n. leb n (all_dates y)) s.tallies.daily_dates)
unfolding tallies_fit
tallies_parts s e = two
    (each_year (history_of_rec s) (λ y n. leb n (all_winter_dates y)) s.tallies.profile_dates)
    (each_year (axis_years (history_of_rec s)) (λ y n. leb n (all_dates y)) s.tallies.daily_dates)
    (each_year (history_of_rec s) (λ y n. leb n 1) s.tallies.breaks && each_year (history_of_rec s) (λ y n. eqb n 0 || is_within 10 1000 n) s.tallies.rates)
    (tallies_fit_lem s e)
  where
    two : (a b c : Bool) → T (a && (b && c)) → T a × T b
    two true true c t = (tt, tt)
    two true false c t = absurd t
    two false b c t = absurd t

within : (b : Bool) (n m k : ℕ) → (T (leb n m) → n ≤ k) → T (cond b (leb n m) (eqb n 0)) → n ≤ k
within true n m k f t = f t
within false n m k f t = omega (arith, eqb→eq n 0 t)

pub few_profiles : (s : Rec) → rec_fits s ≡ true → FewDates s.tallies.profile_dates
unfolding each_year all_winter_dates
few_profiles s e i = small _ 366 (λ k n t. within (ltb k (history_of_rec s).count) n _ 366 (λ h. most (leap ((history_of_rec s).first + k)) n h) t) 0 s.tallies.profile_dates (tallies_parts s e).0 i
  where
    most : (b : Bool) (n : ℕ) → T (leb n (cond b 152 151)) → n ≤ 366
    most true n h = omega (arith, leb→le n 152 h)
    most false n h = omega (arith, leb→le n 151 h)

pub few_sums : (s : Rec) → rec_fits s ≡ true → FewDates s.tallies.daily_dates
unfolding each_year all_dates
few_sums s e i = small _ 366 (λ k n t. within (ltb k (axis_years (history_of_rec s)).count) n _ 366 (λ h. most (leap ((axis_years (history_of_rec s)).first + k)) n h) t) 0 s.tallies.daily_dates (tallies_parts s e).1 i
  where
    most : (b : Bool) (n : ℕ) → T (leb n (cond b 366 365)) → n ≤ 366
    most true n h = omega (arith, leb→le n 366 h)
    most false n h = omega (arith, leb→le n 365 h)
