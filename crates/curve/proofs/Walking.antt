-- A loop over places: what is summed and entered so far, and the places still to come.
use mathlib.Core.Path.{◌≡◌, refl, ap, sym, ◌∙◌}
use mathlib.Core.List.{List, [], ◌∷◌, ◌++◌, map}
use mathlib.Core.Bool.{Bool, true, false}
use Prim.Native.Nat.{ℕ, suc, ◌+◌, ◌-◌, ◌≤◌, ◌<◌}
use native.Mathlib.Numerals.{add-one}
use native.Mathlib.Omega.{arith}
use lib.Dec.{T, ltb}
use borrow.Author.Tests.{ltb-true, ltb-false}
use lib.ListN.{length, get_or, set, drop, drop_of_length-le, get_or-eq_default}
use lib.Seq.{sets, drop-cons}
use Rattle.history.specs.Fits.{AtMost, EnergiesAtMost, NonzeroTotals}
use Rattle.lists.specs.Lists.{tab, flat}
use Rattle.lists.proofs.Laws.{length_tab, get_d_tab0}
use Rattle.lists.proofs.FilledTables.{tab_on, tab_end}
use Rattle.lists.proofs.Tests.{and_made}
use Rattle.calendar.specs.Places.{has_winter_date}
use Rattle.note.specs.Peaks.{peak_days, peak_count}
use Rattle.note.proofs.PeakDays.{days_length}
use Rattle.meaning.specs.Cases.{Case}
use Rattle.meaning.specs.Points.{CurvePlace, Source}
use Rattle.points.specs.declared.own.SiteFactors.{SiteFactors}
use Rattle.points.specs.PlacePoints.{PlacePoint}
use Rattle.points.specs.OwnFits.{PlacePointIs}
use Rattle.history.specs.declared.YearOnDay.{YearOnDay}
use Rattle.history.specs.Years.{no_year, year_on, years_on, position_in}
use Rattle.points.specs.Sources.{Day, day, source_in}
use Rattle.points.specs.Fits.{RateFits, YearFits, DayFits}
use Rattle.curve.specs.declared.place_sums.PlaceSum.{PlaceSum}
use Rattle.curve.specs.PlaceSums.{place_sum_of, entries_of, nothing, plus, after_rate, entry_of_point, sum_of_point, place}
use Rattle.curve.specs.YearPlaces.{FileData, day_in, places_on, places_in}
use Rattle.curve.specs.PlaceSumFits.{PlaceSumFits}
use Rattle.curve.specs.PlaceFits.{Entered, FileDataFits}
use Rattle.curve.proofs.PlaceSums.{nothing_plus, plus_nothing, tally_on, curve_on, entry_is, tally_is, one_fits, plus_fits, nothing_fits}

pub record Walked (n at : ℕ) (all rest : List CurvePlace) (before present : List ℕ) (i : ℕ) (t : PlaceSum) : Type 0 where
  pub fits : PlaceSumFits n t
  pub sums : plus t (place_sum_of rest) ≡ place_sum_of all
  pub curve : sets present i (entries_of rest) ≡ sets before at (entries_of all)

pub not_begun : (at : ℕ) (all : List CurvePlace) (l : List ℕ) (i : ℕ) → i ≡ at → Walked 0 at all all l l i nothing
not_begun at all l i e = record { fits = nothing_fits; sums = nothing_plus (place_sum_of all); curve = ap (λ (j : ℕ). sets l j (entries_of all)) e }

pub walk_on : (n at m : ℕ) (all xs ys : List CurvePlace) (before now later : List ℕ) (i j : ℕ) (t d : PlaceSum) → Walked n at all (xs ++ ys) before now i t → Entered m i xs now later d
    → j ≡ i + length xs → Walked (n + m) at all ys before later j (plus t d)
walk_on n at m all xs ys before now later i j t d w e h =
    record {
      fits = plus_fits n m t d w.fits e.fits;
      sums = ap (λ (x : PlaceSum). plus (plus t x) (place_sum_of ys)) e.tally ∙ tally_on t xs ys w.sums;
      curve = ap (λ (l : List ℕ). sets l j (entries_of ys)) e.curve ∙ curve_on now i j xs ys h w.curve;
    }

pub walk_over : (n at : ℕ) (all : List CurvePlace) (before now : List ℕ) (i : ℕ) (t : PlaceSum) → Walked n at all [] before now i t → Entered n at all before now t
unfolding entries_of
walk_over n at all before now i t w = record { tally = sym (plus_nothing t) ∙ w.sums; fits = w.fits; curve = w.curve }

-- ---- one place
pub one_entered : (rate : ℕ) (s : Source) (f : PlacePoint) (i : ℕ) (l : List ℕ) → PlacePointIs s f → RateFits rate
    → Entered 1 i (place rate s ∷ []) l (set l i (entry_of_point (after_rate rate f))) (sum_of_point (after_rate rate f))
unfolding entries_of
one_entered rate s f i l x r =
    record {
      tally = tally_is rate s f x;
      fits = one_fits rate f r x.fits;
      curve = ap (λ (v : ℕ). set l i v) (entry_is rate s f x);
    }

-- ---- the half-hours of a day from h on
abbrev place_at : SiteFactors → Day → Case → ℕ → ℕ → ℕ → ℕ → CurvePlace
place_at b d x rate k w h = place rate (source_in b d x k w h)

unfoldable pub hours_left : SiteFactors → Day → Case → ℕ → ℕ → ℕ → ℕ → List CurvePlace
hours_left b d x rate k w h = tab (20 - h) h (λ i. place rate (source_in b d x k w i))

pub hours_all : (b : SiteFactors) (d : Day) (x : Case) (rate k w : ℕ) → hours_left b d x rate k w 0 ≡ places_on b d x rate k w
unfolding hours_left places_on
hours_all b d x rate k w = refl

pub hours_on : (b : SiteFactors) (d : Day) (x : Case) (rate k w h : ℕ) → h < 20
    → hours_left b d x rate k w h ≡ (place rate (source_in b d x k w h) ∷ []) ++ hours_left b d x rate k w (h + 1)
unfolding hours_left
hours_on b d x rate k w h l = tab_on (place_at b d x rate k w) h 20 l

pub hours_over : (b : SiteFactors) (d : Day) (x : Case) (rate k w h : ℕ) → 20 ≤ h → hours_left b d x rate k w h ≡ []
unfolding hours_left
hours_over b d x rate k w h l = tab_end (place_at b d x rate k w) h 20 l

pub hours_length : (b : SiteFactors) (d : Day) (x : Case) (rate k w : ℕ) → length (places_on b d x rate k w) ≡ 20
unfolding places_on
hours_length b d x rate k w = length_tab 20 0 (place_at b d x rate k w)

-- ---- the peak days of a year from the j-th on
abbrev day_places : SiteFactors → FileData → Case → ℕ → ℕ → ℕ → List CurvePlace
day_places b l x rate k w = places_on b (day_in b.first l w) x rate k w

unfoldable pub days_left : SiteFactors → FileData → Case → ℕ → ℕ → ℕ → List CurvePlace
days_left b l x rate k j = flat (map (λ w. places_on b (day_in b.first l w) x rate k w) (drop j (peak_days (b.first + k))))

pub days_all : (b : SiteFactors) (l : FileData) (x : Case) (rate k : ℕ) → days_left b l x rate k 0 ≡ places_in b l x rate k
unfolding days_left places_in
days_all b l x rate k = refl

pub days_on : (b : SiteFactors) (l : FileData) (x : Case) (rate k j w : ℕ) → j < peak_count (b.first + k) → w ≡ get_or (peak_days (b.first + k)) j 0
    → days_left b l x rate k j ≡ places_on b (day_in b.first l w) x rate k w ++ days_left b l x rate k (j + 1)
unfolding days_left flat
days_on b l x rate k j w h e =
    ap (λ (ws : List ℕ). flat (map (day_places b l x rate k) ws)) (drop-cons (peak_days (b.first + k)) j 0 (omega (arith, days_length (b.first + k))))
    ∙ ap (λ (v : ℕ). day_places b l x rate k v ++ flat (map (day_places b l x rate k) (drop (suc j) (peak_days (b.first + k))))) (sym e)
    ∙ sym (ap (λ (i : ℕ). day_places b l x rate k w ++ flat (map (day_places b l x rate k) (drop i (peak_days (b.first + k))))) (add-one j))

pub days_over : (b : SiteFactors) (l : FileData) (x : Case) (rate k j : ℕ) → peak_count (b.first + k) ≤ j → days_left b l x rate k j ≡ []
unfolding days_left flat
days_over b l x rate k j h = rw (drop_of_length-le (peak_days (b.first + k)) {i = j} (omega (arith, days_length (b.first + k))))

pub entered_more : (n m at : ℕ) (qs : List CurvePlace) (before now : List ℕ) (t : PlaceSum) → n ≤ m → Entered n at qs before now t → Entered m at qs before now t
entered_more n m at qs before now t h e =
    record { tally = e.tally; fits = record { sum = e.fits.sum; counted = omega (arith, e.fits.counted) }; curve = e.curve }

-- ---- a year on a winter day
-- bounds on E and daily total bound those of a day, and 17 bounds a donor's from below
years_fit : (first : ℕ) (l : FileData) (w : ℕ) → EnergiesAtMost 1000000000000 l.energies → AtMost 13815826560 l.totals → NonzeroTotals first l.indexes l.totals → (k : ℕ) → YearFits (get_or (years_on l.energies l.totals l.indexes first w) k no_year)
unfolding years_on year_on
years_fit first l w e t n k = go (ltb k 10) refl
  where
    on : ℕ → YearOnDay
    on j = year_on l.energies l.totals l.indexes first w j

    go : (b : Bool) → ltb k 10 ≡ b → YearFits (get_or (tab 10 0 on) k no_year)
    go true q = rw (get_d_tab0 10 on k no_year (ltb-true k 10 q)) (record { energy = e (position_in k w); total = t (position_in k w); nonzero = n k w })
    go false q = rw (get_or-eq_default (tab 10 0 on) no_year {n = k} (omega (arith, length_tab 10 0 on, ltb-false k 10 q))) (record { energy = omega arith; total = omega arith; nonzero = λ u. absurd u })

pub day_fits_lem : (b : SiteFactors) (l : FileData) (w : ℕ) → FileDataFits b l → DayFits b (day_in b.first l w)
unfolding day_in
day_fits_lem b l w f =
    record {
      points = f.points;
      slots = f.slots;
      years = years_fit b.first l w f.energies f.totals f.nonzero;
      cas = f.cas;
    }

-- a valid index year is a donor on a day that it has
pub own_index : (first : ℕ) (l : FileData) (w k : ℕ) → k < 10 → T (get_or l.indexes k false) → T (has_winter_date (first + k) w)
    → T (get_or (years_on l.energies l.totals l.indexes first w) k no_year).is_donor
unfolding years_on year_on
own_index first l w k h v d =
    rw (get_d_tab0 10 (year_on l.energies l.totals l.indexes first w) k no_year h) (and_made (get_or l.indexes k false) (has_winter_date (first + k) w) v d)

-- what was looked up for a day is what its points are computed from
pub day_is : (first : ℕ) (l : FileData) (w : ℕ) (on : List YearOnDay) → on ≡ years_on l.energies l.totals l.indexes first w
    → day l.near l.far l.slots on l.curves l.cas ≡ day_in first l w
unfolding day_in
day_is first l w on e = ap (λ (ys : List YearOnDay). day l.near l.far l.slots ys l.curves l.cas) e
