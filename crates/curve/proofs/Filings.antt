-- The filing in a record and its blocks: the sources of its points, from the lists that the loop is lent.
use mathlib.Core.Path.{◌≡◌, refl, ap, sym, ◌∙◌}
use mathlib.Core.Bool.{Bool, true, false, ◌&&◌, cond}
use mathlib.Core.List.{List, map}
use mathlib.Core.Option.{Option, some, none}
use Prim.Native.Nat.{ℕ, ◌+◌, ◌-◌, ◌≤◌, ◌<◌}
use native.Mathlib.Nat.{add-zero}
use native.Mathlib.Omega.{arith}
use lib.Dec.{T}
use lib.ListN.{get_or}
use borrow.Author.Tests.{lt-ltb}
use Rattle.lists.specs.Lists.{tab, range, present, sum, flat, Each, each_nil, each_cons}
use Rattle.lists.proofs.Laws.{get_d_tab0, each_map}
use Rattle.lists.proofs.Blocks.{tab_shift, map_range as range-tab}
use Rattle.lists.proofs.Tables.{tab_same}
use Rattle.lists.proofs.Tests.{is_true}
use Rattle.calendar.specs.Spans.{among, is_known, history_years, history_length}
use Rattle.calendar.specs.Places.{has_winter_date}
use Rattle.calendar.proofs.Laws.{among_words, history_short, known_history}
use Rattle.rounding.specs.declared.Energy.{Energy}
use Rattle.rounding.specs.Units.{in_wh}
use Rattle.note.specs.Coefficients.{ca_of}
use Rattle.note.proofs.PeakDays.{each_winter}
use Rattle.meaning.specs.Filing.{Site, Filing, history_of, years_in, history_list}
use Rattle.meaning.specs.Validity.{curve_valid, index_valid}
use Rattle.meaning.specs.Cases.{Case as DocumentCase, case_m, case1, case2, case3, case4, case_p, case5, case6, case_of}
use Rattle.meaning.specs.Points.{Origin, by_profile, Donor, own, place_of, interval_at, profiled_in, profiled_at, read_by, read_at, donor_of, curve_donor, index_donor, curve_donors, index_donors, own_of, history_cas, default_at, source_by, source_at, applied_rate, year_places, all_places}
use Rattle.meaning.specs.Blocks.{Blocks, slots_start}
use Rattle.meaning.specs.Record.{Tallies, history_of_site, profile_held, by_year, rate_of_code, filing_held}
use Rattle.validity.proofs.Filings.{point_is}
use Rattle.points.specs.declared.own.SiteFactors.{SiteFactors}
use Rattle.history.specs.declared.YearOnDay.{YearOnDay}
use Rattle.history.specs.declared.cases.Case.{Case}
use Rattle.history.specs.declared.cases.Case.TheVariants.{M}
use Rattle.history.specs.Cases.{case_view}
use Rattle.points.specs.OwnPoints.{code_in, read_in, profile_in, profiled_on}
use Rattle.points.specs.DonorOrigins.{donor_by, curve_origin, index_origin, donors_among}
use Rattle.history.specs.Years.{no_year, year_on, years_on, position_in, cas_from, cas_sum}
use Rattle.points.specs.Sources.{Day, curve_donors_in, index_donors_in, default_in, source_in}
use Rattle.curve.specs.PlaceSums.{place}
use Rattle.curve.specs.YearPlaces.{FileData, file_data, day_in, places_on, places_in}
use Rattle.curve.specs.Places.{places_of, all_places_in, site_factors_of}

-- ---- lists that agree at each element
pub map_each : {A B : Type 0} (f g : A → B) {xs : List A} → Each (λ x. f x ≡ g x) xs → map f xs ≡ map g xs
map_each f g each_nil = refl
map_each f g (each_cons {x = x} {xs = xs} h r) = rw (h, map_each f g r)

pub map_range : {A : Type 0} (f : ℕ → A) (a n : ℕ) → map f (range a n) ≡ tab n 0 (λ k. f (a + k))
unfolding range
map_range f a n = range-tab f a n ∙ ap (λ (m : ℕ). tab n m f) (sym (add-zero a)) ∙ tab_shift n a 0 f

no_donor : (ca : ℕ) → donor_by ca none ≡ none
unfolding donor_by
no_donor ca = refl

-- ---- the lists of a filing: E and daily total by position, valid curves, valid indexes and cases by history year
pub record Means (F : Filing) (energies : List Energy) (totals : List ℕ) (curves indexes : List Bool) (cases : List Case) : Type 0 where
  pub known : T (is_known F.site.al F.site.filiere)
  pub around : (k w p : ℕ) → k < (history_of F).count → w < 152
      → profiled_in F (interval_at F ((history_of F).first + k) w) p ≡ by_profile (get_or energies (position_in k w) (in_wh 0)).0 p (get_or totals (position_in k w) 0)
  pub curves_valid : (k : ℕ) → k < (history_of F).count → get_or curves k false ≡ curve_valid F ((history_of F).first + k)
  pub indexes_valid : (k : ℕ) → k < (history_of F).count → get_or indexes k false ≡ index_valid F ((history_of F).first + k)
  pub cases_are : (k : ℕ) → k < (history_of F).count → case_view (get_or cases k M) ≡ case_of F ((history_of F).first + k)

module _ (t : Site) (n : ℕ) (r : Tallies) (e : Bool) (b : Blocks) (energies : List Energy) (totals : List ℕ) (curves indexes : List Bool) (cases : List Case)
    (m : Means (filing_held t n r e b) energies totals curves indexes cases) where
  abbrev F : Filing
  F = filing_held t n r e b

  abbrev first : ℕ
  first = (history_years t.al t.filiere).first

  abbrev years : ℕ
  years = (history_years t.al t.filiere).count

  abbrev B : SiteFactors
  B = site_factors_of t.al t.filiere t.ps

  abbrev L : FileData
  L = file_data b.near b.far b.slots energies totals curves indexes (cas_from first t.filiere)

  is_known_lem : T (is_known t.al t.filiere)
  unfolding filing_held
  is_known_lem = m.known

  pub few : years ≤ 10
  few = history_short t.al t.filiere is_known_lem

  in_years : (k : ℕ) → k < years → T (among (history_of_site t) (first + k))
  unfolding history_of_site
  in_years k h = (among_words (history_years t.al t.filiere) (first + k)).1 (omega arith, omega (arith, h))

  -- ---- look-ups
  code_is : (k w h : ℕ) → k < years → w < 152 → h < 20 → read_in t.al b.near b.far (first + k) w h ≡ read_at F (first + k) w h
  unfolding read_in code_in read_at
  code_is k w h i j l = sym (ap read_by (point_is t n r e b (first + k) (in_years k i) w h j l))

  profile_is : (k w h : ℕ) → k < years → w < 152 → h < 20 → profile_in b.slots k w h ≡ F.profile (first + k) w h
  unfolding filing_held profile_held profile_in slots_start history_of_site
  profile_is k w h i j l =
      let d : first + k - first ≡ k = omega arith in
      rw (is_true (among (history_of_site t) (first + k)) (in_years k i), lt-ltb w 152 j, lt-ltb h 20 l, d)

  ca_is : (k : ℕ) → k < years → get_or (cas_from first t.filiere) k 0 ≡ F.ca (first + k)
  unfolding filing_held cas_from
  ca_is k h = get_d_tab0 10 (λ j. ca_of (first + j) t.filiere) k 0 (omega (arith, h, few))

  abbrev on : ℕ → List YearOnDay
  on w = years_on energies totals indexes first w

  on_is : (k w : ℕ) → k < years → get_or (on w) k no_year ≡ year_on energies totals indexes first w k
  unfolding years_on
  on_is k w h = get_d_tab0 10 (year_on energies totals indexes first w) k no_year (omega (arith, h, few))

  profiled_is : (k w h : ℕ) → k < years → w < 152 → h < 20 → profiled_on b.slots (on w) k w h ≡ profiled_at F (first + k) w h
  unfolding profiled_on year_on profiled_at history_of filing_held
  profiled_is k w h i j l =
      rw (on_is k w i, profile_is k w h i j l) (sym (m.around k w (F.profile (first + k) w h) i j))

  -- ---- donors
  abbrev D : ℕ → Day
  D w = day_in first L w

  donor_is : (k : ℕ) → k < years → (o : Option Origin) → donor_by (get_or (cas_from first t.filiere) k 0) o ≡ donor_of F (first + k) o
  unfolding donor_by donor_of
  donor_is k h none = refl
  donor_is k h (some o) = rw (ca_is k h)

  curve_given : (w h k : ℕ) → k < years → w < 152 → h < 20
      → donor_by (get_or (cas_from first t.filiere) k 0) (curve_origin t.al first b.near b.far curves w h k) ≡ curve_donor F w h (first + k)
  unfolding curve_origin curve_donor history_of filing_held
  curve_given w h k i j l =
      rw (m.curves_valid k i, code_is k w h i j l) (go (curve_valid F (first + k)))
    where
      go : (v : Bool) → donor_by (get_or (cas_from first t.filiere) k 0) (cond v (read_at F (first + k) w h) none) ≡ cond v (donor_of F (first + k) (read_at F (first + k) w h)) none
      go true = donor_is k i (read_at F (first + k) w h)
      go false = no_donor (get_or (cas_from first t.filiere) k 0)

  giver_is : (w k : ℕ) → k < years → (get_or (on w) k no_year).is_donor ≡ (index_valid F (first + k) && has_winter_date (first + k) w)
  unfolding year_on history_of filing_held
  giver_is w k h =
      ap (λ (y : YearOnDay). y.is_donor) (on_is k w h)
      ∙ ap (λ (v : Bool). v && has_winter_date (first + k) w) (m.indexes_valid k h)

  index_given : (w h k : ℕ) → k < years → w < 152 → h < 20
      → donor_by (get_or (cas_from first t.filiere) k 0) (index_origin b.slots (on w) w h k) ≡ index_donor F w h (first + k)
  unfolding index_origin index_donor
  index_given w h k i j l =
      rw (giver_is w k i, profiled_is k w h i j l) (go (index_valid F (first + k) && has_winter_date (first + k) w))
    where
      go : (v : Bool) → donor_by (get_or (cas_from first t.filiere) k 0) (cond v (some (profiled_at F (first + k) w h)) none)
          ≡ cond v (donor_of F (first + k) (some (profiled_at F (first + k) w h))) none
      go true = donor_is k i (some (profiled_at F (first + k) w h))
      go false = no_donor (get_or (cas_from first t.filiere) k 0)

  among_is : (g : ℕ → Option Origin) (f : ℕ → Option Donor) → ((k : ℕ) → k < years → donor_by (get_or (cas_from first t.filiere) k 0) (g k) ≡ f (first + k))
      → donors_among years (cas_from first t.filiere) g ≡ present (map f (range first years))
  unfolding donors_among
  among_is g f h =
      ap present (tab_same years 0 (λ k. donor_by (get_or (cas_from first t.filiere) k 0) (g k)) (λ k. f (first + k)) (λ k i. h k (omega (arith, i))) ∙ sym (map_range f first years))

  curve_donors_lem : (w h : ℕ) → w < 152 → h < 20 → curve_donors_in B (D w) w h ≡ curve_donors F w h
  unfolding curve_donors_in curve_donors history_list years_in history_of filing_held site_factors_of day_in
  curve_donors_lem w h j l = among_is (curve_origin t.al first b.near b.far curves w h) (curve_donor F w h) (λ k i. curve_given w h k i j l)

  index_donors_lem : (w h : ℕ) → w < 152 → h < 20 → index_donors_in B (D w) w h ≡ index_donors F w h
  unfolding index_donors_in index_donors history_list years_in history_of filing_held site_factors_of day_in
  index_donors_lem w h j l =
      among_is (index_origin b.slots (on w) w h) (index_donor F w h) (λ k i. index_given w h k i j l)

  -- ---- default power
  cas_sum_lem : cas_sum years (cas_from first t.filiere) ≡ history_cas F
  unfolding cas_sum history_cas history_list years_in history_of filing_held
  cas_sum_lem = ap sum (tab_same years 0 (λ k. get_or (cas_from first t.filiere) k 0) (λ k. F.ca (first + k)) (λ k i. ca_is k (omega (arith, i))) ∙ sym (map_range F.ca first years))

  length_is : years ≡ history_length t.filiere
  length_is = ap (λ (s : Rattle.calendar.specs.declared.Years.Years). s.count) (known_history t.al t.filiere is_known_lem)

  default_is : (k w h : ℕ) → k < years → w < 152 → h < 20 → default_in B (D w) k w h ≡ default_at F (first + k) w h
  unfolding default_in default_at site_factors_of day_in filing_held
  default_is k w h i j l = rw (profile_is k w h i j l, ca_is k i, cas_sum_lem, length_is)

  -- ---- the source of each point
  source_by_lem : (x : DocumentCase) (k w h : ℕ) → k < years → w < 152 → h < 20 → source_in B (D w) x k w h ≡ source_by x F (first + k) w h
  unfolding source_in source_by site_factors_of day_in
  source_by_lem case_m k w h i j l = ap own_of (code_is k w h i j l)
  source_by_lem case1 k w h i j l = ap own (profiled_is k w h i j l)
  source_by_lem case2 k w h i j l = rw (ca_is k i, curve_donors_lem w h j l)
  source_by_lem case3 k w h i j l = rw (ca_is k i, index_donors_lem w h j l)
  source_by_lem case4 k w h i j l = default_is k w h i j l
  source_by_lem case_p k w h i j l = ap own (profiled_is k w h i j l)
  source_by_lem case5 k w h i j l = rw (ca_is k i, index_donors_lem w h j l)
  source_by_lem case6 k w h i j l = default_is k w h i j l

  rate_is : (k : ℕ) → k < years → rate_of_code (get_or r.rates k 0) ≡ applied_rate F (first + k)
  unfolding applied_rate filing_held by_year history_of_site
  rate_is k h =
      let d : first + k - first ≡ k = omega arith in
      rw (is_true (among (history_of_site t) (first + k)) (in_years k h), d)

  place_is : (k w h : ℕ) → k < years → w < 152 → h < 20
      → place (get_or r.rates k 0) (source_in B (D w) (case_view (get_or cases k M)) k w h) ≡ place_of F (first + k) w h
  unfolding place_of source_at history_of filing_held
  place_is k w h i j l = rw (rate_is k i, m.cases_are k i, source_by_lem (case_of F (first + k)) k w h i j l)

  -- ---- the places of a year, and of all
  pub year_is : (k : ℕ) → k < years → places_of B L cases r.rates k ≡ year_places F (first + k)
  unfolding places_of places_in places_on year_places site_factors_of
  year_is k i =
      ap flat (map_each
      (λ w. tab 20 0 (λ h. place (get_or r.rates k 0) (source_in B (D w) (case_view (get_or cases k M)) k w h)))
      (λ w. tab 20 0 (place_of F (first + k) w))
      (each_map (λ w j. tab_same 20 0 (λ h. place (get_or r.rates k 0) (source_in B (D w) (case_view (get_or cases k M)) k w h)) (place_of F (first + k) w)
      (λ h l. place_is k w h i j (omega (arith, l)))) (each_winter (first + k))))

  pub all_is : all_places_in B L cases r.rates ≡ all_places F
  unfolding all_places_in all_places history_list years_in history_of filing_held site_factors_of
  all_is =
      ap flat (tab_same years 0 (places_of B L cases r.rates) (λ k. year_places F (first + k)) (λ k i. year_is k (omega (arith, i))) ∙ sym (map_range (year_places F) first years))
