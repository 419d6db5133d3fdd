-- The totals and the curve are those of the filing in document 01: 18, the points present, their sum and number, the curve and the level.
use mathlib.Core.Path.{◌≡◌, refl, ap, sym, subst, ◌∙◌}
use mathlib.Core.Bool.{Bool, true, false, ◌&&◌, not, cond}
use mathlib.Core.List.{List, [], ◌∷◌, ◌++◌, map}
use mathlib.Core.Option.{Option}
use Prim.Native.Nat.{ℕ, zero, suc, ◌+◌, ◌*◌, ◌/◌, ◌%◌, ◌≤◌, ◌<◌}
use native.Mathlib.Omega.{arith}
use lib.Dec.{T, eqb, ltb}
use lib.ListN.{length, get_or, length-map, get_or-append}
use lib.Seq.{get_or-append-add}
use borrow.Author.Tests.{lt-ltb, le-ltb, ltb-true, ltb-false, eqb-true, eqb-false}
use Rattle.std.proofs.lemmas.List.{map-append}
use Rattle.lists.specs.Lists.{any, tab, flat, present, sum}
use Rattle.lists.proofs.Laws.{any_each, length_tab, get_d_tab0, each_map}
use Rattle.lists.proofs.Tables.{tab_same}
use Rattle.lists.proofs.Ranges.{map_tab}
use Rattle.lists.proofs.Tests.{or_split, is_false}
use Rattle.calendar.specs.Spans.{history_years}
use Rattle.rounding.specs.declared.Energy.{Energy}
use Rattle.note.specs.Peaks.{peak_days, peak_count}
use Rattle.note.proofs.PeakDays.{days_length}
use Rattle.meaning.specs.Filing.{Site, Filing, history_of}
use Rattle.meaning.specs.Points.{CurvePlace, place_of, source_exceeds, point_at, year_places, all_places}
use Rattle.meaning.specs.Level.{missing_entry, entry_of, points_in, present_in, counted, coefficient_of, ncc, curve_entry, curve_of}
use Rattle.meaning.specs.Closing.{too_high, close_holds}
use Rattle.meaning.specs.Blocks.{Blocks}
use Rattle.meaning.specs.Record.{Tallies, filing_held}
use Rattle.points.specs.declared.own.SiteFactors.{SiteFactors}
use Rattle.history.specs.declared.cases.Case.{Case}
use Rattle.history.specs.Years.{cas_from}
use Rattle.curve.specs.PlaceSums.{point_in, exceeds_in, place_sum_of, entry_in}
use Rattle.curve.specs.YearPlaces.{FileData, file_data}
use Rattle.curve.specs.Places.{places_of, all_places_in, site_factors_of, some_exceeds, present_years, curve_totals_of, curve_entry_in, curve_in, ncc_of}
use Rattle.curve.proofs.PlaceSums.{any_join}
use Rattle.curve.proofs.Filings.{map_each, Means, few, year_is, all_is}

-- ---- where 18 does not hold, every point is taken
taken : (q : CurvePlace) → T (not (exceeds_in q)) → point_in q ≡ point_at q
unfolding exceeds_in point_in
taken q h = rw (is_false (source_exceeds q.source) h)

points_taken : (qs : List CurvePlace) → T (not (any exceeds_in qs)) → map point_in qs ≡ map point_at qs
points_taken qs h = map_each point_in point_at (each_map taken (any_each exceeds_in qs h))

entries_taken : (qs : List CurvePlace) → T (not (any exceeds_in qs)) → map entry_in qs ≡ map (λ q. entry_of (point_at q)) qs
unfolding entry_in
entries_taken qs h = map_each entry_in (λ q. entry_of (point_at q)) (each_map (λ q g. ap entry_of (taken q g)) (any_each exceeds_in qs h))

-- what holds for no place of all years holds for none of a year's
quiet : {A : Type 0} (p : A → Bool) (qs : ℕ → List A) (n i k : ℕ) → i ≤ k → k < i + n → T (not (any p (flat (tab n i qs)))) → T (not (any p (qs k)))
unfolding tab flat
quiet p qs zero i k h g t = absurd (omega (arith, h, g))
quiet {A} p qs (suc n) i k h g t = go (eqb k i) refl (λ l. quiet p qs n (suc i) k l (omega (arith, g)) parts.1)
  where
    parts : T (not (any p (qs i))) × T (not (any p (flat (tab n (suc i) qs))))
    parts = or_split (any p (qs i)) (any p (flat (tab n (suc i) qs))) (subst (λ (x : Bool). T (not x)) (any_join p (qs i) (flat (tab n (suc i) qs))) t)

    go : (v : Bool) → eqb k i ≡ v → (suc i ≤ k → T (not (any p (qs k)))) → T (not (any p (qs k)))
    go true e later = subst (λ (j : ℕ). T (not (any p (qs j)))) (sym (eqb-true k i e)) parts.0
    go false e later = later (omega (arith, h, eqb-false k i e))

-- ---- an entry, by its day and half-hour
next_below : (a b : ℕ) → ltb (suc a) (suc b) ≡ ltb a b
next_below a b = go (ltb a b) refl
  where
    go : (v : Bool) → ltb a b ≡ v → ltb (suc a) (suc b) ≡ ltb a b
    go true e = lt-ltb (suc a) (suc b) (omega (arith, ltb-true a b e)) ∙ sym e
    go false e = le-ltb (suc a) (suc b) (omega (arith, ltb-false a b e)) ∙ sym e

day_entry : (g : CurvePlace → ℕ) (P : ℕ → ℕ → CurvePlace) (ws : List ℕ) (j h : ℕ) (d : ℕ) → h < 20
    → get_or (map g (flat (map (λ w. tab 20 0 (P w)) ws))) (20 * j + h) d ≡ cond (ltb j (length ws)) (g (P (get_or ws j 0) h)) d
unfolding flat
day_entry g P [] j h d l = rw (le-ltb j 0 (omega arith))
day_entry g P (w ∷ ws) zero h d l =
    ap (λ (xs : List ℕ). get_or xs (20 * 0 + h) d) (map-append g (tab 20 0 (P w)) (flat (map (λ v. tab 20 0 (P v)) ws)))
    ∙ get_or-append (map g (tab 20 0 (P w))) (map g (flat (map (λ v. tab 20 0 (P v)) ws))) d (20 * 0 + h) (omega (arith, l, length-map (tab 20 0 (P w)) g, length_tab 20 0 (P w)))
    ∙ ap (λ (xs : List ℕ). get_or xs (20 * 0 + h) d) (map_tab g 20 0 (P w))
    ∙ (let e : 20 * 0 + h ≡ h = omega arith in ap (λ (m : ℕ). get_or (tab 20 0 (λ k. g (P w k))) m d) e)
    ∙ get_d_tab0 20 (λ k. g (P w k)) h d l
    ∙ first_day
  where
    first_day : g (P w h) ≡ cond (ltb 0 (suc (length ws))) (g (P w h)) d
    first_day = rw (lt-ltb 0 (suc (length ws)) (omega arith))
day_entry g P (w ∷ ws) (suc j) h d l =
    ap (λ (xs : List ℕ). get_or xs (20 * suc j + h) d) (map-append g (tab 20 0 (P w)) (flat (map (λ v. tab 20 0 (P v)) ws)))
    ∙ (let e : 20 * suc j + h ≡ length (map g (tab 20 0 (P w))) + (20 * j + h) = omega (arith, length-map (tab 20 0 (P w)) g, length_tab 20 0 (P w)) in
    ap (λ (m : ℕ). get_or (map g (tab 20 0 (P w)) ++ map g (flat (map (λ v. tab 20 0 (P v)) ws))) m d) e)
    ∙ get_or-append-add (map g (tab 20 0 (P w))) (map g (flat (map (λ v. tab 20 0 (P v)) ws))) (20 * j + h) d
    ∙ day_entry g P ws j h d l
    ∙ ap (λ (v : Bool). cond v (g (P (get_or ws j 0) h)) d) (sym (next_below j (length ws)))

module _ (t : Site) (n : ℕ) (r : Tallies) (e : Bool) (b : Blocks) (energies : List Energy) (totals : List ℕ) (curves indexes : List Bool) (cases : List Case)
    (m : Means (filing_held t n r e b) energies totals curves indexes cases) where
  abbrev F : Filing
  F = filing_held t n r e b

  abbrev first : ℕ
  first = (history_years t.al t.filiere).first

  abbrev years : ℕ
  years = (history_years t.al t.filiere).count

  abbrev B : SiteFactors
  B = site_factors_of t.al t.filiere t.ps

  abbrev L : FileData
  L = file_data b.near b.far b.slots energies totals curves indexes (cas_from first t.filiere)

  all_places_lem : all_places_in B L cases r.rates ≡ all_places F
  all_places_lem = all_is t n r e b energies totals curves indexes cases m

  -- 18
  pub exceeds_is : some_exceeds B L cases r.rates ≡ close_holds too_high F
  unfolding some_exceeds exceeds_in close_holds
  exceeds_is = ap (any (λ (q : CurvePlace). source_exceeds q.source)) all_places_lem

  module _ (fine : T (not (close_holds too_high F))) where
    all_quiet : T (not (any exceeds_in (all_places F)))
    unfolding close_holds exceeds_in
    all_quiet = fine

    all_points : present (map point_in (all_places_in B L cases r.rates)) ≡ points_in (all_places F)
    unfolding points_in
    all_points = ap (λ (qs : List CurvePlace). present (map point_in qs)) all_places_lem ∙ ap present (points_taken (all_places F) all_quiet)

    pub sum_is : (curve_totals_of B L cases r.rates).sum.0 ≡ sum (points_in (all_places F))
    unfolding curve_totals_of place_sum_of
    sum_is = ap sum all_points

    pub counted_is : (curve_totals_of B L cases r.rates).counted ≡ counted F
    unfolding curve_totals_of place_sum_of counted
    counted_is = ap length all_points

    pub ncc_is : ncc_of t.al t.filiere (curve_totals_of B L cases r.rates).sum.0 (curve_totals_of B L cases r.rates).counted ≡ ncc F
    unfolding ncc_of ncc coefficient_of filing_held
    ncc_is = rw (sum_is, counted_is)

    -- a year's places
    year_quiet : (k : ℕ) → k < years → T (not (any exceeds_in (year_places F (first + k))))
    unfolding all_places_in site_factors_of
    year_quiet k h =
        subst (λ (qs : List CurvePlace). T (not (any exceeds_in qs))) (year_is t n r e b energies totals curves indexes cases m k h)
        (quiet exceeds_in (places_of B L cases r.rates) years 0 k (omega arith) (omega (arith, h)) (subst (λ (qs : List CurvePlace). T (not (any exceeds_in qs))) (sym all_places_lem) all_quiet))

    pub present_is : (k : ℕ) → k < years → get_or (curve_totals_of B L cases r.rates).present k 0 ≡ present_in F (first + k)
    unfolding curve_totals_of present_years place_sum_of present_in points_in site_factors_of
    present_is k h =
        get_d_tab0 10 (λ j. cond (ltb j years) (length (present (map point_in (places_of B L cases r.rates j)))) 0) k 0 (omega (arith, h, few t n r e b energies totals curves indexes cases m))
        ∙ here
        ∙ ap (λ (qs : List CurvePlace). length (present (map point_in qs))) (year_is t n r e b energies totals curves indexes cases m k h)
        ∙ ap (λ (os : List (Option ℕ)). length (present os)) (points_taken (year_places F (first + k)) (year_quiet k h))
      where
        here : cond (ltb k years) (length (present (map point_in (places_of B L cases r.rates k)))) 0 ≡ length (present (map point_in (places_of B L cases r.rates k)))
        here = rw (lt-ltb k years h)

    -- ---- the curve
    year_entry : (k j h : ℕ) → k < years → h < 20
        → get_or (map entry_in (places_of B L cases r.rates k)) (20 * j + h) missing_entry
        ≡ cond (ltb j (peak_count (first + k))) (entry_of (point_at (place_of F (first + k) (get_or (peak_days (first + k)) j 0) h))) missing_entry
    unfolding year_places
    year_entry k j h i l =
        ap (λ (qs : List CurvePlace). get_or (map entry_in qs) (20 * j + h) missing_entry) (year_is t n r e b energies totals curves indexes cases m k i)
        ∙ ap (λ (xs : List ℕ). get_or xs (20 * j + h) missing_entry) (entries_taken (year_places F (first + k)) (year_quiet k i))
        ∙ day_entry (λ q. entry_of (point_at q)) (place_of F (first + k)) (peak_days (first + k)) j h missing_entry l
        ∙ ap (λ (c : ℕ). cond (ltb j c) (entry_of (point_at (place_of F (first + k) (get_or (peak_days (first + k)) j 0) h))) missing_entry) (days_length (first + k))

    entry_by : (k q h : ℕ) → h < 20 → (v : Bool) → ltb k years ≡ v
        → cond v (get_or (map entry_in (places_of B L cases r.rates k)) (20 * q + h) missing_entry) missing_entry
        ≡ cond (v && ltb q (peak_count (first + k))) (entry_of (point_at (place_of F (first + k) (get_or (peak_days (first + k)) q 0) h))) missing_entry
    entry_by k q h l true w = year_entry k q h (ltb-true k years w) l
    entry_by k q h l false w = refl

    pub curve_is : curve_in B L cases r.rates ≡ curve_of F
    unfolding curve_in curve_of curve_entry_in curve_entry site_factors_of history_of filing_held
    curve_is =
        tab_same 4400 0
        (λ i. cond (ltb (i / 440) years) (get_or (map entry_in (places_of B L cases r.rates (i / 440))) (i % 440) missing_entry) missing_entry)
        (λ i. cond (ltb (i / 440) years && ltb (i % 440 / 20) (peak_count (first + i / 440)))
        (entry_of (point_at (place_of F (first + i / 440) (get_or (peak_days (first + i / 440)) (i % 440 / 20) 0) (i % 20)))) missing_entry)
        (λ i j. at i)
      where
        at : (i : ℕ) → cond (ltb (i / 440) years) (get_or (map entry_in (places_of B L cases r.rates (i / 440))) (i % 440) missing_entry) missing_entry
            ≡ cond (ltb (i / 440) years && ltb (i % 440 / 20) (peak_count (first + i / 440)))
            (entry_of (point_at (place_of F (first + i / 440) (get_or (peak_days (first + i / 440)) (i % 440 / 20) 0) (i % 20)))) missing_entry
        at i =
            let p : i % 440 ≡ 20 * (i % 440 / 20) + i % 20 = omega arith in
            ap (λ (x : ℕ). cond (ltb (i / 440) years) (get_or (map entry_in (places_of B L cases r.rates (i / 440))) x missing_entry) missing_entry) p
            ∙ entry_by (i / 440) (i % 440 / 20) (i % 20) (omega arith) (ltb (i / 440) years) refl
