-- The curve's places and their count are what the words say.
use mathlib.Core.Path.{◌≡◌, refl, ap, sym, ◌∙◌}
use mathlib.Core.Logic.{◌≢◌, ◌↔◌}
use mathlib.Core.Bool.{Bool, true, false, not, ◌&&◌}
use mathlib.Core.List.{map}
use mathlib.Core.Option.{Option, some, none}
use Prim.Native.Nat.{ℕ, ◌+◌, ◌*◌, ◌/◌, ◌%◌, ◌≤◌, ◌<◌}
use native.Mathlib.Omega.{arith}
use lib.Dec.{T, eqb, ltb, not_T}
use lib.ListN.{length, get_or}
use borrow.Author.Tests.{lt-ltb, ne_eqb}
use Rattle.lists.specs.Lists.{is_some, flat, tab, present, sum, count, Each}
use Rattle.lists.specs.Restated.{CountIs}
use Rattle.lists.proofs.Laws.{length_tab, get_d_tab0}
use Rattle.lists.proofs.Reflect.{of_eq, of_not, of_and, of_lt}
use Rattle.lists.proofs.RestatedLists.{of_none, of_count, count_flat, count_none, present_count, sum_same, some_at}
use Rattle.lists.proofs.Tables.{tab_same}
use Rattle.lists.proofs.Blocks.{tab_shift, map_range, sum_blocks, count_blocks, sum_short, sum_places, count_same}
use Rattle.lists.proofs.Tests.{is_false}
use Rattle.calendar.specs.Spans.{is_known, history_years}
use Rattle.calendar.proofs.Laws.Positions.{among_words, history_short, no_history}
use Rattle.note.specs.Peaks.{peak_days, peak_count}
use Rattle.note.proofs.PeakDays.{days_length, most_days}
use Rattle.meaning.specs.Filing.{Filing, history_of, years_in, history_list}
use Rattle.meaning.specs.Points.{place_of, year_places, all_places, point_at}
use Rattle.meaning.specs.Level.{points_in, present_in, counted, missing_entry, entry_of, curve_entry, curve_of}
use Rattle.meaning.specs.Restated.Years.{OfHistory}
use Rattle.meaning.specs.Restated.Points.{Used, point_of_place, CurveWords}
use Rattle.meaning.proofs.Pins.Dates.{date_words}
use Rattle.meaning.proofs.Pins.Close.{some_places}
use Rattle.meaning.proofs.Pins.Sources.{points_apart}

-- ---- the places of the curve
history_most : (F : Filing) → (history_of F).count ≤ 10
unfolding history_of
history_most F = go (is_known F.site.al F.site.filiere) refl
  where
    go : (b : Bool) → is_known F.site.al F.site.filiere ≡ b → (history_years F.site.al F.site.filiere).count ≤ 10
    go true e = history_short F.site.al F.site.filiere (rw e tt)
    go false e = rw (no_history F.site.al F.site.filiere (rw e tt)) (omega arith)

curve_at : (F : Filing) (k j h d : ℕ) → k < 10 → j < 22 → h < 20 → get_or (curve_of F) (440 * k + (20 * j + h)) d ≡ curve_entry F k j h
unfolding curve_of
curve_at F k j h d a b c =
    let year : (440 * k + (20 * j + h)) / 440 ≡ k = omega arith in
    let day : (440 * k + (20 * j + h)) % 440 / 20 ≡ j = omega arith in
    let hour : (440 * k + (20 * j + h)) % 20 ≡ h = omega arith in
    get_d_tab0 4400 (λ i. curve_entry F (i / 440) (i % 440 / 20) (i % 20)) (440 * k + (20 * j + h)) d (omega arith) ∙ rw (year, day, hour)

entry_used : (F : Filing) (k j h : ℕ) → Used F k j → curve_entry F k j h ≡ entry_of (point_of_place F k j h)
unfolding curve_entry
entry_used F k j h u = rw (lt-ltb k (history_of F).count u.0, lt-ltb j (peak_count ((history_of F).first + k)) u.1)

used_words : (F : Filing) (k j : ℕ) → T (ltb k (history_of F).count && ltb j (peak_count ((history_of F).first + k))) ↔ Used F k j
used_words F k j = of_and (ltb k (history_of F).count) (ltb j (peak_count ((history_of F).first + k))) (of_lt k (history_of F).count) (of_lt j (peak_count ((history_of F).first + k)))

entry_unused : (F : Filing) (k j h : ℕ) → (¬ Used F k j) → curve_entry F k j h ≡ missing_entry
unfolding curve_entry
entry_unused F k j h n = rw (is_false (ltb k (history_of F).count && ltb j (peak_count ((history_of F).first + k))) (not_T (ltb k (history_of F).count && ltb j (peak_count ((history_of F).first + k))) (λ t. n ((used_words F k j).0 t))))

-- ---- counts
present_year : (F : Filing) (y : ℕ) → present_in F y ≡ sum (map (λ w. count (λ q. is_some (point_at q)) (tab 20 0 (place_of F y w))) (peak_days y))
unfolding present_in points_in year_places
present_year F y =
    present_count point_at (flat (map (λ w. tab 20 0 (place_of F y w)) (peak_days y)))
    ∙ count_flat (λ q. is_some (point_at q)) (λ w. tab 20 0 (place_of F y w)) (peak_days y)

counted_years : (F : Filing) → counted F ≡ sum (map (present_in F) (history_list F))
unfolding counted points_in all_places present_in
counted_years F =
    present_count point_at (flat (map (year_places F) (history_list F)))
    ∙ count_flat (λ q. is_some (point_at q)) (year_places F) (history_list F)
    ∙ sum_same (λ y. count (λ q. is_some (point_at q)) (year_places F y)) (λ y. length (present (map point_at (year_places F y)))) (history_list F) (λ y. sym (present_count point_at (year_places F y)))

-- ---- the places that are not missing
given : ℕ → Bool
given e = not (eqb e missing_entry)

row : Filing → ℕ → ℕ → ℕ
row F k j = count given (tab 20 0 (curve_entry F k j))

curve_rows : (F : Filing) → count given (curve_of F) ≡ sum (tab 10 0 (λ k. sum (tab 22 0 (row F k))))
unfolding curve_of row
curve_rows F =
    count_blocks given 20 220 0 entry
    ∙ ap sum (tab_same 220 0 (λ m. count given (tab 20 (20 * m) entry)) by_row days)
    ∙ sum_blocks 22 10 0 by_row
    ∙ ap sum (tab_same 10 0 (λ k. sum (tab 22 (22 * k) by_row)) (λ k. sum (tab 22 0 (row F k))) years)
  where
    entry : ℕ → ℕ
    entry i = curve_entry F (i / 440) (i % 440 / 20) (i % 20)

    by_row : ℕ → ℕ
    by_row m = row F (m / 22) (m % 22)

    day_at_lem : (m h : ℕ) → h < 20 → entry (20 * m + h) ≡ curve_entry F (m / 22) (m % 22) h
    day_at_lem m h c =
        let year : (20 * m + h) / 440 ≡ m / 22 = omega arith in
        let day : (20 * m + h) % 440 / 20 ≡ m % 22 = omega arith in
        let hour : (20 * m + h) % 20 ≡ h = omega arith in
        rw (year, day, hour)

    days : (m : ℕ) → m < 0 + 220 → count given (tab 20 (20 * m) entry) ≡ by_row m
    days m a =
        let start : 20 * m ≡ 20 * m + 0 = omega arith in
        ap (count given) (ap (λ (i : ℕ). tab 20 i entry) start ∙ tab_shift 20 (20 * m) 0 entry ∙ tab_same 20 0 (λ h. entry (20 * m + h)) (curve_entry F (m / 22) (m % 22)) (λ h c. day_at_lem m h (omega arith)))

    year_at_lem : (k j : ℕ) → j < 22 → by_row (22 * k + j) ≡ row F k j
    year_at_lem k j c =
        let year : (22 * k + j) / 22 ≡ k = omega arith in
        let day : (22 * k + j) % 22 ≡ j = omega arith in
        rw (year, day)

    years : (k : ℕ) → k < 0 + 10 → sum (tab 22 (22 * k) by_row) ≡ sum (tab 22 0 (row F k))
    years k a =
        let start : 22 * k ≡ 22 * k + 0 = omega arith in
        ap sum (ap (λ (i : ℕ). tab 22 i by_row) start ∙ tab_shift 22 (22 * k) 0 by_row ∙ tab_same 22 0 (λ j. by_row (22 * k + j)) (row F k) (λ j c. year_at_lem k j (omega arith)))

-- an entry that is not the value for missing is present where its point is
given_entry : (o : Option ℕ) → o ≢ some missing_entry → given (entry_of o) ≡ is_some o
unfolding given entry_of
given_entry none n = refl
given_entry (some v) n = rw (ne_eqb v missing_entry (λ e. n (ap some e)))

given_missing : given missing_entry ≡ false
unfolding given
given_missing = refl

module _ (F : Filing) (apart : Each (λ q. point_at q ≢ some missing_entry) (all_places F)) where
  -- a used place is one of the curve's
  place_apart : (k j h : ℕ) → Used F k j → h < 20 → point_of_place F k j h ≢ some missing_entry
  place_apart k j h u c e =
      (of_none {P = λ q. point_at q ≡ some missing_entry} (all_places F)).1 apart
      ((some_places F).1 ((history_of F).first + k, history, some_at (peak_days ((history_of F).first + k)) j 0 (omega (arith, u.1, days_length ((history_of F).first + k))) (h, c, e)))
    where
      history : OfHistory F ((history_of F).first + k)
      history = (date_words.history F.site.al F.site.filiere ((history_of F).first + k)).0 (unfold history_of in ((among_words (history_years F.site.al F.site.filiere) ((history_years F.site.al F.site.filiere).first + k)).1 (omega arith, unfold history_of in (omega (arith, u.0)))))

  row_used : (k j : ℕ) → Used F k j → row F k j ≡ count (λ q. is_some (point_at q)) (tab 20 0 (place_of F ((history_of F).first + k) (get_or (peak_days ((history_of F).first + k)) j 0)))
  unfolding row
  row_used k j u =
      count_same given (λ q. is_some (point_at q)) 20 0 (curve_entry F k j) (place_of F ((history_of F).first + k) (get_or (peak_days ((history_of F).first + k)) j 0))
      (λ h a b. ap given (entry_used F k j h u) ∙ given_entry (point_of_place F k j h) (place_apart k j h u (omega arith)))

  row_unused : (k j : ℕ) → (¬ Used F k j) → row F k j ≡ 0
  unfolding row
  row_unused k j n = count_none given 20 0 (curve_entry F k j) (λ h. ap given (entry_unused F k j h n) ∙ given_missing)

  year_row_lem : (k : ℕ) → k < (history_of F).count → sum (tab 22 0 (row F k)) ≡ present_in F ((history_of F).first + k)
  year_row_lem k a =
      sum_short (peak_count ((history_of F).first + k)) 22 (row F k) (most_days ((history_of F).first + k)) (λ j c. row_unused k j (λ u. omega (arith, u.1)))
      ∙ ap sum (tab_same (peak_count ((history_of F).first + k)) 0 (row F k) (λ j. day (get_or (peak_days ((history_of F).first + k)) j 0)) (λ j c. row_used k j (a, omega arith)))
      ∙ ap (λ (n : ℕ). sum (tab n 0 (λ j. day (get_or (peak_days ((history_of F).first + k)) j 0)))) (sym (days_length ((history_of F).first + k)))
      ∙ sum_places day (peak_days ((history_of F).first + k)) 0
      ∙ sym (present_year F ((history_of F).first + k))
    where
      day : ℕ → ℕ
      day w = count (λ q. is_some (point_at q)) (tab 20 0 (place_of F ((history_of F).first + k) w))

  year_past : (k : ℕ) → (history_of F).count ≤ k → sum (tab 22 0 (row F k)) ≡ 0
  unfolding tab sum
  year_past k a = sum_short 0 22 (row F k) (omega arith) (λ j c. row_unused k j (λ u. omega (arith, u.0)))

  curve_counted : count given (curve_of F) ≡ counted F
  unfolding history_list years_in
  curve_counted =
      curve_rows F
      ∙ sum_short (history_of F).count 10 (λ k. sum (tab 22 0 (row F k))) (history_most F) year_past
      ∙ ap sum (tab_same (history_of F).count 0 (λ k. sum (tab 22 0 (row F k))) (λ k. present_in F ((history_of F).first + k)) (λ k a. year_row_lem k (omega arith)))
      ∙ ap sum (sym (tab_shift (history_of F).count (history_of F).first 0 (present_in F)))
      ∙ ap (λ (i : ℕ). sum (tab (history_of F).count i (present_in F))) first
      ∙ ap sum (sym (map_range (present_in F) (history_of F).first (history_of F).count))
      ∙ sym (counted_years F)
    where
      first : (history_of F).first + 0 ≡ (history_of F).first
      first = omega arith

  curve_tally : CountIs (λ e. e ≢ missing_entry) (curve_of F) (counted F)
  unfolding given
  curve_tally = (of_count given (λ e. of_not (eqb e missing_entry) (of_eq e missing_entry)) (curve_of F) (counted F)).0 curve_counted

pub curve_words : CurveWords
unfolding curve_of
curve_words = record {
  length = λ F. length_tab 4400 0 (λ i. curve_entry F (i / 440) (i % 440 / 20) (i % 20));
  used = λ F k j h d u c.
      curve_at F k j h d (omega (arith, u.0, history_most F)) (omega (arith, u.1, most_days ((history_of F).first + k))) c ∙ entry_used F k j h u;
  unused = λ F k j h d a b c n. curve_at F k j h d a b c ∙ entry_unused F k j h n;
  years = counted_years;
  places = curve_tally;
  apart = points_apart;
}
