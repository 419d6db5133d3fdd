-- The filing's valid index years are those from the columns.
use mathlib.Core.Path.{◌≡◌, ap, ◌∙◌}
use mathlib.Core.Logic.{◌↔◌, ◌⊎◌, inl, inr}
use mathlib.Core.Bool.{Bool, true, false, not, ◌&&◌, ◌||◌}
use mathlib.Core.List.{List}
use Prim.Native.Nat.{ℕ, zero, suc, ◌+◌, ◌-◌, ◌*◌, ◌≤◌, ◌<◌}
use native.Mathlib.Omega.{arith}
use lib.Dec.{T, leb, ltb}
use lib.ListN.{get_or}
use Rattle.lists.specs.Lists.{any, all, tab, range}
use Rattle.lists.proofs.Reflect.{of_and, of_le, of_lt}
use Rattle.calendar.specs.Places.{has_date}
use Rattle.calendar.specs.Spans.{axis_years, place_at}
use Rattle.calendar.proofs.Tables.{given, tri}
use Rattle.meaning.specs.Filing.{Site, Filing, axis_of, year_of}
use Rattle.meaning.specs.Validity.{intervals, has_day, is_winter_day, overlaps_winter, winter_days, is_covered, is_sound, index_valid}
use Rattle.meaning.specs.Blocks.{Blocks, readings_of}
use Rattle.meaning.specs.Record.{Tallies, history_of_site, readings_fit, filing_held}
use Rattle.readings.specs.Columns.{Columned}
use Rattle.validity.specs.Columns.{interval_start, interval_end, year_start, meets_winter, Rising, is_trusted_at}
use Rattle.validity.specs.Index.{covers_year, is_sound_at, is_sound_year, valid_index}
use Rattle.validity.specs.Days.{is_around}
use Rattle.lists.proofs.Ranges.{any_tab, all_tab, all_keep, all_same, some_of_range, range_some, each_of_range, range_each}
use Rattle.lists.proofs.Tests.{same, and_made}
use Rattle.validity.proofs.Fills.{later}
use Rattle.validity.proofs.Winter.{InWinter, dated_at_lem, dated_late, winter_day, overlap_by_ends}
use Rattle.validity.proofs.Filed.{interval_of, fits, axis_held, intervals_held, axis_row}

pub around_words : (ps : List ℕ) (p i : ℕ) → T (is_around ps p i) ↔ ((interval_start ps i ≤ p) × (p < interval_end ps i))
unfolding is_around
around_words ps p i = of_and (leb (interval_start ps i) p) (ltb p (interval_end ps i)) (of_le (interval_start ps i) p) (of_lt p (interval_end ps i))

-- ---- neighbours make a chain: each position between the first and the last reading has an interval around it
around_some : (ps : List ℕ) (p m : ℕ) → get_or ps 0 0 ≤ p → p < get_or ps m 0 → T (any (is_around ps p) (range 0 m))
around_some ps p zero h l = absurd (omega arith)
around_some ps p (suc m) h l = go (tri p (get_or ps m 0)) (λ a. around_some ps p m h a)
  where
    wider : T (any (is_around ps p) (range 0 m)) → T (any (is_around ps p) (range 0 (suc m)))
    wider t =
        let s = some_of_range (is_around ps p) m 0 t in
        range_some (is_around ps p) (suc m) 0 s.0 (omega arith) (omega (arith, s.2)) s.3

    next : get_or ps (suc m) 0 ≡ get_or ps (m + 1) 0
    next = ap (λ (i : ℕ). get_or ps i 0) (omega arith)

    last : get_or ps m 0 ≤ p → T (any (is_around ps p) (range 0 (suc m)))
    last a =
        range_some (is_around ps p) (suc m) 0 m (omega arith) (omega arith)
        ((around_words ps p m).1 (a, omega (arith, next)))

    go : (p < get_or ps m 0) ⊎ ((p ≡ get_or ps m 0) ⊎ (get_or ps m 0 < p)) → (p < get_or ps m 0 → T (any (is_around ps p) (range 0 m))) → T (any (is_around ps p) (range 0 (suc m)))
    go (inl a) f = wider (f a)
    go (inr (inl a)) f = last (omega arith)
    go (inr (inr a)) f = last (omega arith)

unless : (a b : Bool) → (T a → T b) → T (not a || b)
unless true b f = f tt
unless false b f = tt

-- ---- coverage, by the first reading and the last
module _ (F : Filing) (ps xs ks : List ℕ) (n y s : ℕ) (r : Rising ps n) (from : (axis_of F).first ≤ y) (row : s ≡ 366 * (y - (axis_of F).first)) (read : intervals F ≡ tab (n - 1) 0 (interval_of ps xs ks)) where
  around_day : (p : ℕ) → any (λ v. has_day v p) (intervals F) ≡ any (is_around ps p) (range 0 (n - 1))
  unfolding has_day is_around
  around_day p = rw read (any_tab (λ v. has_day v p) (n - 1) 0 (interval_of ps xs ks))

  days_test : ℕ → Bool
  days_test p = has_date y (place_at p) && is_winter_day F y p

  covered_words : is_covered F y ≡ all (λ p. not (days_test p) || any (λ v. has_day v p) (intervals F)) (range (366 * (y - (axis_of F).first)) 366)
  unfolding is_covered winter_days days_test
  covered_words = all_keep (λ p. any (λ v. has_day v p) (intervals F)) days_test (range (366 * (y - (axis_of F).first)) 366)

  pub covered_by_ends : is_covered F y ≡ covers_year ps n s
  unfolding covers_year days_test
  covered_by_ends =
      covered_words ∙ same (all (λ p. not (days_test p) || any (λ v. has_day v p) (intervals F)) (range (366 * (y - (axis_of F).first)) 366))
      (ltb 0 n && (leb (get_or ps 0 0) s && leb (s + 366) (get_or ps (n - 1) 0))) (λ t. words.1 (forth t)) (λ t. back (words.0 t))
    where
      words : T (ltb 0 n && (leb (get_or ps 0 0) s && leb (s + 366) (get_or ps (n - 1) 0))) ↔ ((0 < n) × ((get_or ps 0 0 ≤ s) × (s + 366 ≤ get_or ps (n - 1) 0)))
      words =
          of_and (ltb 0 n) (leb (get_or ps 0 0) s && leb (s + 366) (get_or ps (n - 1) 0)) (of_lt 0 n)
          (of_and (leb (get_or ps 0 0) s) (leb (s + 366) (get_or ps (n - 1) 0)) (of_le (get_or ps 0 0) s) (of_le (s + 366) (get_or ps (n - 1) 0)))

      first_place_lem : place_at s ≡ 0
      first_place_lem = unfold place_at in omega arith

      last_place : place_at (s + 365) ≡ 365
      last_place = unfold place_at in omega arith

      -- each winter day of a covered year has an interval around it
      at_day : T (all (λ p. not (days_test p) || any (λ v. has_day v p) (intervals F)) (range (366 * (y - (axis_of F).first)) 366))
          → (p : ℕ) → s ≤ p → p < s + 366 → T (has_date y (place_at p)) → InWinter s p → (i : ℕ) × (i + 1 < n) × (interval_start ps i ≤ p) × (p < interval_end ps i)
      at_day t p h l d q =
          let u = each_of_range (λ z. not (days_test z) || any (λ v. has_day v z) (intervals F)) 366 (366 * (y - (axis_of F).first)) t p (omega arith) (omega arith) in
          let b = given (days_test p) (any (λ v. has_day v p) (intervals F)) u (and_made (has_date y (place_at p)) (is_winter_day F y p) d ((winter_day F y s from row p).1 q)) in
          let i = some_of_range (is_around ps p) (n - 1) 0 (rw (around_day p) at b) in
          let a = (around_words ps p i.0).0 i.3 in
          (i.0, omega (arith, i.2), a.0, a.1)

      forth : T (all (λ p. not (days_test p) || any (λ v. has_day v p) (intervals F)) (range (366 * (y - (axis_of F).first)) 366))
          → (0 < n) × ((get_or ps 0 0 ≤ s) × (s + 366 ≤ get_or ps (n - 1) 0))
      forth t =
          let a = at_day t s (omega arith) (omega arith) (dated_at_lem y s 0 first_place_lem (omega arith)) (inl (omega arith, omega arith)) in
          let b = at_day t (s + 365) (omega arith) (omega arith) (dated_late y (s + 365) 365 last_place (omega arith) (omega arith)) (inr (omega arith, omega arith)) in (
            omega (arith, a.1),
            (
              omega (arith, a.2, later ps n r 0 a.0 (omega arith) (omega (arith, a.1))),
              omega (arith, b.3, later ps n r (b.0 + 1) (n - 1) (omega (arith, b.1)) (omega (arith, b.1))),
            ),
          )

      back : (0 < n) × ((get_or ps 0 0 ≤ s) × (s + 366 ≤ get_or ps (n - 1) 0))
          → T (all (λ p. not (days_test p) || any (λ v. has_day v p) (intervals F)) (range (366 * (y - (axis_of F).first)) 366))
      back h =
          range_each (λ p. not (days_test p) || any (λ v. has_day v p) (intervals F)) 366 (366 * (y - (axis_of F).first))
          (λ p g l. unless (days_test p) (any (λ v. has_day v p) (intervals F)) (λ t. rw (around_day p) (around_some ps p (n - 1) (omega arith) (omega arith))))

-- ---- valid index years
-- a reading is on a date that exists
pub dated_held : (t : Site) (n : ℕ) (k : Tallies) (e : Bool) (w : Blocks) {ps xs ks : List ℕ} → Columned w n ps xs ks → T (readings_fit (axis_years (history_of_site t)) (readings_of w n)) → (i : ℕ) → i < n
    → T (has_date (year_of (filing_held t n k e w) (get_or ps i 0)) (place_at (get_or ps i 0)))
unfolding year_of
dated_held t n k e w cols fit i h = rw (axis_held t n k e w) ((fits (axis_years (history_of_site t)) cols fit).dated i h)

module _ (t : Site) (n : ℕ) (k : Tallies) (e : Bool) (w : Blocks) {ps xs ks : List ℕ} (cols : Columned w n ps xs ks) (rise : Rising ps n) (fit : T (readings_fit (axis_years (history_of_site t)) (readings_of w n))) (j : ℕ) (year : j < (history_of_site t).count) where
  in_axis : (axis_of (filing_held t n k e w)).first ≤ (history_of_site t).first + j
  in_axis = rw (axis_held t n k e w) (omega (arith, axis_row t j year))

  in_row : year_start j ≡ 366 * ((history_of_site t).first + j - (axis_of (filing_held t n k e w)).first)
  in_row = rw (axis_held t n k e w) (omega (arith, axis_row t j year))

  -- whether an interval of the columns overlaps winter, by its ends
  pub overlap_held : (i : ℕ) → i + 1 < n → overlaps_winter (filing_held t n k e w) ((history_of_site t).first + j) (interval_of ps xs ks i) ≡ meets_winter (year_start j) (interval_start ps i) (interval_end ps i)
  overlap_held i h =
      overlap_by_ends (filing_held t n k e w) ((history_of_site t).first + j) (year_start j) in_axis in_row (interval_of ps xs ks i) (rise.rises i h) (dated_held t n k e w cols fit i (omega arith))

  sound_held : all (λ v. not (overlaps_winter (filing_held t n k e w) ((history_of_site t).first + j) v) || is_sound v) (intervals (filing_held t n k e w)) ≡ is_sound_year ps ks n (year_start j)
  unfolding is_sound_year is_sound_at is_trusted_at is_sound
  sound_held =
      rw (intervals_held t n k e w cols)
      (all_tab (λ v. not (overlaps_winter (filing_held t n k e w) ((history_of_site t).first + j) v) || is_sound v) (n - 1) 0 (interval_of ps xs ks)
      ∙ all_same (λ i. not (overlaps_winter (filing_held t n k e w) ((history_of_site t).first + j) (interval_of ps xs ks i)) || is_sound (interval_of ps xs ks i)) (is_sound_at ps ks (year_start j)) (n - 1) 0
      (λ i a b. ap (λ (o : Bool). not o || is_sound (interval_of ps xs ks i)) (overlap_held i (omega arith))))

  pub index_valid_held : index_valid (filing_held t n k e w) ((history_of_site t).first + j) ≡ valid_index ps ks n j ((filing_held t n k e w).broken ((history_of_site t).first + j))
  unfolding index_valid valid_index
  index_valid_held =
      rw (covered_by_ends (filing_held t n k e w) ps xs ks n ((history_of_site t).first + j) (year_start j) rise in_axis in_row (intervals_held t n k e w cols), sound_held)
