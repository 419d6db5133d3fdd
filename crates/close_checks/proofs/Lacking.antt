-- 15, 16 and 17 of a filing, from the columns, the dates by year and the valid-index and default-power years.
use mathlib.Core.Path.{◌≡◌, ap, ap₂, sym, ◌∙◌}
use mathlib.Core.Logic.{◌↔◌}
use mathlib.Core.Bool.{Bool, false, ◌&&◌, ◌||◌}
use mathlib.Core.List.{List}
use Prim.Native.Nat.{ℕ, ◌+◌, ◌-◌, ◌*◌, ◌/◌, ◌≤◌, ◌<◌}
use native.Mathlib.Omega.{arith}
use lib.Dec.{T, eqb}
use lib.ListN.{get_or}
use Rattle.close_checks.specs.Totals.{some_in, some_winter, totals_zero}
use Rattle.validity.specs.Dates.{some_partial, partial_dates, lacks_profile_at, lacks_profiles}
use Rattle.lists.specs.Lists.{any, range}
use Rattle.lists.proofs.Laws.{get_d_tab0}
use Rattle.calendar.specs.declared.Years.{Years}
use Rattle.calendar.specs.Spans.{axis_years}
use Rattle.meaning.specs.Filing.{Site, Filing, axis_of, history_list, years_in}
use Rattle.meaning.specs.Validity.{Interval, intervals, overlaps_winter, touches, total_of, index_valid}
use Rattle.meaning.specs.Cases.{case_of, is_default}
use Rattle.calendar.specs.Dates.{all_winter_dates, all_dates}
use Rattle.meaning.specs.Closing.{partial, no_data, zero_total, close_holds, is_partial, some_winter_interval, lacks_profile, lacks_daily}
use Rattle.meaning.specs.Blocks.{Blocks, readings_of}
use Rattle.meaning.specs.Record.{Tallies, history_of_site, readings_fit, filing_held}
use Rattle.readings.specs.Columns.{Columned}
use Rattle.validity.specs.Columns.{interval_start, interval_end, year_start, meets_winter, Rising}
use Rattle.validity.specs.Days.{total_in, of_interval, total_at, totals_of}
use Rattle.close_checks.specs.Closing.{misses_between, misses_days}
use Rattle.lists.proofs.Ranges.{any_tab, any_same, any_moved, some_of_range, range_some}
use Rattle.lists.proofs.Tests.{same, and_left, and_right, and_made}
use Rattle.validity.proofs.Fills.{around_here}
use Rattle.validity.proofs.Winter.{touch_by_ends}
use Rattle.validity.proofs.Filed.{interval_of, Fits, fits, history_held, axis_held, intervals_held, by_year_lem}
use Rattle.validity.proofs.Valid.{dated_held, overlap_held}
use Rattle.validity.proofs.Totals.{total_held}

-- a test of each year of a span, by number
years_by_number : (f : ℕ → Bool) (span : Years) → any f (years_in span) ≡ any (λ j. f (span.first + j)) (range 0 span.count)
unfolding years_in
years_by_number f span = any_moved f span.count span.first

module _ (t : Site) (n : ℕ) (k : Tallies) (e : Bool) (w : Blocks) where
  history_list_lem : (f : ℕ → Bool) → any f (history_list (filing_held t n k e w)) ≡ any (λ j. f ((history_of_site t).first + j)) (range 0 (history_of_site t).count)
  unfolding history_list
  history_list_lem f = ap (λ (s : Years). any f (years_in s)) (history_held t n k e w) ∙ years_by_number f (history_of_site t)

  axis_list : (f : ℕ → Bool) → any f (years_in (axis_of (filing_held t n k e w))) ≡ any (λ j. f ((axis_years (history_of_site t)).first + j)) (range 0 (axis_years (history_of_site t)).count)
  axis_list f = ap (λ (s : Years). any f (years_in s)) (axis_held t n k e w) ∙ years_by_number f (axis_years (history_of_site t))

  profile_dates_lem : (j : ℕ) → j < (history_of_site t).count → (filing_held t n k e w).profile_dates ((history_of_site t).first + j) ≡ get_or k.profile_dates j 0
  unfolding filing_held
  profile_dates_lem j h = by_year_lem (history_of_site t) k.profile_dates j h

  daily_dates_lem : (j : ℕ) → j < (axis_years (history_of_site t)).count → (filing_held t n k e w).daily_dates ((axis_years (history_of_site t)).first + j) ≡ get_or k.daily_dates j 0
  unfolding filing_held
  daily_dates_lem j h = by_year_lem (axis_years (history_of_site t)) k.daily_dates j h

  -- ---- 15
  pub partial_held : close_holds partial (filing_held t n k e w) ≡ partial_dates (history_of_site t).first (history_of_site t).count k.profile_dates k.daily_dates
  unfolding close_holds partial_dates some_partial
  partial_held =
      let F = filing_held t n k e w in
      let h = history_of_site t in
      let a = axis_years (history_of_site t) in
      ap₂ (λ (x y : Bool). x || y)
      (history_list_lem (λ y. is_partial (F.profile_dates y) (all_winter_dates y))
      ∙ any_same (λ j. is_partial (F.profile_dates (h.first + j)) (all_winter_dates (h.first + j))) (λ j. is_partial (get_or k.profile_dates j 0) (all_winter_dates (h.first + j))) h.count 0
      (λ j b c. ap (λ (m : ℕ). is_partial m (all_winter_dates (h.first + j))) (profile_dates_lem j (omega arith))))
      (axis_list (λ y. is_partial (F.daily_dates y) (all_dates y))
      ∙ any_same (λ j. is_partial (F.daily_dates (a.first + j)) (all_dates (a.first + j))) (λ j. is_partial (get_or k.daily_dates j 0) (all_dates (a.first + j))) a.count 0
      (λ j b c. ap (λ (m : ℕ). is_partial m (all_dates (a.first + j))) (daily_dates_lem j (omega arith))))

  -- ---- 16: profiles, from the valid-index and default-power years
  pub profiles_held : (valid default : List Bool)
      → ((j : ℕ) → j < (history_of_site t).count → get_or valid j false ≡ index_valid (filing_held t n k e w) ((history_of_site t).first + j))
      → ((j : ℕ) → j < (history_of_site t).count → get_or default j false ≡ is_default (case_of (filing_held t n k e w) ((history_of_site t).first + j)))
      → any (lacks_profile (filing_held t n k e w)) (history_list (filing_held t n k e w)) ≡ lacks_profiles (history_of_site t).count valid default k.profile_dates
  unfolding lacks_profile lacks_profiles lacks_profile_at
  profiles_held valid default v d =
      history_list_lem (lacks_profile (filing_held t n k e w))
      ∙ any_same (λ j. lacks_profile (filing_held t n k e w) ((history_of_site t).first + j)) (lacks_profile_at valid default k.profile_dates) (history_of_site t).count 0
      (λ j a b. rw (v j (omega arith), d j (omega arith), profile_dates_lem j (omega arith)))

  -- ---- 16 and 17: the intervals from which a valid-index year is profiled
  module _ {ps xs ks : List ℕ} (cols : Columned w n ps xs ks) (rise : Rising ps n) (fit : T (readings_fit (axis_years (history_of_site t)) (readings_of w n))) (valid : List Bool)
      (valid_is : (j : ℕ) → j < (history_of_site t).count → get_or valid j false ≡ index_valid (filing_held t n k e w) ((history_of_site t).first + j)) where
    pub some_held : (p : Interval → Bool) (q : ℕ → Bool) → ((i : ℕ) → i + 1 < n → p (interval_of ps xs ks i) ≡ q i)
        → some_winter_interval (filing_held t n k e w) p ≡ some_winter (history_of_site t).count valid ps n q
    unfolding some_winter_interval some_winter some_in
    some_held p q f =
        let F = filing_held t n k e w in
        let h = history_of_site t in
        let one : ℕ → Interval → Bool = λ y v. overlaps_winter F y v && p v in
        history_list_lem (λ y. index_valid F y && any (one y) (intervals F))
        ∙ any_same (λ j. index_valid F (h.first + j) && any (one (h.first + j)) (intervals F)) (λ j. get_or valid j false && some_in ps n q (year_start j)) h.count 0
        (λ j a b. let l : j < h.count = omega arith in
        rw (intervals_held t n k e w cols, valid_is j l, any_tab (one (h.first + j)) (n - 1) 0 (interval_of ps xs ks))
        (ap (λ (o : Bool). index_valid F (h.first + j) && o)
        (any_same (λ i. one (h.first + j) (interval_of ps xs ks i)) (λ i. meets_winter (year_start j) (interval_start ps i) (interval_end ps i) && q i) (n - 1) 0
        (λ i c d. ap₂ (λ (x y : Bool). x && y) (overlap_held t n k e w cols rise fit j l i (omega arith)) (f i (omega arith))))))

    -- 17
    zero_at : (i : ℕ) → i + 1 < n → eqb (total_of (filing_held t n k e w) (interval_of ps xs ks i)) 0 ≡ totals_zero ps (totals_of ps w.daily n) i
    unfolding totals_zero totals_of total_at
    zero_at i h =
        ap (λ (m : ℕ). eqb m 0)
        (total_held t n k e w cols fit i h
        ∙ sym (get_d_tab0 4392 (total_at ps w.daily n) (interval_start ps i) 0 (rise.below i (omega arith))
        ∙ ap (of_interval 0 (total_in ps w.daily)) (around_here ps n rise i (interval_start ps i) h (omega arith) (rise.rises i h))))

    pub zero_held : close_holds zero_total (filing_held t n k e w) ≡ some_winter (history_of_site t).count valid ps n (totals_zero ps (totals_of ps w.daily n))
    unfolding close_holds
    zero_held = some_held (λ v. eqb (total_of (filing_held t n k e w) v) 0) (totals_zero ps (totals_of ps w.daily n)) zero_at

    -- 16: an interval touches the axis years from that of its first day to that of its last
    touch_held : (i : ℕ) → i + 1 < n → (j : ℕ) → T (touches (filing_held t n k e w) ((axis_years (history_of_site t)).first + j) (interval_of ps xs ks i))
        ↔ ((interval_start ps i / 366 ≤ j) × (j ≤ (interval_end ps i - 1) / 366))
    touch_held i h j =
        let a = axis_held t n k e w in
        let row : (axis_years (history_of_site t)).first + j - (axis_of (filing_held t n k e w)).first ≡ j = rw a (omega arith) in
        let ends = touch_by_ends (filing_held t n k e w) ((axis_years (history_of_site t)).first + j) (366 * j) (rw a (omega arith)) (rw a (omega arith)) (interval_of ps xs ks i) (rise.rises i h) (dated_held t n k e w cols fit i (omega arith)) in
        (λ u. (omega (arith, (ends.0 u).0), omega (arith, (ends.0 u).1)), λ r. ends.1 (omega (arith, r.0), omega (arith, r.1)))

    misses_at : (i : ℕ) → i + 1 < n → lacks_daily (filing_held t n k e w) (interval_of ps xs ks i) ≡ misses_days ps k.daily_dates i
    unfolding lacks_daily misses_days misses_between
    misses_at i h =
        axis_list (λ z. eqb (F.daily_dates z) 0 && touches F z (interval_of ps xs ks i))
        ∙ any_same (λ j. eqb (F.daily_dates (a.first + j)) 0 && touches F (a.first + j) (interval_of ps xs ks i)) (λ j. gone j && touches F (a.first + j) (interval_of ps xs ks i)) a.count 0
        (λ j b c. ap (λ (m : ℕ). eqb m 0 && touches F (a.first + j) (interval_of ps xs ks i)) (daily_dates_lem j (omega arith)))
        ∙ same (any (λ j. gone j && touches F (a.first + j) (interval_of ps xs ks i)) (range 0 a.count)) (any gone (range (p / 366) ((q - 1) / 366 + 1 - p / 366))) forth back
      where
        F : Filing
        F = filing_held t n k e w

        a : Years
        a = axis_years (history_of_site t)

        p : ℕ
        p = interval_start ps i

        q : ℕ
        q = interval_end ps i

        gone : ℕ → Bool
        gone j = eqb (get_or k.daily_dates j 0) 0

        facts : Fits a ps xs n
        facts = fits a cols fit

        row : (j : ℕ) → T (touches F (a.first + j) (interval_of ps xs ks i)) ↔ ((p / 366 ≤ j) × (j ≤ (q - 1) / 366))
        row j = touch_held i h j

        forth : T (any (λ j. gone j && touches F (a.first + j) (interval_of ps xs ks i)) (range 0 a.count)) → T (any gone (range (p / 366) ((q - 1) / 366 + 1 - p / 366)))
        forth u =
            let s = some_of_range (λ j. gone j && touches F (a.first + j) (interval_of ps xs ks i)) a.count 0 u in
            let r = (row s.0).0 (and_right (gone s.0) (touches F (a.first + s.0) (interval_of ps xs ks i)) s.3) in
            range_some gone ((q - 1) / 366 + 1 - p / 366) (p / 366) s.0 r.0 (omega (arith, r.0, r.1)) (and_left (gone s.0) (touches F (a.first + s.0) (interval_of ps xs ks i)) s.3)

        back : T (any gone (range (p / 366) ((q - 1) / 366 + 1 - p / 366))) → T (any (λ j. gone j && touches F (a.first + j) (interval_of ps xs ks i)) (range 0 a.count))
        back u =
            let s = some_of_range gone ((q - 1) / 366 + 1 - p / 366) (p / 366) u in
            range_some (λ j. gone j && touches F (a.first + j) (interval_of ps xs ks i)) a.count 0 s.0 (omega arith) (omega (arith, s.1, s.2, facts.year (i + 1) h, facts.rises i h))
            (and_made (gone s.0) (touches F (a.first + s.0) (interval_of ps xs ks i)) s.3 ((row s.0).1 (s.1, omega (arith, s.1, s.2))))

    pub daily_held_lem : some_winter_interval (filing_held t n k e w) (lacks_daily (filing_held t n k e w)) ≡ some_winter (history_of_site t).count valid ps n (misses_days ps k.daily_dates)
    daily_held_lem = some_held (lacks_daily (filing_held t n k e w)) (misses_days ps k.daily_dates) misses_at

    pub lacking_held : (default : List Bool)
        → ((j : ℕ) → j < (history_of_site t).count → get_or default j false ≡ is_default (case_of (filing_held t n k e w) ((history_of_site t).first + j)))
        → close_holds no_data (filing_held t n k e w)
        ≡ (lacks_profiles (history_of_site t).count valid default k.profile_dates || some_winter (history_of_site t).count valid ps n (misses_days ps k.daily_dates))
    unfolding close_holds
    lacking_held default d = ap₂ (λ (x y : Bool). x || y) (profiles_held valid default valid_is d) daily_held_lem
