-- Bounds on the energies and daily totals of a filing.
use mathlib.Core.Path.{◌≡◌, refl, ap, sym, subst}
use mathlib.Core.Logic.{⊎_elim}
use mathlib.Core.Bool.{Bool, true, false, ◌&&◌, ◌||◌}
use mathlib.Core.List.{List}
use mathlib.Core.Option.{Option, some, none}
use Prim.Native.Nat.{ℕ, ◌+◌, ◌-◌, ◌*◌, ◌≤◌, ◌<◌}
use native.Mathlib.Nat.{le_trans}
use native.Mathlib.Omega.{arith}
use lib.Dec.{T, eqb, leb, ltb, leb→le}
use lib.ListN.{length, get_or, get_or-eq_default}
use borrow.Author.Tests.{ltb-true, ltb-false}
use Rattle.lists.specs.Lists.{first_of, tab, range, sum}
use Rattle.lists.proofs.Laws.{length_tab, get_d_tab0}
use Rattle.lists.proofs.Reflect.{of_eq, of_or}
use Rattle.lists.proofs.Snoc.{all_at_at}
use Rattle.lists.proofs.Sums.{sum_most}
use Rattle.lists.proofs.Ranges.{map_tab, first_found}
use Rattle.lists.proofs.Tests.{and_right}
use Rattle.calendar.specs.declared.Years.{Years}
use Rattle.calendar.specs.Places.{has_date}
use Rattle.calendar.specs.Spans.{among, axis_years, year_at, place_at}
use Rattle.meaning.specs.Filing.{Site}
use Rattle.meaning.specs.Line.{most_daily}
use Rattle.meaning.specs.Blocks.{Blocks, readings_of}
use Rattle.meaning.specs.Record.{history_of_site, readings_fit, daily_fits}
use Rattle.readings.specs.Columns.{Columned}
use Rattle.rounding.specs.declared.Energy.{Energy}
use Rattle.rounding.specs.Units.{in_wh}
use Rattle.validity.specs.Columns.{Rising}
use Rattle.validity.specs.Days.{is_around, around, energy_in, sum_between, total_in, of_interval, energy_at, total_at, energies_of, totals_of}
use Rattle.validity.proofs.Filed.{fits}

-- what holds of each place of a table and of the default holds at each place and past its end
table_holds : {A : Type 0} (P : A → Type 0) (n : ℕ) (z : A) (f : ℕ → A) → P z → ((p : ℕ) → P (f p)) → (p : ℕ) → P (get_or (tab n 0 f) p z)
table_holds {A} P n z f o h p = go (ltb p n) refl
  where
    go : (b : Bool) → ltb p n ≡ b → P (get_or (tab n 0 f) p z)
    go true e = subst P (sym (get_d_tab0 n f p z (ltb-true p n e))) (h p)
    go false e = subst P (sym (get_or-eq_default (tab n 0 f) z {n = p} (past e))) o
      where
        past : ltb p n ≡ false → length (tab n 0 f) ≤ p
        past q = omega (arith, length_tab n 0 f, ltb-false p n q)

-- what each interval has, and what stands where there is none
interval_holds : {A : Type 0} (P : A → Type 0) (ps : List ℕ) (n : ℕ) (z : A) (f : ℕ → A) → P z → ((i : ℕ) → i + 1 < n → P (f i)) → (p : ℕ) → P (of_interval z f (around ps n p))
unfolding around
interval_holds P ps n z f o h p = go (first_of (is_around ps p) (range 0 (n - 1))) refl
  where
    go : (u : Option ℕ) → first_of (is_around ps p) (range 0 (n - 1)) ≡ u → P (of_interval z f u)
    go none e = o
    go (some i) e = h i (omega (arith, (first_found (is_around ps p) (n - 1) 0 i e).1))

-- a daily sum that 1 has checked, and the default past the end
daily_most : (axis : Years) (ds : List ℕ) → T (daily_fits axis ds) → (p : ℕ) → get_or ds p 0 ≤ most_daily
unfolding daily_fits
daily_most axis ds t p = go (ltb p (length ds)) refl
  where
    fits_at : ℕ → ℕ → Bool
    fits_at i v = eqb v 0 || (among axis (year_at axis i) && has_date (year_at axis i) (place_at i) && leb v most_daily)

    one : (i v : ℕ) → T (fits_at i v) → v ≤ most_daily
    one i v u =
        ⊎_elim (λ e. omega arith) (λ l. leb→le v most_daily (and_right (among axis (year_at axis i) && has_date (year_at axis i) (place_at i)) (leb v most_daily) l))
        ((of_or (eqb v 0) (among axis (year_at axis i) && has_date (year_at axis i) (place_at i) && leb v most_daily) (of_eq v 0) (λ l. l, λ l. l)).0 u)

    go : (b : Bool) → ltb p (length ds) ≡ b → get_or ds p 0 ≤ most_daily
    go true e = one (0 + p) (get_or ds p 0) (all_at_at fits_at 0 ds t p 0 (ltb-true p (length ds) e))
    go false e = omega (arith, get_or-eq_default ds 0 {n = p} (ltb-false p (length ds) e))

sum_within : (ds : List ℕ) (m a b : ℕ) → ((p : ℕ) → get_or ds p 0 ≤ m) → sum_between ds a b ≤ m * (b - a)
unfolding sum_between range
sum_within ds m a b h =
    omega (arith, sum_most (λ p. get_or ds p 0) m h (range a (b - a)), ap sum (map_tab (λ p. get_or ds p 0) (b - a) a (λ p. p)), ap (λ (l : ℕ). m * l) (length_tab (b - a) a (λ p. p)))

module _ (t : Site) (n : ℕ) (w : Blocks) {ps xs ks : List ℕ} (cols : Columned w n ps xs ks) (fit : T (readings_fit (axis_years (history_of_site t)) (readings_of w n))) where
  pub energies_most : (p : ℕ) → (get_or (energies_of ps xs n) p (in_wh 0)).0 ≤ 1000000000000
  unfolding energies_of energy_at energy_in
  energies_most =
      let P : Energy → Type 0 = λ e. e.0 ≤ 1000000000000 in
      table_holds P 4392 (in_wh 0) (energy_at ps xs n) (omega arith)
      (interval_holds P ps n (in_wh 0) (energy_in xs) (omega arith) (λ i h. omega (arith, (fits (axis_years (history_of_site t)) cols fit).most (i + 1) h)))

  -- 4,392 daily sums of at most 3,145,680
  pub totals_most : Rising ps n → T (daily_fits (axis_years (history_of_site t)) w.daily) → (p : ℕ) → get_or (totals_of ps w.daily n) p 0 ≤ 13815826560
  unfolding totals_of total_at total_in
  totals_most r d =
      let P : ℕ → Type 0 = λ m. m ≤ 13815826560 in
      table_holds P 4392 0 (total_at ps w.daily n) (omega arith)
      (interval_holds P ps n 0 (total_in ps w.daily) (omega arith)
      (λ i h. le_trans (sum_within w.daily most_daily _ _ (daily_most (axis_years (history_of_site t)) w.daily d)) (omega (arith, r.below (i + 1) h))))
