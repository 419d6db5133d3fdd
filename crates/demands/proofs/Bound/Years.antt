-- The history years of a filing: what holds of each, and that there are some.
use mathlib.Core.Path.{◌≡◌}
use mathlib.Core.Logic.{◌⊎◌, inl, inr}
use Prim.Native.Nat.{ℕ, ◌≤◌, ◌<◌}
use native.Mathlib.Omega.{arith}
use lib.Dec.{T}
use lib.ListN.{length}
use Rattle.lists.specs.Lists.{range, Each, Some}
use Rattle.lists.proofs.Laws.{paired, length_tab}
use Rattle.lists.proofs.Sums.{In, some_in_lem, each_range, in_range_lem}
use Rattle.calendar.specs.Spans.{among, is_known, history_years}
use Rattle.calendar.proofs.Laws.{among_words, history_bounds, axis_bounds}
use Rattle.note.specs.Peaks.{has_peaks}
use Rattle.note.proofs.HistoryPeaks.{peaks}
use Rattle.meaning.specs.Filing.{Filing, history_of, axis_of, years_in, history_list}

-- a history year
abbrev pub InHistory : Filing → ℕ → Type 0
InHistory F y = T (among (history_of F) y)

pub each_year_lem : {P : ℕ → Type 0} (F : Filing) → ((y : ℕ) → InHistory F y → P y) → Each P (history_list F)
unfolding history_list years_in
each_year_lem F h = each_range (history_of F).first (history_of F).count (λ y a b. h y ((among_words (history_of F) y).1 (a, b)))

pub in_history : (F : Filing) (y : ℕ) → InHistory F y → In y (history_list F)
unfolding history_list years_in
in_history F y t = let b = (among_words (history_of F) y).0 t in in_range_lem (history_of F).first (history_of F).count y b.0 b.1

pub some_year : {P : ℕ → Type 0} (F : Filing) (y : ℕ) → InHistory F y → P y → Some P (history_list F)
some_year F y t p = some_in_lem (in_history F y t) p

-- a history year of which it holds
pub year_some : {P : ℕ → Type 0} (F : Filing) → Some P (history_list F) → (y : ℕ) × P y × InHistory F y
year_some F s = paired s (each_year_lem F (λ y t. t))

-- there is a history year, the first
pub first_year : (F : Filing) → T (is_known F.site.al F.site.filiere) → InHistory F (history_of F).first
unfolding history_of
first_year F k = go (history_bounds F.site.al F.site.filiere k).length
  where
    h : Rattle.calendar.specs.declared.Years.Years
    h = history_years F.site.al F.site.filiere

    go : (h.count ≡ 5) ⊎ (h.count ≡ 10) → T (among h h.first)
    go (inl e) = (among_words h h.first).1 (omega arith)
    go (inr e) = (among_words h h.first).1 (omega arith)

pub some_years : (F : Filing) → T (is_known F.site.al F.site.filiere) → 0 < length (history_list F)
unfolding history_list years_in range
some_years F k =
    let h = history_of F in
    let b = (among_words h h.first).0 (first_year F k) in
    omega (arith, length_tab h.count h.first (λ y. y))

pub year_peaks : (F : Filing) (y : ℕ) → InHistory F y → T (has_peaks y)
unfolding history_of
year_peaks F y t = peaks F.site.al F.site.filiere y t

-- the axis begins before every history year
pub axis_before : (F : Filing) → T (is_known F.site.al F.site.filiere) → (y : ℕ) → InHistory F y → (axis_of F).first ≤ y
unfolding axis_of history_of
axis_before F k y t =
    let a = axis_bounds F.site.al F.site.filiere k in
    let b = (among_words (history_years F.site.al F.site.filiere) y).0 t in
    omega arith
