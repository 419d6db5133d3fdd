-- The years of a site as rows of the blocks: each has its row, and no block has too few.
use mathlib.Core.Path.{◌≡◌, refl}
use mathlib.Core.Logic.{◌⊎◌, inl, inr}
use mathlib.Core.Bool.{Bool, true, false, not}
use Prim.Native.Nat.{ℕ, ◌+◌, ◌-◌, ◌≤◌, ◌<◌}
use native.Mathlib.Omega.{arith}
use lib.Dec.{T, leb→le, nleb→lt, lit≤}
use Rattle.calendar.specs.Spans.{among, is_known, history_years, axis_years}
use Rattle.calendar.proofs.Laws.Positions.{among_words, no_history, history_bounds, has_history, history_short, axis_range}
use Rattle.meaning.specs.Filing.{Site}
use Rattle.meaning.specs.Blocks.{is_near}
use Rattle.meaning.specs.Record.{history_of_site}

-- a year among the n from the first on
pub record InRow (n first y : ℕ) : Type 0 where
  pub from : first ≤ y
  pub row : y - first < n

pub near_row : (t : Site) (y : ℕ) → T (among (history_of_site t) y) → T (is_near t.al y) → InRow 5 (t.al - 9) y
unfolding history_of_site is_near
near_row t y a n =
    let span = (among_words (history_years t.al t.filiere) y).0 a in
    let h = history_bounds t.al t.filiere (has_history t.al t.filiere (λ e. omega arith)) in
    let k = leb→le (t.al - 9) y n in
    record { from = k; row = omega (arith, h.ends) }

pub far_row : (t : Site) (y : ℕ) → T (among (history_of_site t) y) → T (not (is_near t.al y)) → InRow 5 (t.al - 14) y
unfolding history_of_site is_near
far_row t y a n =
    let span = (among_words (history_years t.al t.filiere) y).0 a in
    let h = history_bounds t.al t.filiere (has_history t.al t.filiere (λ e. omega arith)) in
    let k = nleb→lt (t.al - 9) y n in
    record { from = low h.length h.ends span.0; row = omega arith }
  where
    low : ((history_years t.al t.filiere).count ≡ 5) ⊎ ((history_years t.al t.filiere).count ≡ 10)
        → (history_years t.al t.filiere).first + (history_years t.al t.filiere).count + 4 ≡ t.al
        → (history_years t.al t.filiere).first ≤ y → t.al - 14 ≤ y
    low (inl e) h k = omega arith
    low (inr e) h k = omega arith

-- no site has more than ten history years and twelve axis years
pub history_count : (t : Site) → (history_of_site t).count ≤ 10
unfolding history_of_site
history_count t = go (is_known t.al t.filiere) refl
  where
    go : (b : Bool) → is_known t.al t.filiere ≡ b → (history_years t.al t.filiere).count ≤ 10
    go true e = history_short t.al t.filiere (rw e tt)
    go false e = rw (no_history t.al t.filiere (rw e tt)) (lit≤ tt)

pub axis_count : (t : Site) → (axis_years (history_of_site t)).count ≤ 12
unfolding history_of_site
axis_count t = (axis_range t.al t.filiere).short

pub history_row : (t : Site) (y : ℕ) → T (among (history_of_site t) y) → InRow 10 (history_of_site t).first y
history_row t y a = let span = (among_words (history_of_site t) y).0 a in record { from = span.0; row = omega (arith, history_count t) }

pub axis_row : (t : Site) (y : ℕ) → T (among (axis_years (history_of_site t)) y) → InRow 12 (axis_years (history_of_site t)).first y
axis_row t y a = let span = (among_words (axis_years (history_of_site t)) y).0 a in record { from = span.0; row = omega (arith, axis_count t) }
