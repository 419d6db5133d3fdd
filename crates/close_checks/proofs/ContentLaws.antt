-- Refusal 1 at the close for a record and its blocks, and bounds on the years used in the code.
use mathlib.Core.Path.{◌≡◌}
use mathlib.Core.Bool.{Bool, true, false, not}
use mathlib.Core.List.{List}
use Prim.Native.Nat.{ℕ, ◌≤◌}
use native.Mathlib.Omega.{arith}
use lib.Dec.{T}
use Rattle.calendar.specs.Spans.{years, is_known, history_years}
use Rattle.calendar.proofs.Laws.Positions.{HistoryBounds, history_bounds, no_history, axis_range}
use Rattle.meaning.specs.Blocks.{Blocks, readings_of}
use Rattle.meaning.specs.Record.{Rec, site_of_rec, history_of_site, history_of_rec, axis_of_rec, contents_fit}
use Rattle.readings.specs.Columns.{readings_in}
use Rattle.close_checks.specs.Contents.{contents_in}

-- ---- the blocks of a record
-- the result of the code for lists and numbers is what 1 requires of the record, where the three columns hold its readings
pub contents_fit_lem : (s : Rec) (w : Blocks) (ps xs ks : List ℕ) → readings_of w s.readings ≡ readings_in ps xs ks s.readings
    → contents_fit s w ≡ contents_in (history_of_rec s) (axis_of_rec s) s.site.al w.near w.far w.slots w.daily ps xs ks s.readings
unfolding contents_fit contents_in
contents_fit_lem s w ps xs ks e = rw e

-- ---- bounds on the years
pub record YearsTaken (s : Rec) : Type 0 where
  pub history : (history_of_rec s).first ≤ 9999
  pub axis : (axis_of_rec s).first ≤ 9999
  pub short : (axis_of_rec s).count ≤ 12

history_first : (al f : ℕ) → (history_years al f).first ≤ 9999
history_first al f = go (is_known al f) (history_bounds al f) (no_history al f)
  where
    go : (b : Bool) → (T b → HistoryBounds al f) → (T (not b) → history_years al f ≡ years 0 0) → (history_years al f).first ≤ 9999
    go true k n = omega (arith, k tt)
    go false k n = rw (n tt) (omega arith)

pub years_taken : (s : Rec) → YearsTaken s
unfolding history_of_rec history_of_site axis_of_rec
years_taken s =
    let al = (site_of_rec s).al in let f = (site_of_rec s).filiere in
    let r = axis_range al f in
    record { history = history_first al f; axis = omega (arith, r.to); short = r.short }
