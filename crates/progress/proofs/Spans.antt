-- History and axis end before year 10,000.
use mathlib.Core.Path.{◌≡◌, refl}
use mathlib.Core.Bool.{Bool, true, false}
use Prim.Native.Nat.{ℕ, ◌+◌, ◌≤◌}
use native.Mathlib.Omega.{arith}
use Rattle.calendar.specs.declared.Years.{Years}
use Rattle.calendar.specs.Spans.{is_known, history_years, axis_years}
use Rattle.calendar.proofs.Laws.{history_bounds, no_history, axis_range}

pub history_ends : (h : Years) (al f : ℕ) → h ≡ history_years al f → h.first + h.count ≤ 9999
history_ends h al f e = rw e (go (is_known al f) refl)
  where
    go : (b : Bool) → is_known al f ≡ b → (history_years al f).first + (history_years al f).count ≤ 9999
    go true q = omega (arith, (history_bounds al f (rw q tt)).to)
    go false q = rw (no_history al f (rw q tt)) (omega arith)

pub axis_ends : (a : Years) (al f : ℕ) → a ≡ axis_years (history_years al f) → a.first + a.count ≤ 9999
axis_ends a al f e = rw e (omega (arith, (axis_range al f).to))
