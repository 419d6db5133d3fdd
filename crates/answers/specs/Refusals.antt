-- The refusals that come before any other: 1, 13 and 14 (document 01, both sections on stops).
use Rattle.std.specs.Prelude.{Bool, ◌&&◌, cond, ℕ, eqb, Result, Ok}
use Rattle.meaning.specs.Record.{State, is_open}
use Rattle.meaning.specs.Blocks.{points_size, slots_size, daily_size, readings_size, curve_size}
use Rattle.refusals.specs.declared.Refusal.{Refusal}
use Rattle.refusals.specs.Refusals.{refused_by}

-- whether the lent blocks have their sizes (else 1), by the lengths of near, far, slots, daily, readings, curve
unfoldable pub lengths_fit : ℕ → ℕ → ℕ → ℕ → ℕ → ℕ → Bool
lengths_fit n f s d r c = eqb n points_size && (eqb f points_size && (eqb s slots_size && (eqb d daily_size && (eqb r readings_size && eqb c curve_size))))

-- 1 before 13, by whether all fits and by the state
unfoldable pub open_refusal : Bool → State → Result (Unit {0}) Refusal
open_refusal fit st = cond fit (cond (is_open st) (Ok tt) (refused_by 13)) (refused_by 1)

-- at a close: 1 before 13 before 14, by whether all fits, by the state and by the rank of the last tag
unfoldable pub ended_refusal : Bool → State → ℕ → Result (Unit {0}) Refusal
ended_refusal fit st last = cond fit (cond (is_open st) (cond (eqb last 8) (Ok tt) (refused_by 14)) (refused_by 13)) (refused_by 1)
