-- Numbers with their units: readings count watt-hours, points count watts (document 01, Words).
use Rattle.std.specs.Prelude.{ℕ}
use Rattle.rounding.specs.declared.Energy.{Energy}
use Rattle.rounding.specs.declared.Power.{Power}
use Rattle.rounding.specs.declared.Watts.{Watts}

-- a number of Wh as an energy
abbrev pub in_wh : ℕ → Energy
in_wh n = record { 0 = n }

-- a number of mW as a power: a point
abbrev pub in_mw : ℕ → Power
in_mw n = record { 0 = n }

-- a number of whole W: PS, a point as its line gives it, the level
abbrev pub in_w : ℕ → Watts
in_w n = record { 0 = n }
