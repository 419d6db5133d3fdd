-- Rounding to nearest, half up (document 01, Cases).
use Rattle.std.specs.Prelude.{ℕ, ◌+◌, ◌*◌, ◌/◌}

-- a over d, to the nearest whole number, half up
unfoldable pub half_up : ℕ → ℕ → ℕ
half_up a d = (2 * a + d) / (2 * d)
