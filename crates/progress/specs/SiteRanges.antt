-- 1 on what S gave: the range of each number (document 01, Stops that come from the input).
use Rattle.std.specs.Prelude.{Bool, ◌&&◌, ◌||◌, not, ℕ, eqb}
use Rattle.meaning.specs.Filing.{Site}
use Rattle.meaning.specs.Refusals.{is_too_soon}
use Rattle.meaning.specs.Record.{is_within, site_fits}

-- a number of S within its range; until S is taken it may also be 0
unfoldable pub site_number_fits : Bool → ℕ → ℕ → ℕ → Bool
site_number_fits taken a b n = (not taken && eqb n 0) || is_within a b n

-- what S gave is in its ranges, and AL and filière do not meet 9
unfoldable pub site_accepted : Bool → Site → Bool
site_accepted taken t = site_fits taken t && not (is_too_soon t.al t.filiere)
