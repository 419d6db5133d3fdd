-- Whether a record is open, as a test and as an equation.
use mathlib.Core.Path.{◌≡◌, refl, ap, sym, subst, ◌∙◌}
use mathlib.Core.Logic.{◌≢◌}
use mathlib.Core.Bool.{true, false}
use lib.Dec.{T}
use Rattle.meaning.specs.Record.{State, unopened, open_state, refused_state, closed_state, is_open}

pub is_open_lem : (st : State) → st ≡ open_state → is_open st ≡ true
is_open_lem st e = ap is_open e

pub not_open : (st : State) → st ≢ open_state → is_open st ≡ false
not_open unopened n = refl
not_open open_state n = absurd (n refl)
not_open refused_state n = refl
not_open closed_state n = refl

pub open_only : (st : State) → is_open st ≡ false → st ≢ open_state
open_only st e o = absurd (subst T (sym (is_open_lem st o) ∙ e) tt)
