-- The state of a record, in the code and in the definitions.
use mathlib.Core.Path.{◌≡◌, refl, sym, subst}
use mathlib.Core.Bool.{Bool, true, false, cond}
use Prim.Native.Nat.{ℕ}
use lib.Dec.{T}
use Rattle.meaning.specs.Record.{refused_state, is_open, rec_fits, is_taken, site_of_rec, history_of_rec}
use Rattle.progress.specs.declared.State.{State}
use Rattle.progress.specs.declared.State.TheVariants.{NeverOpened, Open, Refused, Closed}
use Rattle.progress.specs.declared.Progress.{Progress}
use Rattle.progress.specs.ProgressViews.{state_view, rec_of, open_rec}

-- the ranges of a record's numbers do not depend on its state
pub any_state : (st : State) (n : ℕ) (p : Progress) → rec_fits (open_rec n p) ≡ rec_fits (rec_of st n p)
unfolding rec_fits is_taken site_of_rec history_of_rec
any_state st n p = refl

pub open_state_lem : (st : State) → is_open (state_view st) ≡ true → st ≡ Open
open_state_lem Open e = refl
open_state_lem NeverOpened e = absurd (subst T (sym e) tt)
open_state_lem Refused e = absurd (subst T (sym e) tt)
open_state_lem Closed e = absurd (subst T (sym e) tt)

pub refused_where : (b : Bool) (st : State) → state_view (cond b Refused st) ≡ cond b refused_state (state_view st)
refused_where true st = refl
refused_where false st = refl
