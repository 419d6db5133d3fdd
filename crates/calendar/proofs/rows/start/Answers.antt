use mathlib.Core.Path.{◌≡◌, refl, sym, ◌∙◌}
use mathlib.Core.Bool.{Bool, true, false}
use mathlib.Core.List.{List, [], ◌∷◌}
use Prim.Native.Nat.{ℕ}
use native.Mathlib.Omega.{arith}
use lib.Dec.{eqb, eqb→eq, ltb}
use lib.ListN.{get_or, get_or-eq_default}
use borrow.Author.Tests.{ltb-true, ltb-false}
use Rattle.std.proofs.lemmas.Grind.{common_steps}
use Rattle.lists.specs.Lists.{sum}
use Rattle.calendar.specs.Dates.{month_lengths}
use Rattle.calendar.specs.Places.{before}
use Rattle.calendar.proofs.Tables.{at}
use Rattle.calendar.proofs.Laws.{before_past}
use Rattle.calendar.proofs.rows.start.Goals as goal

unfoldable starts : List ℕ
starts = 0 ∷ 0 ∷ 31 ∷ 60 ∷ 91 ∷ 121 ∷ 152 ∷ 182 ∷ 213 ∷ 244 ∷ 274 ∷ 305 ∷ 335 ∷ 366 ∷ []

right : ℕ → Bool
unfolding starts before month_lengths sum
right m = eqb (get_or starts m 366) (before m)

listed : (m : ℕ) → get_or starts m 366 ≡ before m
unfolding starts right
listed m = go (ltb m 14) refl
  where
    go : (b : Bool) → ltb m 14 ≡ b → get_or starts m 366 ≡ before m
    go true e = eqb→eq (get_or starts m 366) (before m) (at right 14 tt m (ltb-true m 14 e))
    go false e = let h = ltb-false m 14 e in get_or-eq_default starts 366 h ∙ sym (before_past m (omega (arith, h)))

pub returns : goal.returns
unfolding starts
returns c = let e = listed c.args.month in grind (arith, common_steps, e)
