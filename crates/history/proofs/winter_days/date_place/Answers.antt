use mathlib.Core.Path.{◌≡◌, ◌∙◌, ap}
use mathlib.Core.Logic.{⊎_elim}
use Prim.Native.Nat.{ℕ, ◌<◌}
use native.Mathlib.Omega.{arith}
use borrow.Author.Tests.{lt-ltb}
use Rattle.std.specs.Prelude.{Option, Some, unwrap_or}
use Rattle.calendar.specs.Places.{date_of_winter}
use Rattle.calendar.specs.Answers.{winter_date_place}
use Rattle.calendar.proofs.Laws.{winter_parts}
use Rattle.history.proofs.winter_days.date_place.Goals as goal

place_is : (w : ℕ) → w < 152 → winter_date_place w ≡ Some (date_of_winter w)
unfolding winter_date_place
place_is w h = rw (lt-ltb w 152 h)

pub returns : goal.returns
returns c =
    let w = c.args.w in
    let e : c.unwrap_or.result ≡ date_of_winter w =
    c.unwrap_or.ensures ∙ ap (λ (p : Option ℕ). unwrap_or p 0) (c.date_of_winter.ensures ∙ place_is w c.requires) in
    record {
      is = e;
      fits = ⊎_elim (λ p. omega (arith, e, c.requires, p.0, p.1)) (λ p. omega (arith, e, c.requires, p.0, p.1)) (winter_parts w);
    }
