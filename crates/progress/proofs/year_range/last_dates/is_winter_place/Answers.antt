use mathlib.Core.Path.{◌≡◌, ◌∙◌}
use Prim.Native.Nat.{ℕ, ◌<◌}
use native.Mathlib.Omega.{arith}
use borrow.Author.Tests.{lt-ltb}
use Rattle.std.specs.Prelude.{Some}
use Rattle.std.proofs.lemmas.Grind.{common_steps}
use Rattle.calendar.specs.Places.{month_of, day_of}
use Rattle.calendar.specs.Answers.{a_day, day_at}
use Rattle.progress.proofs.year_range.last_dates.is_winter_place.Goals as goal

there : (p : ℕ) → p < 366 → day_at p ≡ Some (a_day (month_of p) (day_of p))
unfolding day_at
there p h = rw (lt-ltb p 366 h)

pub returns : goal.returns
returns c =
    let e : c.day_at.result ≡ Some (a_day (month_of c.args.place) (day_of c.args.place)) = c.day_at.ensures ∙ there c.args.place c.requires in
    grind (arith, common_steps, e)
