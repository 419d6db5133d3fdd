-- What every filing of accepted lines has: plain facts, which the bound rests on.
use mathlib.Core.Path.{◌≡◌}
use mathlib.Core.Option.{some}
use Prim.Native.Nat.{ℕ, ◌*◌, ◌≤◌, ◌<◌}
use lib.Dec.{T}
use Rattle.calendar.specs.Spans.{among, is_known}
use Rattle.meaning.specs.Filing.{Filing, history_of}

pub record Sane (F : Filing) : Type 0 where
  -- AL and filière are ones that document 01 knows
  pub known : T (is_known F.site.al F.site.filiere)
  -- CA of a history year is not 0, and none is above twice another
  pub some_ca : (y : ℕ) → T (among (history_of F) y) → 0 < F.ca y
  pub twofold : (y z : ℕ) → T (among (history_of F) y) → T (among (history_of F) z) → F.ca y ≤ 2 * F.ca z
  -- a rate is 10 to 1000 thousandths
  pub least_rate : (y r : ℕ) → T (among (history_of F) y) → F.rate y ≡ some r → 10 ≤ r
  pub most_rate : (y r : ℕ) → T (among (history_of F) y) → F.rate y ≡ some r → r ≤ 1000
