use Prim.Native.Nat.{◌≤◌}
use native.Mathlib.Omega.{arith}
use borrow.Author.Tests.{lt-ltb, le-ltb}
use Rattle.line_checks.specs.Places.{key_for}
use Rattle.line_checks.proofs.Dates.{place_low}
use Rattle.line_checks.proofs.date_keys.key_of.Goals as goal

pub returns-then-date-gt9999 : goal.returns-then-date-gt9999
unfolding key_for
returns-then-date-gt9999 c = rw (lt-ltb _ _ c.if-date-gt9999.true)

pub overflow_add-result : goal.overflow_add-result
overflow_add-result c =
    let low : c.unwrap_or-place.result ≤ 365 = rw (c.unwrap_or-place.ensures, c.date_place.ensures) (place_low _ _) in
    omega (arith, low)

pub returns : goal.returns
unfolding key_for
returns c = rw (le-ltb _ _ c.if-date-gt9999.false, c.unwrap_or-place.ensures, c.date_place.ensures)
