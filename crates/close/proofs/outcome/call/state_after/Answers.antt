use Rattle.std.proofs.Common.{◌≡◌, refl, eqb}
use denote.Enum.Bare.{sameb}
use Rattle.refusals.specs.contracts.Refusal.{the_type}
use Rattle.refusals.specs.declared.Refusal.{Refusal}
use Rattle.refusals.specs.declared.Refusal.TheVariants.{Unfit, Illegible, Unknown, Misplaced, Malformed, Outside, NoDate, NotLater, TooSoon, Falling, TooMany, Miscounted, NotOpen, NoEnd, Partial, NoData, ZeroTotal, TooHigh}
use Rattle.refusals.specs.Refusals.{refusal_number}
use Rattle.close.proofs.outcome.call.state_after.Goals as goal

-- only NoEnd has the number 14
is_end : (y : Refusal) → sameb the_type y NoEnd ≡ eqb (refusal_number y) 14
unfolding refusal_number
is_end Unfit = refl
is_end Illegible = refl
is_end Unknown = refl
is_end Misplaced = refl
is_end Malformed = refl
is_end Outside = refl
is_end NoDate = refl
is_end NotLater = refl
is_end TooSoon = refl
is_end Falling = refl
is_end TooMany = refl
is_end Miscounted = refl
is_end NotOpen = refl
is_end NoEnd = refl
is_end Partial = refl
is_end NoData = refl
is_end ZeroTotal = refl
is_end TooHigh = refl

pub returns-then-eq : goal.returns-then-eq
returns-then-eq c = rw (← is_end c.args.refusal, ← c.eq.ensures, c.if-eq.true) refl

pub returns-else-eq : goal.returns-else-eq
returns-else-eq c = rw (← is_end c.args.refusal, ← c.eq.ensures, c.if-eq.false) refl
