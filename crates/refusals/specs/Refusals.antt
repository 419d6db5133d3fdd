-- The number of each refusal, and the refusals that a line and a close meet by a reason of document 01 (both sections on stops).
use Rattle.std.specs.Prelude.{Bool, cond, ℕ, eqb, Result, Ok, Err}
use Rattle.std.proofs.Math.Option as math
use Rattle.meaning.specs.Refusals.{Reason}
use Rattle.meaning.specs.Refusals as line
use Rattle.meaning.specs.Closing.{CloseReason}
use Rattle.meaning.specs.Closing as close
use Rattle.rounding.specs.declared.Exceeds.{Exceeds}
use Rattle.refusals.specs.declared.Refusal.{Refusal}
use Rattle.refusals.specs.declared.Refusal.TheVariants.{Unfit, Illegible, Unknown, Misplaced, Malformed, Outside, NoDate, NotLater, TooSoon, Falling, TooMany, Miscounted, NotOpen, NoEnd, Partial, NoData, ZeroTotal, TooHigh}

unfoldable pub refusal_number : Refusal → ℕ
refusal_number Unfit = 1
refusal_number Illegible = 2
refusal_number Unknown = 3
refusal_number Misplaced = 4
refusal_number Malformed = 5
refusal_number Outside = 6
refusal_number NoDate = 7
refusal_number NotLater = 8
refusal_number TooSoon = 9
refusal_number Falling = 10
refusal_number TooMany = 11
refusal_number Miscounted = 12
refusal_number NotOpen = 13
refusal_number NoEnd = 14
refusal_number Partial = 15
refusal_number NoData = 16
refusal_number ZeroTotal = 17
refusal_number TooHigh = 18

-- the refusal of a number of document 01, from 1 to 18 (it is asked of no other), and an answer that is one
abbrev pub refusal_of : ℕ → Refusal
refusal_of n =
    cond (eqb n 1) Unfit (cond (eqb n 2) Illegible (cond (eqb n 3) Unknown (cond (eqb n 4) Misplaced (
    cond (eqb n 5) Malformed (cond (eqb n 6) Outside (cond (eqb n 7) NoDate (cond (eqb n 8) NotLater (
    cond (eqb n 9) TooSoon (cond (eqb n 10) Falling (cond (eqb n 11) TooMany (cond (eqb n 12) Miscounted (
    cond (eqb n 13) NotOpen (cond (eqb n 14) NoEnd (cond (eqb n 15) Partial (cond (eqb n 16) NoData (
    cond (eqb n 17) ZeroTotal (TooHigh)))))))))))))))))

abbrev pub refused_by : {A : Type 0} → ℕ → Result A Refusal
refused_by n = Err (refusal_of n)

-- that of a point that exceeds the limit
abbrev pub of_exceeds : Exceeds → Refusal
of_exceeds e = refusal_of 18

-- the refusal where a check holds
unfoldable pub refused_if : Bool → Refusal → Result Unit Refusal
refused_if b y = cond b (Err y) (Ok tt)

-- 2 to 12
unfoldable pub of_reason : Reason → Refusal
of_reason line.illegible = Illegible
of_reason line.unknown = Unknown
of_reason line.misplaced = Misplaced
of_reason line.malformed = Malformed
of_reason line.outside = Outside
of_reason line.no_date = NoDate
of_reason line.not_later = NotLater
of_reason line.too_soon = TooSoon
of_reason line.falling = Falling
of_reason line.too_many = TooMany
of_reason line.miscounted = Miscounted

-- 14 to 18
unfoldable pub of_close_reason : CloseReason → Refusal
of_close_reason close.no_end = NoEnd
of_close_reason close.partial = Partial
of_close_reason close.no_data = NoData
of_close_reason close.zero_total = ZeroTotal
of_close_reason close.too_high = TooHigh

-- what an accepted line gives, or the refusal of the reason that holds
unfoldable pub unless_reason : {A : Type 0} → math.Option Reason → A → Result A Refusal
unless_reason math.none a = Ok a
unless_reason (math.some y) a = Err (of_reason y)
