-- The number of a refusal is that of its reason.
use Rattle.std.specs.Prelude.{◌≡◌, refl, Err}
use Rattle.refusals.specs.declared.Refusal.{Refusal}
use Rattle.refusals.specs.declared.Refusal.TheVariants.{Unfit, Illegible, Unknown, Misplaced, Malformed, Outside, NoDate, NotLater, TooSoon, Falling, TooMany, Miscounted, NotOpen, NoEnd, Partial, NoData, ZeroTotal, TooHigh}
use Rattle.rounding.specs.Answers.{limit_view, refusal}
use Rattle.rounding.specs.declared.Exceeds.{Exceeds}
use Rattle.meaning.specs.Refusals.{Reason, illegible, unknown, misplaced, malformed, outside, no_date, not_later, too_soon, falling, too_many, miscounted, number_of}
use Rattle.meaning.specs.Closing.{CloseReason, no_end, partial, no_data, zero_total, too_high, close_number}
use Rattle.refusals.specs.Refusals.{refusal_number, refusal_of, of_exceeds, of_reason, of_close_reason}

pub line_numbers : (y : Reason) → refusal_number (of_reason y) ≡ number_of y
unfolding number_of refusal_number of_reason
line_numbers illegible = refl
line_numbers unknown = refl
line_numbers misplaced = refl
line_numbers malformed = refl
line_numbers outside = refl
line_numbers no_date = refl
line_numbers not_later = refl
line_numbers too_soon = refl
line_numbers falling = refl
line_numbers too_many = refl
line_numbers miscounted = refl

pub close_numbers : (k : CloseReason) → refusal_number (of_close_reason k) ≡ close_number k
unfolding close_number of_close_reason refusal_number
close_numbers no_end = refl
close_numbers partial = refl
close_numbers no_data = refl
close_numbers zero_total = refl
close_numbers too_high = refl

-- and that of a point above the limit
pub limit_number : {A : Type 0} (e : Exceeds) → limit_view {A = A} (Err e) ≡ refusal (refusal_number (of_exceeds e))
unfolding limit_view refusal_number
limit_number e = refl

-- a refusal is that of its number
pub numbered : (y : Refusal) → refusal_of (refusal_number y) ≡ y
unfolding refusal_number
numbered Unfit = refl
numbered Illegible = refl
numbered Unknown = refl
numbered Misplaced = refl
numbered Malformed = refl
numbered Outside = refl
numbered NoDate = refl
numbered NotLater = refl
numbered TooSoon = refl
numbered Falling = refl
numbered TooMany = refl
numbered Miscounted = refl
numbered NotOpen = refl
numbered NoEnd = refl
numbered Partial = refl
numbered NoData = refl
numbered ZeroTotal = refl
numbered TooHigh = refl
