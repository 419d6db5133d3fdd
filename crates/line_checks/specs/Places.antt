-- The place and the key of numbers that may not be a date: 0 where they are not.
use Rattle.std.specs.Prelude.{Bool, cond, ℕ, ◌+◌, ◌*◌, ltb, Option, unwrap_or, Result, Ok}
use Rattle.calendar.specs.Answers.{date_place_of}
use Rattle.calendar.specs.declared.Date.{Date}
use Rattle.line_form.specs.declared.year_fields.RateRead.{RateRead}
use Rattle.meaning.specs.Line.{Line, year_on, number_at}
use Rattle.line_form.specs.Ranges.{no_date_for}
use Rattle.refusals.specs.declared.Refusal.{Refusal}
use Rattle.line_checks.specs.Order.{and_then, rising_checks}

abbrev pub place_or : Option ℕ → ℕ
place_or p = unwrap_or p 0

-- no span has a year of five digits
unfoldable pub key_for : ℕ → ℕ → ℕ → ℕ
key_for y m d = cond (ltb 9999 y) 0 (366 * y + place_or (date_place_of m d))

-- 6, 7 and 8 of a line with a date, and its key
unfoldable pub dated_checks : Bool → Bool → Date → ℕ → Result ℕ Refusal
dated_checks o winter r last = and_then (rising_checks o (no_date_for winter r.year r.month r.day) last (key_for r.year r.month r.day)) (λ _. Ok (key_for r.year r.month r.day))

-- the year and the rate of an R line
unfoldable pub rate_on : Line → RateRead
rate_on l = record { year = year_on l; rate = number_at l 2 }
