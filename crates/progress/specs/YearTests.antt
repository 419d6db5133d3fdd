-- 1 on the numbers by year: what a test says of a year and its number (document 01, Stops that come from the input).
use Rattle.std.specs.Prelude.{◌≡◌, Bool, true, cond, ℕ, ◌<◌, ◌^◌, ◌+◌, eqb, ltb}
use Rattle.calendar.specs.declared.Years.{Years}

-- the test of a year and a number passes those in the range, and 0 is in it
pub record Tests (post : ℕ → ℕ → Bool → Type 0) (range : ℕ → ℕ → Bool) : Type 0 where
  pub says : (y n : ℕ) (b : Bool) → y < 2 ^ 64 → n < 2 ^ 64 → post y n b → b ≡ range y n
  pub zero : (y : ℕ) → range y 0 ≡ true

-- the number at a place, counted from the first year of a span: in its range, and 0 where the span does not have its year
abbrev pub fits_at : Years → (ℕ → ℕ → Bool) → ℕ → ℕ → Bool
fits_at span range k n = cond (ltb k span.count) (range (span.first + k) n) (eqb n 0)
