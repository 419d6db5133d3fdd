-- What is within the limit of a point, or 18 (document 01, Stops that come from the state).
use Rattle.std.specs.Prelude.{Bool, true, false, ℕ, Result, Ok, Err}
use Rattle.rounding.specs.Points.{exceeds}
use Rattle.rounding.specs.Units.{in_mw}
use Rattle.rounding.specs.declared.Power.{Power}
use Rattle.rounding.specs.declared.Exceeds.{Exceeds}

-- in document 01's words: a value within the limit, or the number of a refusal
pub data Limited (A : Type 0) : Type 0 where
  within : A → Limited A
  refusal : ℕ → Limited A

-- what each case of the code's answer says
unfoldable pub limit_view : {A : Type 0} → Result A Exceeds → Limited A
limit_view (Ok a) = within a
limit_view (Err e) = refusal 18

-- 18 where the limit is exceeded, else the value
unfoldable pub limited : {A : Type 0} → Bool → A → Limited A
limited true a = refusal 18
limited false a = within a

-- a number of mW as a point, or 18
unfoldable pub limited_point : ℕ → Limited Power
limited_point n = limited (exceeds n) (in_mw n)
