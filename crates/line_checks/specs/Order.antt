-- The checks of a line in order, and the refusals that they give (document 01, Stops that come from the input).
use Rattle.std.specs.Prelude as std
use Rattle.std.specs.Prelude.{Bool, false, cond, ◌||◌, ℕ, eqb, ltb, Result, Ok, Err}
use Rattle.std.specs.Option.{ok_or}
use Rattle.std.proofs.Math.Option.{Option}
use Rattle.lists.specs.Lists.{first_of}
use Rattle.meaning.specs.Line.{Tag, rank}
use Rattle.meaning.specs.Refusals.{Reason, illegible, unknown, misplaced, malformed, outside, no_date, not_later, too_soon, falling, too_many, miscounted, order}
use Rattle.refusals.specs.declared.Refusal.{Refusal}
use Rattle.refusals.specs.Refusals.{refusal_of, refused_by}
use Rattle.line_checks.specs.Before.{is_not_later}

-- which of 4 to 12 hold for a line
pub record Checks : Type 0 where
  pub misplaced : Bool
  pub malformed : Bool
  pub outside : Bool
  pub no_date : Bool
  pub not_later : Bool
  pub too_soon : Bool
  pub falling : Bool
  pub too_many : Bool
  pub miscounted : Bool

-- 2 and 3 have been checked before
unfoldable pub asked : Checks → Reason → Bool
asked c illegible = false
asked c unknown = false
asked c misplaced = c.misplaced
asked c malformed = c.malformed
asked c outside = c.outside
asked c no_date = c.no_date
asked c not_later = c.not_later
asked c too_soon = c.too_soon
asked c falling = c.falling
asked c too_many = c.too_many
asked c miscounted = c.miscounted

unfoldable pub first_refusal : Checks → Option Reason
first_refusal c = first_of (asked c) order

-- what the next step gives, where the one before it gave a value
abbrev pub and_then : {A B : Type 0} → Result A Refusal → (A → Result B Refusal) → Result B Refusal
and_then (Ok a) f = f a
and_then (Err y) f = Err y

-- ---- 4 and 5; 6, 7 and 8
unfoldable pub in_order : {A : Type 0} → Bool → std.Option A → Result A Refusal
in_order m r = cond m (refused_by 4) (ok_or r (refusal_of 5))

unfoldable pub rising_checks : Bool → Bool → ℕ → ℕ → Result Unit Refusal
rising_checks o d last k = cond o (refused_by 6) (cond d (refused_by 7) (cond (is_not_later last k) (refused_by 8) (Ok tt)))

-- 4 for a tag, by the rank of the last tag: no line yet, a later tag, or E
unfoldable pub is_misplaced : ℕ → Tag → Bool
is_misplaced last t = eqb last 0 || (ltb (rank t) last || eqb last 8)
