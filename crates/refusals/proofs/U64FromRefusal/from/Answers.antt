use Rattle.std.proofs.Common.{◌≡◌, refl}
use Rattle.refusals.specs.Refusals.{refusal_number}
use Rattle.refusals.specs.declared.Refusal.TheVariants.{Unfit, Illegible, Unknown, Misplaced, Malformed, Outside, NoDate, NotLater, TooSoon, Falling, TooMany, Miscounted, NotOpen, NoEnd, Partial, NoData, ZeroTotal, TooHigh}
use Rattle.refusals.specs.contracts.Refusal as contracts
use Rattle.std.specs.Prelude.{◌+◌}
use Rattle.refusals.proofs.U64FromRefusal.from.Goals as goal

pub returns : goal.returns
unfolding refusal_number
returns c = elim c.args.refusal as (λ r. denote.Enum.Declared.tag_of contracts.the_type r + 1 ≡ refusal_number r) [
  | Unfit ↦ refl
  | Illegible ↦ refl
  | Unknown ↦ refl
  | Misplaced ↦ refl
  | Malformed ↦ refl
  | Outside ↦ refl
  | NoDate ↦ refl
  | NotLater ↦ refl
  | TooSoon ↦ refl
  | Falling ↦ refl
  | TooMany ↦ refl
  | Miscounted ↦ refl
  | NotOpen ↦ refl
  | NoEnd ↦ refl
  | Partial ↦ refl
  | NoData ↦ refl
  | ZeroTotal ↦ refl
  | TooHigh ↦ refl
]
