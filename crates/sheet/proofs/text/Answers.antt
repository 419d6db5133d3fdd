use native.Mathlib.Omega.{arith}
use Rattle.std.proofs.Common.{refl}
use Rattle.sheet.proofs.Chains.{adds_first}
use Rattle.sheet.proofs.text.Goals as goal

pub returns : goal.returns
returns c = adds_first _ _ _ c.put_sheet.ensures.sheet refl (omega (arith, c.put_sheet.ensures.short))
