use Rattle.sheet.proofs.Chains.{adds_one}
use Rattle.sheet.proofs.Printed.put.Goals as goal

pub returns : goal.returns
returns c = adds_one _ _ _ c.put_byte-self.ensures.value c.put_byte-self.ensures.out_after
