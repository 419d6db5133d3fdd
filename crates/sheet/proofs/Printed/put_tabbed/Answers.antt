use Rattle.meaning.specs.Text.{tabbed}
use Rattle.sheet.proofs.Chains.{adds_one, adds_then}
use Rattle.sheet.proofs.Printed.put_tabbed.Goals as goal

pub returns : goal.returns
unfolding tabbed
returns c = adds_then c.put.ensures (adds_one _ _ _ c.put_number-self.ensures.value c.put_number-self.ensures.out_after)
