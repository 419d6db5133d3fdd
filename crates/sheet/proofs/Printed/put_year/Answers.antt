use Rattle.meaning.specs.Text.{year_text}
use Rattle.sheet.proofs.Chains.{adds_then}
use Rattle.sheet.proofs.Printed.put_year.Goals as goal

pub returns : goal.returns
unfolding year_text
returns c =
    adds_then c.put.ensures
    (adds_then c.put_tabbed.ensures (adds_then c.put-2.ensures (adds_then c.put-3.ensures (adds_then c.put_tabbed-2.ensures c.put-4.ensures))))
