use mathlib.Core.Path.{◌∙◌}
use Rattle.text.proofs.Laws.{part_counted, few_left, none_left}
use Rattle.text.proofs.fields.tab_count.Goals as goal

pub loop-part-preserved : goal.loop-part-preserved
loop-part-preserved c =
    let inv = c.loop-part.invariant in
    let steps = c.in-Some.ensures.steps in
    let counted = c.from-count.ensures ∙ c.few_tabs.ensures in
    record {
      counted = part_counted _ _ _ _ _ _ inv.counted steps.1.0 counted;
      few = few_left _ _ _ _ _ _ inv.few steps.1.0 counted;
      parts = steps.0 ∙ inv.parts;
    }

pub returns : goal.returns
returns c = none_left _ _ _ c.loop-part.invariant.counted c.in-None.ensures.steps.1.0
