use mathlib.Core.Path.{◌∙◌}
use Rattle.line_form.proofs.TagLaws.{told}
use Rattle.line_form.proofs.tags.known_tag.Goals as goal

pub returns : goal.returns
returns c = told _ _ _ _ _ _ c.in_ok-tag.was (c.tag_of.ensures ∙ rw c.field.ensures) c.field_count.ensures c.tab_count.ensures c.then_some.ensures
