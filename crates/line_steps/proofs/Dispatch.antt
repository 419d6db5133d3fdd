-- The tag of a line that 2 does not refuse, by the one that the code has found.
use mathlib.Core.Path.{◌≡◌, sym, ◌∙◌}
use mathlib.Core.Bool.{Bool, false, not}
use lib.Dec.{T}
use Rattle.meaning.specs.Line as lines
use Rattle.meaning.specs.Line.{Line, is, other}
use Rattle.meaning.specs.Refusals.{is_illegible}
use Rattle.line_form.specs.Views.{tag_view}
use Rattle.line_form.specs.Tags.{known_tag}
use Rattle.line_form.specs.declared.Tag.{Tag}
use Rattle.line_form.proofs.TagLaws.{known_tag_lem}
use Rattle.line_checks.specs.Before.{Known}

-- b is the answer of 2, g the tag found
pub known_as : (t : lines.Tag) (l : Line) (b : Bool) (g : Tag) → b ≡ is_illegible l → b ≡ false → tag_view g ≡ known_tag l → tag_view g ≡ t → T (not (is t other)) → Known t l
known_as t l b g e f k q h = let p = known_tag_lem t l (sym k ∙ q) h in record { legible = sym e ∙ f; known = p.1; tag = p.0 }
