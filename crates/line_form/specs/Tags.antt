-- The tag of a line, whatever its bytes (document 01, Calls and the lines of a file).
use Rattle.std.specs.Prelude.{cond}
use Rattle.meaning.specs.Line.{Line, Tag, other, tag_of}
use Rattle.meaning.specs.Refusals.{is_unknown}

-- 3: the line's tag, none where the tag is unknown or the number of fields wrong
unfoldable pub known_tag : Line → Tag
known_tag l = cond (is_unknown l) other (tag_of l)
