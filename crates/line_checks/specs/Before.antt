-- What a line of one tag is checked against, as plain numbers (document 01, Stops that come from the input).
use Rattle.std.specs.Prelude.{◌≡◌, Bool, false, ◌&&◌, not, ℕ, eqb, leb}
use Rattle.calendar.specs.declared.Years.{Years}
use Rattle.calendar.specs.Spans.{years}
use Rattle.meaning.specs.Filing.{Meter, no_meter}
use Rattle.meaning.specs.Line.{Line, Tag, tag_of}
use Rattle.meaning.specs.Refusals.{Before, is_illegible, is_unknown}
use Rattle.meaning.specs.Record.{misplaced_by}

-- l is a line of tag t to which neither 2 nor 3 applies
pub record Known (t : Tag) (l : Line) : Type 0 where
  pub legible : is_illegible l ≡ false
  pub known : is_unknown l ≡ false
  pub tag : tag_of l ≡ t

-- 8: the last date or year of the tag, 0 for none, is this one or a later one
unfoldable pub is_not_later : ℕ → ℕ → Bool
is_not_later last k = not (eqb last 0) && leb k last

-- the rank of the last tag, the meter, the history years, the last date or year of the line's own tag,
-- the last index, the number of readings and the number of lines
unfoldable pub before_like : ℕ → Meter → Years → ℕ → ℕ → ℕ → ℕ → Before
before_like last m h k i n c = record {
  misplaced = misplaced_by last m;
  history = h;
  not_later = λ t d. is_not_later k d;
  last_index = i;
  readings = n;
  lines = c;
}

-- ---- what the checks of each tag need of it
-- S
unfoldable pub before_first : ℕ → Before
before_first last = before_like last no_meter (years 0 0) 0 0 0 0

-- C
unfoldable pub before_points : ℕ → Meter → Years → ℕ → Before
before_points last m h k = before_like last m h k 0 0 0

-- D, P, B, R
unfoldable pub before_rising : ℕ → Years → ℕ → Before
before_rising last h k = before_like last no_meter h k 0 0 0

-- X
unfoldable pub before_reading : ℕ → Years → ℕ → ℕ → ℕ → Before
before_reading last h k i n = before_like last no_meter h k i n 0

-- E
unfoldable pub before_end : ℕ → ℕ → Before
before_end last c = before_like last no_meter (years 0 0) 0 0 0 c
