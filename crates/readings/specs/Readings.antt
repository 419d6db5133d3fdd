-- The readings as a call is lent them, and as the definitions of document 01 read them (document 01, Calls).
use Rattle.std.specs.Prelude.{List, map, ◌≡◌, ℕ, length, get_or, replicate, Result, MatchResult}
use Rattle.lists.specs.Lists.{tab}
use Rattle.meaning.specs.Filing as meant
use Rattle.meaning.specs.Filing.{real, corrected, estimated, no_kind, reading}
use Rattle.meaning.specs.Line.{kind_of_letter}
use Rattle.meaning.specs.Blocks.{readings_size, letter_of_kind}
use Rattle.rounding.specs.Units.{in_wh}
use Rattle.readings.specs.declared.Kind.{Kind}
use Rattle.readings.specs.declared.Kind.TheVariants.{R, C, E}
use Rattle.readings.specs.declared.UnknownKind.{UnknownKind}
use Rattle.readings.specs.declared.Reading.{Reading}
use Rattle.readings.specs.declared.Columns.{Columns}

-- R real, C corrected, E estimated
abbrev pub kind_view : Kind → meant.Kind
kind_view R = real
kind_view C = corrected
kind_view E = estimated

abbrev pub reading_view : Reading → meant.Reading
reading_view r = reading r.position r.count.0 (kind_view r.kind)

-- the kind of a line's kind field, as the code has it; no line is taken whose kind is none of the three
abbrev pub kind_repr : meant.Kind → Kind
kind_repr real = R
kind_repr corrected = C
kind_repr estimated = E
kind_repr no_kind = E

-- the kind of the letter, or an error with the letter where it is none of the three
abbrev pub Reads : ℕ → Result Kind UnknownKind → Type 0
Reads letter r = MatchResult r (λ kind. kind_view kind ≡ kind_of_letter letter) (λ e. (no_kind ≡ kind_of_letter letter) × (e.0 ≡ letter))

-- at position 0, count 0, kind E
abbrev pub fresh : Reading
fresh = record { position = 0; count = in_wh 0; kind = E }

-- the list as the definitions have it
unfoldable pub readings_view : List Reading → List meant.Reading
readings_view rs = map reading_view rs

-- all fresh
unfoldable pub freshened : List Reading → List Reading
freshened rs = replicate (length rs) fresh

-- ---- the columns of a list
abbrev pub letter : Reading → ℕ
letter r = letter_of_kind (kind_view r.kind)

unfoldable pub positions_of : List Reading → List ℕ
positions_of rs = map (λ r. r.position) rs

unfoldable pub counts_of : List Reading → List ℕ
counts_of rs = map (λ r. r.count.0) rs

unfoldable pub letters_of : List Reading → List ℕ
letters_of rs = map letter rs

-- the first 600, fresh where the list has no more
unfoldable pub first_readings : List Reading → List Reading
first_readings rs = tab readings_size 0 (λ i. get_or rs i fresh)

unfoldable pub columns_of : List Reading → Columns
columns_of rs = record {
  positions = positions_of (first_readings rs);
  indexes = counts_of (first_readings rs);
  kinds = letters_of (first_readings rs);
}

-- the readings before an opening
unfoldable pub fresh_readings : List Reading
fresh_readings = replicate 600 fresh
