-- The lent blocks: sizes, fresh values, and where each year, date and half-hour stands (document 01, Calls and the lines of a file).
use Rattle.std.specs.Prelude.{Bool, ◌&&◌, cond, List, ℕ, ◌+◌, ◌-◌, ◌*◌, eqb, leb, length, get_or, replicate}
use Rattle.std.proofs.Math.Option.{Option, some, none}
use Rattle.lists.specs.Lists.{tab, or_else}
use Rattle.meaning.specs.Filing.{Reading, reading, Kind, real, corrected, estimated, no_kind}
use Rattle.meaning.specs.Level.{missing_entry}

-- every list that a call is lent
pub record Blocks : Type 0 where
  pub near : List ℕ
  pub far : List ℕ
  pub slots : List ℕ
  pub daily : List ℕ
  pub readings : List Reading
  pub curve : List ℕ

abbrev pub missing_point : ℕ
missing_point = 4294967295

-- 152 date places of 20 half-hours
abbrev pub row_size : ℕ
row_size = 3040

abbrev pub points_size : ℕ
points_size = 15200

abbrev pub slots_size : ℕ
slots_size = 30400

abbrev pub daily_size : ℕ
daily_size = 4392

abbrev pub readings_size : ℕ
readings_size = 600

abbrev pub curve_size : ℕ
curve_size = 4400

unfoldable pub sizes_fit : Blocks → Bool
sizes_fit w =
    eqb (length w.near) points_size && (eqb (length w.far) points_size && (eqb (length w.slots) slots_size && (eqb (length w.daily) daily_size
    && (eqb (length w.readings) readings_size && eqb (length w.curve) curve_size))))

-- the letter of a kind
abbrev pub letter_of_kind : Kind → ℕ
letter_of_kind real = 82
letter_of_kind corrected = 67
letter_of_kind estimated = 69
letter_of_kind no_kind = 0

-- at position 0, count 0, kind E
abbrev pub fresh_reading : Reading
fresh_reading = reading 0 0 estimated

-- points and curve missing, profiles and daily sums 0
unfoldable pub fresh_blocks : Blocks
fresh_blocks = record {
  near = replicate points_size missing_point;
  far = replicate points_size missing_point;
  slots = replicate slots_size 0;
  daily = replicate daily_size 0;
  readings = replicate readings_size fresh_reading;
  curve = replicate curve_size missing_entry;
}

-- ---- a missing point, and one that is present
unfoldable pub code_of_point : Option ℕ → ℕ
code_of_point p = or_else p missing_point

unfoldable pub point_of_code : ℕ → Option ℕ
point_of_code v = cond (eqb v missing_point) none (some v)

-- ---- where things stand
-- a year is in the near block from AL-9 on, else in the far block, which runs from AL-14
unfoldable pub is_near : ℕ → ℕ → Bool
is_near al y = leb (al - 9) y

unfoldable pub near_start : ℕ → ℕ → ℕ
near_start al y = row_size * (y - (al - 9))

unfoldable pub far_start : ℕ → ℕ → ℕ
far_start al y = row_size * (y - (al - 14))

-- slot profiles run from the oldest history year, daily rows from the first axis year
unfoldable pub slots_start : ℕ → ℕ → ℕ
slots_start oldest y = row_size * (y - oldest)

-- within a row by date, then half-hour
unfoldable pub slot_at : ℕ → ℕ → ℕ
slot_at w h = 20 * w + h

-- the point's code at a year, winter place and half-hour
unfoldable pub code_at : ℕ → Blocks → ℕ → ℕ → ℕ → ℕ
code_at al b y w h =
    cond (is_near al y) (get_or b.near (near_start al y + slot_at w h) missing_point) (get_or b.far (far_start al y + slot_at w h) missing_point)

-- the first n readings
unfoldable pub readings_of : Blocks → ℕ → List Reading
readings_of b n = tab n 0 (λ i. get_or b.readings i fresh_reading)
