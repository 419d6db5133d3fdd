-- One line: its tag, its fields with their forms and ranges, and what it says (document 01, Calls and the lines of a file).
use Rattle.std.specs.Prelude.{Bool, true, false, ◌&&◌, ◌||◌, cond, List, [], ◌∷◌, ℕ, ◌+◌, ◌*◌, eqb, leb, replicate}
use Rattle.std.proofs.Math.Option.{Option, some, none}
use Rattle.calendar.specs.declared.Years.{Years}
use Rattle.calendar.specs.Places.{date_place, winter_place}
use Rattle.calendar.specs.Spans.{axis_years, among}
use Rattle.text.specs.Fields.{up_to, past, field_at, reads, edition as editionText}
use Rattle.text.specs.Numbers.{is_number, value_of, is_dash}
use Rattle.meaning.specs.Filing.{Meter, no_meter, curve_meter, index_meter, Site, site, Kind, real, corrected, estimated, no_kind}

-- bytes, without the byte 10 that ends it
abbrev pub Line : Type 0
Line = List ℕ

-- ---- tags, in file order
pub data Tag : Type 0 where
  S C X D P B R E other : Tag

abbrev pub rank : Tag → ℕ
rank other = 0
rank S = 1
rank C = 2
rank X = 3
rank D = 4
rank P = 5
rank B = 6
rank R = 7
rank E = 8

-- the tag is this one
abbrev pub is : Tag → Tag → Bool
is k t = eqb (rank k) (rank t)

-- by the byte of its letter
unfoldable pub tag_of_letter : ℕ → Tag
tag_of_letter b =
    cond (eqb b 83) S (cond (eqb b 67) C (cond (eqb b 88) X (cond (eqb b 68) D
    (cond (eqb b 80) P (cond (eqb b 66) B (cond (eqb b 82) R (cond (eqb b 69) E other)))))))

unfoldable pub tag_of_field : List ℕ → Tag
tag_of_field [] = other
tag_of_field (b ∷ []) = tag_of_letter b
tag_of_field (b ∷ c ∷ f) = other

-- the tag is the whole first field
unfoldable pub tag_of : Line → Tag
tag_of l = tag_of_field (up_to l)

-- ---- the form of each field after the tag
pub data Form : Type 0 where
  edition : Form
  meter_letter : Form
  kind_letter : Form
  -- a number from one bound to another
  number : ℕ → ℕ → Form
  -- a number up to a bound, or - for missing
  number_or_dash : ℕ → Form
  history_year : Form
  axis_year : Form
  -- a month or a day: no range of its own
  date_number : Form

abbrev pub most_power : ℕ
most_power = 100000000

abbrev pub most_index : ℕ
most_index = 1000000000000

abbrev pub most_daily : ℕ
most_daily = 3145680

abbrev pub most_profile : ℕ
most_profile = 65535

unfoldable pub forms_of : Tag → List Form
forms_of S = edition ∷ number 2021 2026 ∷ number 1 11 ∷ meter_letter ∷ number 1 most_power ∷ []
forms_of C = history_year ∷ date_number ∷ date_number ∷ replicate 20 (number_or_dash most_power)
forms_of X = axis_year ∷ date_number ∷ date_number ∷ number 0 most_index ∷ kind_letter ∷ []
forms_of D = axis_year ∷ date_number ∷ date_number ∷ number 0 most_daily ∷ []
forms_of P = history_year ∷ date_number ∷ date_number ∷ replicate 20 (number 0 most_profile)
forms_of B = history_year ∷ []
forms_of R = history_year ∷ number 10 1000 ∷ []
forms_of E = number 0 9999 ∷ []
forms_of other = []

-- how many fields, the tag included; no line of an unknown tag has a right number
abbrev pub size : Tag → ℕ
size S = 6
size C = 24
size X = 6
size D = 5
size P = 24
size B = 2
size R = 3
size E = 2
size other = 0

-- T curve meter, I index meter
unfoldable pub meter_of_letter : ℕ → Meter
meter_of_letter b = cond (eqb b 84) curve_meter (cond (eqb b 73) index_meter no_meter)

unfoldable pub meter_of : List ℕ → Meter
meter_of [] = no_meter
meter_of (b ∷ []) = meter_of_letter b
meter_of (b ∷ c ∷ f) = no_meter

abbrev pub is_meter : Meter → Bool
is_meter no_meter = false
is_meter curve_meter = true
is_meter index_meter = true

-- R real, C corrected, E estimated
unfoldable pub kind_of_letter : ℕ → Kind
kind_of_letter b = cond (eqb b 82) real (cond (eqb b 67) corrected (cond (eqb b 69) estimated no_kind))

unfoldable pub kind_of : List ℕ → Kind
kind_of [] = no_kind
kind_of (b ∷ []) = kind_of_letter b
kind_of (b ∷ c ∷ f) = no_kind

abbrev pub is_kind : Kind → Bool
is_kind real = true
is_kind corrected = true
is_kind estimated = true
is_kind no_kind = false

-- 5: whether a field is in its form
unfoldable pub in_form : Form → List ℕ → Bool
in_form edition f = reads f editionText
in_form meter_letter f = is_meter (meter_of f)
in_form kind_letter f = is_kind (kind_of f)
in_form (number a b) f = is_number f
in_form (number_or_dash b) f = is_dash f || is_number f
in_form history_year f = is_number f
in_form axis_year f = is_number f
in_form date_number f = is_number f

-- 6: whether its number is within its range, or its year within the tag's span
unfoldable pub in_range : Years → Form → List ℕ → Bool
in_range h edition f = true
in_range h meter_letter f = true
in_range h kind_letter f = true
in_range h (number a b) f = leb a (value_of f) && leb (value_of f) b
in_range h (number_or_dash b) f = is_dash f || leb (value_of f) b
in_range h history_year f = among h (value_of f)
in_range h axis_year f = among (axis_years h) (value_of f)
in_range h date_number f = true

-- some field, in order, fails its test
unfoldable pub some_field : (Form → List ℕ → Bool) → List Form → List ℕ → Bool
some_field fails [] l = false
some_field fails (m ∷ ms) l = fails m (up_to l) || some_field fails ms (past l)

-- ---- what a line says
unfoldable pub number_at : Line → ℕ → ℕ
number_at l n = value_of (field_at l n)

abbrev pub year_on : Line → ℕ
year_on l = number_at l 1

abbrev pub month_on : Line → ℕ
month_on l = number_at l 2

abbrev pub day_on : Line → ℕ
day_on l = number_at l 3

unfoldable pub site_on : Line → Site
site_on l = site (number_at l 2) (number_at l 3) (meter_of (field_at l 4)) (number_at l 5)

-- a value of a C or P line by its half-hour, from 0
unfoldable pub value_at : Line → ℕ → ℕ
value_at l h = number_at l (4 + h)

unfoldable pub point_of : Line → ℕ → Option ℕ
point_of l h = cond (is_dash (field_at l (4 + h))) none (some (value_at l h))

-- ---- dates
abbrev pub has_date_on : Tag → Bool
has_date_on t = is C t || (is X t || (is D t || is P t))

abbrev pub is_winter_tag : Tag → Bool
is_winter_tag t = is C t || is P t

abbrev pub has_year_on : Tag → Bool
has_year_on t = is B t || is R t

-- dates in order: 366 places a year
unfoldable pub date_key : ℕ → ℕ → ℕ → ℕ
date_key y m d = 366 * y + date_place m d

-- what must rise within a tag: a date, or a year
unfoldable pub key_of : Tag → Line → ℕ
key_of t l = cond (has_date_on t) (date_key (year_on l) (month_on l) (day_on l)) (year_on l)

unfoldable pub is_rising : Tag → Bool
is_rising t = has_date_on t || has_year_on t

-- the winter place and the date place that a line names
unfoldable pub winter_on : Line → ℕ
winter_on l = winter_place (month_on l) (day_on l)

unfoldable pub place_on : Line → ℕ
place_on l = date_place (month_on l) (day_on l)
