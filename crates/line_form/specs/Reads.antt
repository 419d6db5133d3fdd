-- What is read from a line, whatever its bytes: its tag, whether its fields are in their forms, and its numbers, capped at 10^18.
use Rattle.std.specs.Prelude.{Bool, ◌&&◌, not, List, ℕ, min, Option}
use Rattle.std.specs.Bool.{then_some}
use Rattle.text.specs.Fields.{past, field_at}
use Rattle.text.specs.Numbers.{is_number, most}
use Rattle.meaning.specs.Filing as meant
use Rattle.meaning.specs.Line.{Line, Tag, Form, forms_of, in_form, some_field, number_at, meter_of, kind_of, is_kind}
use Rattle.readings.specs.declared.Kind.{Kind}
use Rattle.readings.specs.Readings.{kind_repr}
use Rattle.rounding.specs.Units.{in_w, in_wh}
use Rattle.line_form.specs.Views.{meter_repr}
use Rattle.line_form.specs.declared.Site.{Site}
use Rattle.calendar.specs.declared.Date.{Date}
use Rattle.line_form.specs.Codes.{point_row, profile_row}
use Rattle.line_form.specs.declared.values.PointsRead.{PointsRead}
use Rattle.line_form.specs.declared.values.ProfilesRead.{ProfilesRead}
use Rattle.line_form.specs.declared.axis_fields.ReadingRead.{ReadingRead}
use Rattle.line_form.specs.declared.axis_fields.DailyRead.{DailyRead}
use Rattle.line_form.specs.declared.year_fields.RateRead.{RateRead}

-- 5: whether the first fields of the rest of a line are in their forms
unfoldable pub in_forms : List Form → List ℕ → Bool
in_forms ms t = not (some_field (λ m f. not (in_form m f)) ms t)

-- whether every field after the tag is in its form for this tag
unfoldable pub is_formed : Tag → Line → Bool
is_formed t l = in_forms (forms_of t) (past l)

-- whether the three fields of a date are numbers
unfoldable pub is_date_formed : Line → Bool
is_date_formed l = is_number (field_at l 1) && (is_number (field_at l 2) && is_number (field_at l 3))

-- the number of a field, capped at 10^18
unfoldable pub capped_at : Line → ℕ → ℕ
capped_at l n = min (number_at l n) most

-- what a line says, where its fields are in their forms for the tag (else 5)
unfoldable pub where_formed : {A : Type 0} → Tag → Line → A → Option A
where_formed t l a = then_some (is_formed t l) a

-- the kind of a letter that is one
unfoldable pub kind_where : meant.Kind → Option Kind
kind_where k = then_some (is_kind k) (kind_repr k)

-- the date of a C, P, X or D line, and that date where its three fields are numbers
unfoldable pub date_read_of : Line → Date
date_read_of l = record { year = capped_at l 1; month = capped_at l 2; day = capped_at l 3 }

unfoldable pub dated_read_of : Line → Option Date
dated_read_of l = then_some (is_date_formed l) (date_read_of l)

-- ---- what a line says: the year of a B line and the count of an E line are its first number, capped
-- S
unfoldable pub site_read_of : Line → Site
site_read_of l = record { al = capped_at l 2; filiere = capped_at l 3; meter = meter_repr (meter_of (field_at l 4)); ps = in_w (capped_at l 5) }

-- C and P
unfoldable pub points_read_of : Line → PointsRead
points_read_of l = record { date = date_read_of l; points = point_row l }

unfoldable pub profiles_read_of : Line → ProfilesRead
profiles_read_of l = record { date = date_read_of l; values = profile_row l }

-- X
unfoldable pub reading_read_of : Line → ReadingRead
reading_read_of l = record { date = date_read_of l; index = in_wh (capped_at l 4); kind = kind_repr (kind_of (field_at l 5)) }

-- D
unfoldable pub daily_read_of : Line → DailyRead
daily_read_of l = record { date = date_read_of l; sum = capped_at l 4 }

-- R
unfoldable pub rate_read_of : Line → RateRead
rate_read_of l = record { year = capped_at l 1; rate = capped_at l 2 }
