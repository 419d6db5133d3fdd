-- The refusals 2 to 12 of a line, the first condition that holds (document 01, Stops that come from the input).
use Rattle.std.specs.Prelude.{Bool, ◌&&◌, ◌||◌, not, List, [], ◌∷◌, ℕ, ◌+◌, eqb, leb, ltb, length}
use Rattle.std.proofs.Math.Option.{Option}
use Rattle.lists.specs.Lists.{any, first_of}
use Rattle.calendar.specs.declared.Years.{Years}
use Rattle.calendar.specs.Dates.{is_date, is_winter}
use Rattle.text.specs.Fields.{past, tabs, is_invalid}
use Rattle.meaning.specs.Line.{Line, Tag, S, X, E, is, tag_of, size, forms_of, in_form, in_range, some_field, number_at, year_on, month_on, day_on, site_on, has_date_on, is_winter_tag, key_of}

-- what a line is checked against besides itself
pub record Before : Type 0 where
  -- 4: no line of this tag may come now
  pub misplaced : Tag → Bool
  -- 6: the history years that S gives
  pub history : Years
  -- 8: a line of this tag, whose dates or years rise, has this one or a later one
  pub not_later : Tag → ℕ → Bool
  -- 10: the index of the last reading, 0 before any
  pub last_index : ℕ
  -- 11: how many readings
  pub readings : ℕ
  -- 12: how many lines
  pub lines : ℕ

pub data Reason : Type 0 where
  illegible unknown misplaced malformed outside no_date not_later too_soon falling too_many miscounted : Reason

unfoldable pub number_of : Reason → ℕ
number_of illegible = 2
number_of unknown = 3
number_of misplaced = 4
number_of malformed = 5
number_of outside = 6
number_of no_date = 7
number_of not_later = 8
number_of too_soon = 9
number_of falling = 10
number_of too_many = 11
number_of miscounted = 12

-- 9: filières 6 to 11 are certified from AL 2023 on
unfoldable pub is_too_soon : ℕ → ℕ → Bool
is_too_soon al f = leb 6 f && ltb al 2023

abbrev pub most_readings : ℕ
most_readings = 600

-- ---- the conditions that a line meets by itself
-- 2: empty, over 320 bytes, or with an invalid byte
unfoldable pub is_illegible : Line → Bool
is_illegible l = eqb (length l) 0 || (ltb 320 (length l) || any is_invalid l)

-- 3: unknown tag or wrong field count
unfoldable pub is_unknown : Line → Bool
is_unknown l = not (eqb (tabs l + 1) (size (tag_of l)))

-- 5: a field not in its form
unfoldable pub is_malformed : Line → Bool
is_malformed l = some_field (λ m f. not (in_form m f)) (forms_of (tag_of l)) (past l)

-- 6: a number outside its range, or a year off its tag's span
unfoldable pub is_outside : Years → Line → Bool
is_outside h l = some_field (λ m f. not (in_range h m f)) (forms_of (tag_of l)) (past l)

-- 7: no such date, or not winter on C or P
unfoldable pub has_no_date : Line → Bool
has_no_date l =
    has_date_on (tag_of l) && (not (is_date (year_on l) (month_on l) (day_on l)) || (is_winter_tag (tag_of l) && not (is_winter (month_on l))))

unfoldable pub holds : Reason → Before → Line → Bool
holds illegible b l = is_illegible l
holds unknown b l = is_unknown l
holds misplaced b l = b.misplaced (tag_of l)
holds malformed b l = is_malformed l
holds outside b l = is_outside b.history l
holds no_date b l = has_no_date l
holds not_later b l = b.not_later (tag_of l) (key_of (tag_of l) l)
holds too_soon b l = is S (tag_of l) && is_too_soon (site_on l).al (site_on l).filiere
holds falling b l = is X (tag_of l) && ltb (number_at l 4) b.last_index
holds too_many b l = is X (tag_of l) && leb most_readings b.readings
holds miscounted b l = is E (tag_of l) && not (eqb (number_at l 1) b.lines)

-- in order of checking
unfoldable pub order : List Reason
order =
    illegible ∷ unknown ∷ misplaced ∷ malformed ∷ outside ∷ no_date ∷ not_later ∷ too_soon ∷ falling ∷ too_many ∷ miscounted ∷ []

unfoldable pub refusal : Before → Line → Option Reason
refusal b l = first_of (λ y. holds y b l) order
