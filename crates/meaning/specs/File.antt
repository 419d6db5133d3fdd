-- What the lines of a file say, from the lines alone: what a line is checked against, and the filing (document 01, What demand 3 compares).
use Rattle.std.specs.Prelude.{Bool, true, false, ◌&&◌, ◌||◌, not, cond, List, [], ◌∷◌, map, ℕ, eqb, leb, ltb, length}
use Rattle.std.proofs.Math.Option.{Option, some, none}
use Rattle.lists.specs.Lists.{any, or_else, seek, latest, present, count}
use Rattle.calendar.specs.declared.Years.{Years}
use Rattle.calendar.specs.Spans.{history_years, axis_years, position_of}
use Rattle.note.specs.Coefficients.{ca_of}
use Rattle.text.specs.Fields.{field_at}
use Rattle.meaning.specs.Filing.{Site, no_site, Meter, no_meter, curve_meter, index_meter, Reading, reading, Filing}
use Rattle.meaning.specs.Line.{Line, Tag, S, C, X, D, P, B, R, E, rank, is, tag_of, number_at, year_on, month_on, day_on, site_on, value_at, point_of, kind_of, is_rising, key_of, winter_on, place_on}
use Rattle.meaning.specs.Refusals.{Before, Reason, refusal}

-- ---- what S says
unfoldable pub site_in : List Line → Site
site_in ls = or_else (seek (λ (l : Line). cond (is S (tag_of l)) (some (site_on l)) none) ls) no_site

unfoldable pub history_in : List Line → Years
history_in ls = history_years (site_in ls).al (site_in ls).filiere

unfoldable pub axis_in : List Line → Years
axis_in ls = axis_years (history_in ls)

-- ---- a line among the lines before it
-- 4: a line of tag k rules out any later one of tag t that stands before k in file order, a second S, and all after E
unfoldable pub rules_out : Tag → Tag → Bool
rules_out k t = ltb (rank t) (rank k) || (is S t || is E k)

abbrev pub is_index_meter : Meter → Bool
is_index_meter no_meter = false
is_index_meter curve_meter = false
is_index_meter index_meter = true

-- any first line but S; after that a line that some line rules out, or C in an I file
unfoldable pub misplaced_in : List Line → Tag → Bool
misplaced_in [] t = not (is S t)
misplaced_in (k ∷ ls) t = any (λ (m : Line). rules_out (tag_of m) t) (k ∷ ls) || (is C t && is_index_meter (site_in (k ∷ ls)).meter)

-- 8: an earlier line of its tag is not earlier in date
unfoldable pub not_later_in : List Line → Tag → ℕ → Bool
not_later_in ls t k = is_rising t && any (λ (m : Line). is t (tag_of m) && leb k (key_of t m)) ls

-- 10: the index before
unfoldable pub last_index_in : List Line → ℕ
last_index_in ls = or_else (latest (λ (l : Line). cond (is X (tag_of l)) (some (number_at l 4)) none) ls) 0

unfoldable pub before_in : List Line → Before
before_in ls = record {
  misplaced = misplaced_in ls;
  history = history_in ls;
  not_later = not_later_in ls;
  last_index = last_index_in ls;
  readings = count (λ (l : Line). is X (tag_of l)) ls;
  lines = length ls;
}

-- the refusal of a line after the accepted lines ls
unfoldable pub refusal_at : List Line → Line → Option Reason
refusal_at ls l = refusal (before_in ls) l

-- ---- the filing
-- the point that a C line gives its place: none with - or no line
unfoldable pub point_on : ℕ → ℕ → ℕ → Line → Option (Option ℕ)
point_on y w h l = cond (is C (tag_of l) && (eqb (year_on l) y && (eqb (winter_on l) w && ltb h 20))) (some (point_of l h)) none

unfoldable pub point_in : List Line → ℕ → ℕ → ℕ → Option ℕ
point_in ls y w h = or_else (seek (point_on y w h) ls) none

unfoldable pub profile_on : ℕ → ℕ → ℕ → Line → Option ℕ
profile_on y w h l = cond (is P (tag_of l) && (eqb (year_on l) y && (eqb (winter_on l) w && ltb h 20))) (some (value_at l h)) none

unfoldable pub profile_in : List Line → ℕ → ℕ → ℕ → ℕ
profile_in ls y w h = or_else (seek (profile_on y w h) ls) 0

unfoldable pub daily_on : ℕ → ℕ → Line → Option ℕ
daily_on y p l = cond (is D (tag_of l) && (eqb (year_on l) y && eqb (place_on l) p)) (some (number_at l 4)) none

unfoldable pub daily_in : List Line → ℕ → ℕ → ℕ
daily_in ls y p = or_else (seek (daily_on y p) ls) 0

-- a reading's position is its place on the axis
unfoldable pub reading_on : Years → Line → Option Reading
reading_on axis l =
    cond (is X (tag_of l)) (some (reading (position_of axis (year_on l) (month_on l) (day_on l)) (number_at l 4) (kind_of (field_at l 5)))) none

unfoldable pub readings_in : List Line → List Reading
readings_in ls = present (map (reading_on (axis_in ls)) ls)

unfoldable pub broken_in : List Line → ℕ → Bool
broken_in ls y = any (λ (l : Line). is B (tag_of l) && eqb (year_on l) y) ls

unfoldable pub rate_in : List Line → ℕ → Option ℕ
rate_in ls y = seek (λ (l : Line). cond (is R (tag_of l) && eqb (year_on l) y) (some (number_at l 2)) none) ls

-- how many lines of a tag name a year
unfoldable pub dates_in : Tag → List Line → ℕ → ℕ
dates_in t ls y = count (λ (l : Line). is t (tag_of l) && eqb (year_on l) y) ls

unfoldable pub ended_in : List Line → Bool
ended_in ls = any (λ (l : Line). is E (tag_of l)) ls

unfoldable pub filing_in : List Line → Filing
filing_in ls = record {
  site = site_in ls;
  point = point_in ls;
  profile = profile_in ls;
  daily = daily_in ls;
  readings = readings_in ls;
  broken = broken_in ls;
  rate = rate_in ls;
  profile_dates = dates_in P ls;
  daily_dates = dates_in D ls;
  ended = ended_in ls;
  ca = λ y. ca_of y (site_in ls).filiere;
}
