-- The site's record: its fields, the range of each, and what it says with the lent blocks (document 01, Calls; 1).
use Rattle.std.specs.Prelude.{Bool, true, false, ◌&&◌, ◌||◌, not, cond, List, ℕ, zero, suc, ◌+◌, ◌-◌, ◌*◌, ◌/◌, ◌%◌, eqb, leb, ltb, get_or, replicate}
use Rattle.std.proofs.Math.Option.{Option, some, none}
use Rattle.lists.specs.Lists.{all, all_at, neighbours}
use Rattle.calendar.specs.declared.Years.{Years}
use Rattle.calendar.specs.Dates.{is_winter, all_winter_dates, all_dates}
use Rattle.calendar.specs.Places.{has_date, has_winter_date, month_of}
use Rattle.calendar.specs.Spans.{among, history_years, axis_years, year_at, place_at}
use Rattle.note.specs.Coefficients.{ca_of}
use Rattle.meaning.specs.Filing.{Meter, Site, no_site, Reading, Filing}
use Rattle.meaning.specs.Line.{Tag, S, C, X, D, P, B, R, E, other, rank, is, is_meter, is_kind, most_power, most_index, most_profile, most_daily}
use Rattle.meaning.specs.Refusals.{Before, is_too_soon, most_readings}
use Rattle.meaning.specs.File.{is_index_meter}
use Rattle.meaning.specs.Blocks.{Blocks, missing_point, row_size, point_of_code, code_at, slots_start, slot_at, readings_of}

-- ---- fields
-- an opening opens the record; a refused line or close marks it refused, a close that reports marks it closed
pub data State : Type 0 where
  unopened : State
  open_state : State
  refused_state : State
  closed_state : State

abbrev pub is_open : State → Bool
is_open unopened = false
is_open open_state = true
is_open refused_state = false
is_open closed_state = false

-- the last date of C, X, D, P as date_key has it, the last year of B, R; 0 for none
pub record LastDates : Type 0 where
  pub c : ℕ
  pub x : ℕ
  pub d : ℕ
  pub p : ℕ
  pub b : ℕ
  pub r : ℕ

abbrev pub last_of : LastDates → Tag → ℕ
last_of k S = 0
last_of k C = k.c
last_of k X = k.x
last_of k D = k.d
last_of k P = k.p
last_of k B = k.b
last_of k R = k.r
last_of k E = 0
last_of k other = 0

-- by year: P dates, breaks (0 no, 1 yes) and rates (0 for none) from the oldest history year, D dates from the first axis year
pub record Tallies : Type 0 where
  pub profile_dates : List ℕ
  pub daily_dates : List ℕ
  pub breaks : List ℕ
  pub rates : List ℕ

pub record Rec : Type 0 where
  pub state : State
  -- lines taken so far
  pub count : ℕ
  -- the rank of the last tag, 0 for none
  pub last : ℕ
  pub site : Site
  pub readings : ℕ
  pub last_index : ℕ
  pub lasts : LastDates
  pub tallies : Tallies

-- a record in another state and with another count
unfoldable pub in_state : State → ℕ → Rec → Rec
in_state st n s =
    record { state = st; count = n; last = s.last; site = s.site; readings = s.readings; last_index = s.last_index; lasts = s.lasts; tallies = s.tallies }

unfoldable pub empty_rec : State → Rec
empty_rec st = record {
  state = st;
  count = 0;
  last = 0;
  site = no_site;
  readings = 0;
  last_index = 0;
  lasts = record { c = 0; x = 0; d = 0; p = 0; b = 0; r = 0 };
  tallies = record { profile_dates = replicate 10 0; daily_dates = replicate 12 0; breaks = replicate 10 0; rates = replicate 10 0 };
}

unfoldable pub never_opened : Rec
never_opened = empty_rec unopened

unfoldable pub fresh_rec : Rec
fresh_rec = empty_rec open_state

-- ---- spans: no year until S is taken, whatever AL holds
unfoldable pub is_taken : Rec → Bool
is_taken s = not (eqb s.last 0)

-- the site that S gave
unfoldable pub site_of_rec : Rec → Site
site_of_rec s = cond (is_taken s) s.site no_site

unfoldable pub history_of_site : Site → Years
history_of_site t = history_years t.al t.filiere

unfoldable pub history_of_rec : Rec → Years
history_of_rec s = history_of_site (site_of_rec s)

unfoldable pub axis_of_rec : Rec → Years
axis_of_rec s = axis_years (history_of_rec s)

-- ---- ranges
unfoldable pub is_within : ℕ → ℕ → ℕ → Bool
is_within a b n = leb a n && leb n b

unfoldable pub meter_fits : Bool → Meter → Bool
meter_fits true m = is_meter m
meter_fits false m = not (is_meter m)

-- AL, filière and PS have their ranges of S; until S is taken they may be 0, and there is no meter
unfoldable pub site_fits : Bool → Site → Bool
site_fits taken t =
    ((not taken && eqb t.al 0) || is_within 2021 2026 t.al)
    && (((not taken && eqb t.filiere 0) || is_within 1 11 t.filiere)
    && (((not taken && eqb t.ps 0) || is_within 1 most_power t.ps) && meter_fits taken t.meter))

-- none, or a date that the tag can take
unfoldable pub date_fits : Years → Bool → ℕ → Bool
date_fits span winter k =
    eqb k 0 || (among span (k / 366) && (has_date (k / 366) (k % 366) && (not winter || is_winter (month_of (k % 366)))))

-- none, or a year that the tag can take
unfoldable pub year_fits : Years → ℕ → Bool
year_fits span k = eqb k 0 || among span k

unfoldable pub last_dates_fit : Years → LastDates → Bool
last_dates_fit h k =
    date_fits h true k.c && (date_fits (axis_years h) false k.x && (date_fits (axis_years h) false k.d
    && (date_fits h true k.p && (year_fits h k.b && year_fits h k.r))))

-- each year's number in its range; 0 for years that the file does not have
unfoldable pub each_year : Years → (ℕ → ℕ → Bool) → List ℕ → Bool
each_year span fits = all_at (λ k n. cond (ltb k span.count) (fits (span.first + k) n) (eqb n 0)) 0

unfoldable pub tallies_fit : Years → Tallies → Bool
tallies_fit h t =
    each_year h (λ y n. leb n (all_winter_dates y)) t.profile_dates
    && (each_year (axis_years h) (λ y n. leb n (all_dates y)) t.daily_dates
    && (each_year h (λ y n. leb n 1) t.breaks && each_year h (λ y n. eqb n 0 || is_within 10 1000 n) t.rates))

-- 1: every number within its field's range, and AL and filière do not meet 9
unfoldable pub rec_fits : Rec → Bool
rec_fits s =
    (leb s.count 9999 && leb s.last 8)
    && ((site_fits (is_taken s) s.site && not (is_too_soon s.site.al s.site.filiere))
    && ((leb s.readings most_readings && leb s.last_index most_index)
    && (last_dates_fit (history_of_rec s) s.lasts && tallies_fit (history_of_rec s) s.tallies)))

-- ---- 1 at the close: what the blocks hold
unfoldable pub is_dated : Years → ℕ → ℕ → Bool
is_dated h y w = among h y && has_winter_date y w

-- at a place with a date of the file's years what the tag can take, else fresh
unfoldable pub point_fits : Bool → ℕ → Bool
point_fits dated v = eqb v missing_point || (dated && leb v most_power)

unfoldable pub points_fit : Years → ℕ → List ℕ → Bool
points_fit h first = all_at (λ i v. point_fits (is_dated h (first + i / row_size) (i % row_size / 20)) v) 0

unfoldable pub slots_fit : Years → List ℕ → Bool
slots_fit h = all_at (λ i v. eqb v 0 || (is_dated h (h.first + i / row_size) (i % row_size / 20) && leb v most_profile)) 0

unfoldable pub daily_fits : Years → List ℕ → Bool
daily_fits axis = all_at (λ i v. eqb v 0 || (among axis (year_at axis i) && has_date (year_at axis i) (place_at i) && leb v most_daily)) 0

-- a counted reading: its position is that of a date of an axis year, its index and kind are X's; positions rise, and no index falls
unfoldable pub reading_fits : Years → Reading → Bool
reading_fits axis r =
    (among axis (year_at axis r.position) && has_date (year_at axis r.position) (place_at r.position))
    && (leb r.index most_index && is_kind r.kind)

unfoldable pub readings_fit : Years → List Reading → Bool
readings_fit axis rs =
    all (reading_fits axis) rs && all (λ (p : Reading × Reading). ltb p.0.position p.1.position && leb p.0.index p.1.index) (neighbours rs)

unfoldable pub contents_fit : Rec → Blocks → Bool
contents_fit s w =
    (points_fit (history_of_rec s) (s.site.al - 9) w.near && points_fit (history_of_rec s) (s.site.al - 14) w.far)
    && ((slots_fit (history_of_rec s) w.slots && daily_fits (axis_of_rec s) w.daily) && readings_fit (axis_of_rec s) (readings_of w s.readings))

-- ---- what a line is checked against, as the record has it
unfoldable pub misplaced_by : ℕ → Meter → Tag → Bool
misplaced_by zero m t = not (is S t)
misplaced_by (suc n) m t = (ltb (rank t) (suc n) || (is S t || eqb 8 (suc n))) || (is C t && is_index_meter m)

unfoldable pub not_later_by : LastDates → Tag → ℕ → Bool
not_later_by k t d = not (eqb (last_of k t) 0) && leb d (last_of k t)

unfoldable pub before_of : Rec → Before
before_of s = record {
  misplaced = misplaced_by s.last s.site.meter;
  history = history_of_rec s;
  not_later = not_later_by s.lasts;
  last_index = s.last_index;
  readings = s.readings;
  lines = s.count;
}

-- ---- the filing that record and blocks hold
unfoldable pub point_held : Site → Blocks → ℕ → ℕ → ℕ → Option ℕ
point_held t b y w h = cond (among (history_of_site t) y && (ltb w 152 && ltb h 20)) (point_of_code (code_at t.al b y w h)) none

unfoldable pub profile_held : Years → Blocks → ℕ → ℕ → ℕ → ℕ
profile_held span b y w h = cond (among span y && (ltb w 152 && ltb h 20)) (get_or b.slots (slots_start span.first y + slot_at w h) 0) 0

unfoldable pub daily_held : Years → Blocks → ℕ → ℕ → ℕ
daily_held axis b y p = cond (among axis y && ltb p 366) (get_or b.daily (366 * (y - axis.first) + p) 0) 0

-- a year's number in a list by year
unfoldable pub by_year : Years → List ℕ → ℕ → ℕ
by_year span ns y = cond (among span y) (get_or ns (y - span.first) 0) 0

unfoldable pub rate_of_code : ℕ → Option ℕ
rate_of_code n = cond (eqb n 0) none (some n)

-- of a site, the number of readings, the tallies, whether E was taken, and the blocks
unfoldable pub filing_held : Site → ℕ → Tallies → Bool → Blocks → Filing
filing_held t n k e b = record {
  site = t;
  point = point_held t b;
  profile = profile_held (history_of_site t) b;
  daily = daily_held (axis_years (history_of_site t)) b;
  readings = readings_of b n;
  broken = λ y. not (eqb (by_year (history_of_site t) k.breaks y) 0);
  rate = λ y. rate_of_code (by_year (history_of_site t) k.rates y);
  profile_dates = by_year (history_of_site t) k.profile_dates;
  daily_dates = by_year (axis_years (history_of_site t)) k.daily_dates;
  ended = e;
  ca = λ y. ca_of y t.filiere;
}

unfoldable pub filing_of : Rec → Blocks → Filing
filing_of s b = filing_held (site_of_rec s) s.readings s.tallies (eqb s.last 8) b
