-- The ranges of 1, in words: the record's fields, and at the close what the blocks hold (document 01, Stops that come from the input; Calls).
use Rattle.std.specs.Prelude.{◌≡◌, ◌≢◌, ◌↔◌, ◌⊎◌, List, ℕ, ◌+◌, ◌-◌, ◌*◌, ◌≤◌, ◌<◌, T, length, get_or}
use Rattle.calendar.specs.Places.{date_place, winter_place}
use Rattle.meaning.specs.Filing.{no_meter, curve_meter, index_meter, Reading, real, corrected, estimated}
use Rattle.meaning.specs.Blocks.{Blocks, sizes_fit, fresh_reading}
use Rattle.meaning.specs.Record.{Rec, rec_fits, contents_fit}
use Rattle.meaning.specs.Restated.Dates.{Leap, Date, Winter, HistoryYear, AxisYear}

abbrev pub Within : ℕ → ℕ → ℕ → Type 0
Within a b n = (a ≤ n) × (n ≤ b)

-- ---- the file's years: none until S is taken
abbrev pub Taken : Rec → Type 0
Taken s = s.last ≢ 0

abbrev pub FileYear : Rec → ℕ → Type 0
FileYear s y = Taken s × HistoryYear s.site.al s.site.filiere y

abbrev pub FileAxisYear : Rec → ℕ → Type 0
FileAxisYear s y = Taken s × AxisYear s.site.al s.site.filiere y

-- the year that comes so many years after the oldest of some
abbrev pub YearAt : (ℕ → Type 0) → ℕ → ℕ → Type 0
YearAt Is i y = Is y × ((o : ℕ) × Is o × ((z : ℕ) → Is z → o ≤ z) × (y ≡ o + i))

-- ---- dates
-- some date of some years, winter or not, has this number: 366 a year and its date place
abbrev pub SomeDate : (ℕ → Type 0) → ℕ → Type 0
SomeDate Is k = (y : ℕ) × (m : ℕ) × (d : ℕ) × Is y × Date y m d × (k ≡ 366 * y + date_place m d)

abbrev pub SomeWinterDate : (ℕ → Type 0) → ℕ → Type 0
SomeWinterDate Is k = (y : ℕ) × (m : ℕ) × (d : ℕ) × Is y × Date y m d × Winter m × (k ≡ 366 * y + date_place m d)

-- a year has a date at a date place, or at a winter place
abbrev pub DateAt : ℕ → ℕ → Type 0
DateAt y p = (m : ℕ) × (d : ℕ) × Date y m d × (date_place m d ≡ p)

abbrev pub WinterDateAt : ℕ → ℕ → Type 0
WinterDateAt y w = (m : ℕ) × (d : ℕ) × Date y m d × Winter m × (winter_place m d ≡ w)

-- ---- numbers by year
-- each is in its year's range, and 0 where there is no such year
abbrev pub ByYear : (ℕ → Type 0) → (ℕ → ℕ → Type 0) → List ℕ → Type 0
ByYear Is Fits ns =
    (i : ℕ) → i < length ns
    → ((y : ℕ) × YearAt Is i y × Fits y (get_or ns i 0)) ⊎ ((¬ ((y : ℕ) × YearAt Is i y)) × (get_or ns i 0 ≡ 0))

-- at most so many in a leap year, and so many in any other
abbrev pub UpTo : ℕ → ℕ → ℕ → ℕ → Type 0
UpTo in_leap otherwise y n = (Leap y × (n ≤ in_leap)) ⊎ ((¬ Leap y) × (n ≤ otherwise))

-- ---- the record
pub record RecordFits (s : Rec) : Type 0 where
  pub count : s.count ≤ 9999
  pub last : s.last ≤ 8
  -- until S is taken AL, filière and PS may be 0, and there is no meter
  pub al : ((¬ Taken s) × (s.site.al ≡ 0)) ⊎ Within 2021 2026 s.site.al
  pub filiere : ((¬ Taken s) × (s.site.filiere ≡ 0)) ⊎ Within 1 11 s.site.filiere
  pub ps : ((¬ Taken s) × (s.site.ps ≡ 0)) ⊎ Within 1 100000000 s.site.ps
  pub meter : (Taken s × ((s.site.meter ≡ curve_meter) ⊎ (s.site.meter ≡ index_meter))) ⊎ ((¬ Taken s) × (s.site.meter ≡ no_meter))
  -- 9
  pub soon : ¬ ((6 ≤ s.site.filiere) × (s.site.al < 2023))
  pub readings : s.readings ≤ 600
  pub last_index : s.last_index ≤ 1000000000000
  -- the last of each tag: none, or a date or year that the tag takes
  pub c : (s.lasts.c ≡ 0) ⊎ SomeWinterDate (FileYear s) s.lasts.c
  pub x : (s.lasts.x ≡ 0) ⊎ SomeDate (FileAxisYear s) s.lasts.x
  pub d : (s.lasts.d ≡ 0) ⊎ SomeDate (FileAxisYear s) s.lasts.d
  pub p : (s.lasts.p ≡ 0) ⊎ SomeWinterDate (FileYear s) s.lasts.p
  pub b : (s.lasts.b ≡ 0) ⊎ FileYear s s.lasts.b
  pub r : (s.lasts.r ≡ 0) ⊎ FileYear s s.lasts.r
  pub profile_dates : ByYear (FileYear s) (UpTo 152 151) s.tallies.profile_dates
  pub daily_dates : ByYear (FileAxisYear s) (UpTo 366 365) s.tallies.daily_dates
  pub breaks : ByYear (FileYear s) (λ y n. n ≤ 1) s.tallies.breaks
  pub rates : ByYear (FileYear s) (λ y n. (n ≡ 0) ⊎ Within 10 1000 n) s.tallies.rates

-- ---- the blocks
-- rows of 152 winter places of 20 half-hours: the k-th row's value at a place
abbrev pub row_value : List ℕ → ℕ → ℕ → ℕ → ℕ → ℕ
row_value b fresh k w h = get_or b (3040 * k + (20 * w + h)) fresh

-- missing, or at most 100,000,000 W at a date of the file's years; rows run from a first year
abbrev pub PointsFit : Rec → ℕ → List ℕ → Type 0
PointsFit s first b =
    (k w h : ℕ) → w < 152 → h < 20 → 3040 * k + (20 * w + h) < length b
    → (row_value b 4294967295 k w h ≡ 4294967295)
    ⊎ (FileYear s (first + k) × WinterDateAt (first + k) w × (row_value b 4294967295 k w h ≤ 100000000))

-- 0, or at most 65,535 at a date of the file's years, from the oldest
abbrev pub SlotsFit : Rec → List ℕ → Type 0
SlotsFit s b =
    (k w h : ℕ) → w < 152 → h < 20 → 3040 * k + (20 * w + h) < length b
    → (row_value b 0 k w h ≡ 0) ⊎ (((y : ℕ) × YearAt (FileYear s) k y × WinterDateAt y w) × (row_value b 0 k w h ≤ 65535))

-- a position is that of a date of an axis year: 366 date places a year from the first
abbrev pub OnAxis : Rec → ℕ → ℕ → Type 0
OnAxis s k p = (y : ℕ) × YearAt (FileAxisYear s) k y × DateAt y p

-- 0, or at most 3,145,680 at a date of the axis
abbrev pub DailyFits : Rec → List ℕ → Type 0
DailyFits s b =
    (k p : ℕ) → p < 366 → 366 * k + p < length b → (get_or b (366 * k + p) 0 ≡ 0) ⊎ (OnAxis s k p × (get_or b (366 * k + p) 0 ≤ 3145680))

pub record CountedFits (s : Rec) (r : Reading) : Type 0 where
  pub position : (k : ℕ) × (p : ℕ) × (r.position ≡ 366 * k + p) × OnAxis s k p
  pub index : r.index ≤ 1000000000000
  pub kind : (r.kind ≡ real) ⊎ (r.kind ≡ corrected) ⊎ (r.kind ≡ estimated)

pub record HeldFits (s : Rec) (w : Blocks) : Type 0 where
  -- near rows run from AL-9, far rows from AL-14
  pub near : PointsFit s (s.site.al - 9) w.near
  pub far : PointsFit s (s.site.al - 14) w.far
  pub slots : SlotsFit s w.slots
  pub daily : DailyFits s w.daily
  pub counted : (i : ℕ) → i < s.readings → CountedFits s (get_or w.readings i fresh_reading)
  -- 8 and 10: dates rise, and no index falls
  pub rising : (i : ℕ) → i + 1 < s.readings → (get_or w.readings i fresh_reading).position < (get_or w.readings (i + 1) fresh_reading).position
  pub unfalling : (i : ℕ) → i + 1 < s.readings → (get_or w.readings i fresh_reading).index ≤ (get_or w.readings (i + 1) fresh_reading).index

-- 15,200 points near and far, 30,400 slot profiles, 4,392 daily profiles, 600 readings, 4,400 places of the curve
pub record SizesFit (w : Blocks) : Type 0 where
  pub near : length w.near ≡ 15200
  pub far : length w.far ≡ 15200
  pub slots : length w.slots ≡ 30400
  pub daily : length w.daily ≡ 4392
  pub readings : length w.readings ≡ 600
  pub curve : length w.curve ≡ 4400

pub record RangeWords : Type 0 where
  pub sizes : (w : Blocks) → T (sizes_fit w) ↔ SizesFit w
  pub fields : (s : Rec) → T (rec_fits s) ↔ RecordFits s
  pub contents : (s : Rec) (w : Blocks) → T (contents_fit s w) ↔ HeldFits s w
