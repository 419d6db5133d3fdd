-- The history and axis years of an AL and a filière, and positions on the axis (document 01, Words; note, 2.1 and annex 3).
use Rattle.std.specs.Prelude.{Bool, ◌&&◌, ◌||◌, cond, ℕ, ◌+◌, ◌-◌, ◌*◌, ◌/◌, ◌%◌, eqb, leb, ltb}
use Rattle.calendar.specs.Places.{date_place}
use Rattle.calendar.specs.declared.Years.{Years}

-- some consecutive years
abbrev pub years : ℕ → ℕ → Years
years f n = record { first = f; count = n }

unfoldable pub among : Years → ℕ → Bool
among s y = leb s.first y && ltb y (s.first + s.count)

-- the number of history years (annex 3): 10 for run of river and pondage hydro
unfoldable pub history_length : ℕ → ℕ
history_length f = cond (eqb f 4 || eqb f 5) 10 5

-- an AL and a filière that document 01 knows
unfoldable pub is_known : ℕ → ℕ → Bool
is_known al f = (leb 2021 al && leb al 2026) && (leb 1 f && leb f 11)

-- AL-9 to AL-5, for filières 4 and 5 AL-14 to AL-5; no year where AL or filière is not known
unfoldable pub history_years : ℕ → ℕ → Years
history_years al f = cond (is_known al f) (years (al - (history_length f + 4)) (history_length f)) (years 0 0)

-- one year before and one after; no year around no year
unfoldable pub axis_years : Years → Years
axis_years h = cond (eqb h.count 0) (years 0 0) (years (h.first - 1) (h.count + 2))

-- a position is a place in the daily block: 366 date places a year from the first axis year
unfoldable pub position_of : Years → ℕ → ℕ → ℕ → ℕ
position_of axis y m d = 366 * (y - axis.first) + date_place m d

unfoldable pub year_at : Years → ℕ → ℕ
year_at axis p = axis.first + p / 366

unfoldable pub place_at : ℕ → ℕ
place_at p = p % 366
