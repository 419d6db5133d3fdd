-- Years, dates and winter, in words (document 01, Words).
use Rattle.std.specs.Prelude.{◌≡◌, ◌⊎◌, ◌↔◌, List, [], ◌∷◌, ℕ, ◌+◌, ◌%◌, ◌≤◌, T}
use Rattle.lists.specs.Lists.{Some}
use Rattle.calendar.specs.Dates.{is_date, is_winter}
use Rattle.calendar.specs.Spans.{among, history_years, axis_years}

-- a number is one of these
abbrev pub OneOf : List ℕ → ℕ → Type 0
OneOf ns n = Some (λ k. n ≡ k) ns

abbrev pub Winter : ℕ → Type 0
Winter m = OneOf (1 ∷ 2 ∷ 3 ∷ 11 ∷ 12 ∷ []) m

abbrev pub Leap : ℕ → Type 0
Leap y = (y % 4 ≡ 0) × ((¬ (y % 100 ≡ 0)) ⊎ (y % 400 ≡ 0))

-- seven months have 31 days, four 30, February 28, or 29 in a leap year
abbrev pub Date : ℕ → ℕ → ℕ → Type 0
Date y m d =
    (1 ≤ d)
    × ((OneOf (1 ∷ 3 ∷ 5 ∷ 7 ∷ 8 ∷ 10 ∷ 12 ∷ []) m × (d ≤ 31))
    ⊎ (OneOf (4 ∷ 6 ∷ 9 ∷ 11 ∷ []) m × (d ≤ 30))
    ⊎ ((m ≡ 2) × ((d ≤ 28) ⊎ (Leap y × (d ≤ 29)))))

-- AL-9 to AL-5, for filières 4 and 5 AL-14 to AL-5, of an AL and a filière that document 01 knows
abbrev pub HistoryYear : ℕ → ℕ → ℕ → Type 0
HistoryYear al f y =
    ((2021 ≤ al) × (al ≤ 2026) × (1 ≤ f) × (f ≤ 11)) × ((y + 5 ≤ al) × ((al ≤ y + 9) ⊎ (OneOf (4 ∷ 5 ∷ []) f × (al ≤ y + 14))))

-- the year itself, the one after or the one before is a history year
abbrev pub AxisYear : ℕ → ℕ → ℕ → Type 0
AxisYear al f y = HistoryYear al f y ⊎ HistoryYear al f (y + 1) ⊎ ((z : ℕ) × (y ≡ z + 1) × HistoryYear al f z)

pub record DateWords : Type 0 where
  pub winter : (m : ℕ) → T (is_winter m) ↔ Winter m
  pub date : (y m d : ℕ) → T (is_date y m d) ↔ Date y m d
  pub history : (al f y : ℕ) → T (among (history_years al f) y) ↔ HistoryYear al f y
  pub axis : (al f y : ℕ) → T (among (axis_years (history_years al f)) y) ↔ AxisYear al f y
