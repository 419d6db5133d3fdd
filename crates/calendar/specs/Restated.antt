-- One date before another, in words.
use Rattle.std.specs.Prelude.{◌≡◌, ◌⊎◌, ℕ, ◌<◌}

-- the m-th month's day d comes before the n-th month's day e
abbrev pub EarlierDay : ℕ → ℕ → ℕ → ℕ → Type 0
EarlierDay m d n e = (m < n) ⊎ ((m ≡ n) × (d < e))

-- the same of two dates with their years
abbrev pub EarlierDate : ℕ → ℕ → ℕ → ℕ → ℕ → ℕ → Type 0
EarlierDate y m d z n e = (y < z) ⊎ ((y ≡ z) × EarlierDay m d n e)
