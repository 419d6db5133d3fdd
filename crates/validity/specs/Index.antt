-- Whether the index of a history year is valid, from the columns of readings (document 01, Validity).
use Rattle.std.specs.Prelude.{Bool, not, ◌&&◌, ◌||◌, List, ℕ, ◌+◌, ◌-◌, leb, ltb, get_or}
use Rattle.lists.specs.Lists.{all, range}
use Rattle.validity.specs.Columns.{interval_start, interval_end, year_start, meets_winter, is_trusted_at}

-- readings rise: the first is on or before the 1 January at s, and the last on or after the next one
unfoldable pub covers_year : List ℕ → ℕ → ℕ → Bool
covers_year ps n s = ltb 0 n && (leb (get_or ps 0 0) s && leb (s + 366) (get_or ps (n - 1) 0))

-- an interval with a winter day of the year has both ends real or corrected
unfoldable pub is_sound_at : List ℕ → List ℕ → ℕ → ℕ → Bool
is_sound_at ps ks s i = not (meets_winter s (interval_start ps i) (interval_end ps i)) || (is_trusted_at ks i && is_trusted_at ks (i + 1))

unfoldable pub is_sound_year : List ℕ → List ℕ → ℕ → ℕ → Bool
is_sound_year ps ks n s = all (is_sound_at ps ks s) (range 0 (n - 1))

unfoldable pub valid_index : List ℕ → List ℕ → ℕ → ℕ → Bool → Bool
valid_index ps ks n k broken = not broken && (covers_year ps n (year_start k) && is_sound_year ps ks n (year_start k))
