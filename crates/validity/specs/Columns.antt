-- The counted readings as columns: n readings make n - 1 intervals, the i-th from reading i to the next (document 01, Validity).
use Rattle.std.specs.Prelude.{Bool, ◌&&◌, ◌||◌, List, ℕ, ◌+◌, ◌*◌, ◌≤◌, ◌<◌, ltb, length, get_or}
use Rattle.meaning.specs.Filing.{is_trusted}
use Rattle.meaning.specs.Line.{kind_of_letter}

-- the i-th interval has the days from its start to the one before its end
abbrev pub interval_start : List ℕ → ℕ → ℕ
interval_start ps i = get_or ps i 0

abbrev pub interval_end : List ℕ → ℕ → ℕ
interval_end ps i = get_or ps (i + 1) 0

-- the 1 January of the k-th history year, which is year k + 1 of the axis
abbrev pub year_start : ℕ → ℕ
year_start k = 366 * (k + 1)

-- one of the days from a to the one before b is in January to March or November to December of the year whose 1 January is s
unfoldable pub meets_winter : ℕ → ℕ → ℕ → Bool
meets_winter s a b = (ltb a (s + 91) && ltb s b) || (ltb a (s + 366) && ltb (s + 305) b)

-- a reading is real or corrected
unfoldable pub is_trusted_at : List ℕ → ℕ → Bool
is_trusted_at ks i = is_trusted (kind_of_letter (get_or ks i 69))

-- what 1 has checked of the positions: they are on an axis of twelve years, and rise
pub record Rising (ps : List ℕ) (n : ℕ) : Type 0 where
  pub held : n ≤ length ps
  pub below : (i : ℕ) → i < n → get_or ps i 0 < 4392
  pub rises : (i : ℕ) → i + 1 < n → interval_start ps i < interval_end ps i

-- what 1 has checked of the indexes: they never fall
pub record NonDecreasing (xs : List ℕ) (n : ℕ) : Type 0 where
  pub held : n ≤ length xs
  pub climbs : (i : ℕ) → i + 1 < n → interval_start xs i ≤ interval_end xs i
