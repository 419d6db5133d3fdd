-- Numbers in a field: base-ten digits, no sign, no leading zero but in 0 (document 01, Calls and the lines of a file).
use Rattle.std.specs.Prelude.{Option, Bool, ◌&&◌, ◌||◌, not, List, [], ◌∷◌, ℕ, ◌+◌, ◌-◌, ◌*◌, min, eqb, leb, length, get_or}
use Rattle.std.specs.Bool.{then_some}
use Rattle.lists.specs.Lists.{all}

unfoldable pub is_digit : ℕ → Bool
is_digit b = leb 48 b && leb b 57

-- one digit or more, and one alone or no zero in front
unfoldable pub is_number : List ℕ → Bool
is_number f = not (eqb (length f) 0) && (all is_digit f && (eqb (length f) 1 || not (eqb (get_or f 0 0) 48)))

-- the number of the digits f, after those that make v
unfoldable pub value_from : ℕ → List ℕ → ℕ
value_from v [] = v
value_from v (b ∷ f) = value_from (v * 10 + (b - 48)) f

-- the number that digits denote, however many there are
unfoldable pub value_of : List ℕ → ℕ
value_of f = value_from 0 f

-- the cap: it stands for every number from there on, and is above each range that a field has
abbrev pub most : ℕ
most = 1_000_000_000_000_000_000

-- the number of a field, capped; none where it is no number
unfoldable pub number_in : List ℕ → Option ℕ
number_in f = then_some (is_number f) (min (value_of f) most)

-- the field `-`, a missing value
unfoldable pub is_dash : List ℕ → Bool
is_dash f = eqb (length f) 1 && eqb (get_or f 0 0) 45
