-- Which history years have a valid curve and which a valid index, from blocks and columns (document 01, Validity).
use Rattle.std.specs.Prelude.{Bool, false, not, List, ℕ, ◌+◌, eqb, get_or}
use Rattle.calendar.specs.declared.Years.{Years}
use Rattle.blocks.specs.Rows.{row_of}
use Rattle.validity.specs.Availability.{valid_row}
use Rattle.validity.specs.Index.{valid_index}
use Rattle.history.specs.Years.{by_history}
use Rattle.history.specs.declared.ValidYears.{ValidYears}

-- a break is declared in the k-th year: the record has 0 for none
unfoldable pub is_broken : List ℕ → ℕ → Bool
is_broken breaks k = not (eqb (get_or breaks k 0) 0)

-- whether the k-th year has a valid curve, and whether it has a valid index
unfoldable pub valid_curve_at : ℕ → ℕ → List ℕ → List ℕ → List ℕ → ℕ → Bool
valid_curve_at al first near far breaks k = valid_row (row_of al near far (first + k)) (first + k) (is_broken breaks k)

unfoldable pub valid_index_at : List ℕ → List ℕ → ℕ → List ℕ → ℕ → Bool
valid_index_at ps ks n breaks k = valid_index ps ks n k (is_broken breaks k)

-- the same by history year
unfoldable pub valid_curves : ℕ → Years → List ℕ → List ℕ → List ℕ → List Bool
valid_curves al history near far breaks = by_history history.count false (valid_curve_at al history.first near far breaks)

unfoldable pub valid_indexes : List ℕ → List ℕ → ℕ → ℕ → List ℕ → List Bool
valid_indexes ps ks n years breaks = by_history years false (valid_index_at ps ks n breaks)

-- both together
unfoldable pub valid_years : ℕ → Years → List ℕ → List ℕ → List ℕ → List ℕ → List ℕ → ℕ → ValidYears
valid_years al history breaks near far ps ks n = record { curves = valid_curves al history near far breaks; indexes = valid_indexes ps ks n history.count breaks }
