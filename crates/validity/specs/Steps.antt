-- What the functions over the intervals promise each other.
use Rattle.std.specs.Prelude.{cond, List, ◌++◌, ℕ, ◌-◌, eqb, get_or, take, drop, replicate}

-- the position of the first reading; after the axis where there is none
unfoldable pub first_place : List ℕ → ℕ → ℕ
first_place ps n = cond (eqb n 0) 4392 (get_or ps 0 0)

-- a list with v written at the places from a to the one before b
unfoldable pub filled : {A : Type 0} → List A → ℕ → ℕ → A → List A
filled xs a b v = take a xs ++ (replicate (b - a) v ++ drop b xs)
