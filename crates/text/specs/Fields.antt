-- The fields of a line, which is a list of bytes: the parts between its tabs (document 01, Calls and the lines of a file).
use Rattle.std.specs.Prelude.{Bool, true, false, ◌&&◌, ◌||◌, not, cond, List, [], ◌∷◌, ℕ, zero, suc, eqb, ltb}

-- a byte other than tab and 32 to 126
unfoldable pub is_invalid : ℕ → Bool
is_invalid b = not (eqb b 9) && (ltb b 32 || ltb 126 b)

-- the bytes before the first tab: all where there is no tab
unfoldable pub up_to : List ℕ → List ℕ
up_to [] = []
up_to (x ∷ l) = cond (eqb x 9) [] (x ∷ up_to l)

-- the bytes past the first tab: none where there is no tab
unfoldable pub past : List ℕ → List ℕ
past [] = []
past (x ∷ l) = cond (eqb x 9) l (past l)

-- how many tabs
unfoldable pub tabs : List ℕ → ℕ
tabs [] = 0
tabs (x ∷ l) = cond (eqb x 9) (suc (tabs l)) (tabs l)

-- what is left past n tabs
unfoldable pub rest_at : List ℕ → ℕ → List ℕ
rest_at l zero = l
rest_at l (suc n) = rest_at (past l) n

-- the n-th field, from 0
unfoldable pub field_at : List ℕ → ℕ → List ℕ
field_at l n = up_to (rest_at l n)

-- a field that reads as a fixed text
unfoldable pub reads : List ℕ → List ℕ → Bool
reads [] [] = true
reads [] (y ∷ ys) = false
reads (x ∷ xs) [] = false
reads (x ∷ xs) (y ∷ ys) = eqb x y && reads xs ys

-- the edition's text, CF_96E/11
unfoldable pub edition : List ℕ
edition = 67 ∷ 70 ∷ 95 ∷ 57 ∷ 54 ∷ 69 ∷ 47 ∷ 49 ∷ 49 ∷ []
