-- Readings as columns of positions, counts and letters of kinds, and what columns say of a lent list (document 01, Calls).
use Rattle.std.specs.Prelude.{◌≡◌, List, ℕ, length, get_or}
use Rattle.lists.specs.Lists.{tab}
use Rattle.meaning.specs.Filing.{Reading, reading}
use Rattle.meaning.specs.Line.{kind_of_letter}
use Rattle.meaning.specs.Blocks.{Blocks, readings_size, readings_of}

-- the reading at a place of three columns
abbrev pub reading_in : List ℕ → List ℕ → List ℕ → ℕ → Reading
reading_in ps xs ks i = reading (get_or ps i 0) (get_or xs i 0) (kind_of_letter (get_or ks i 69))

-- the first n of them
unfoldable pub readings_in : List ℕ → List ℕ → List ℕ → ℕ → List Reading
readings_in ps xs ks n = tab n 0 (reading_in ps xs ks)

-- the lent lists
abbrev pub lent_blocks : List ℕ → List ℕ → List ℕ → List ℕ → List Reading → List ℕ → Blocks
lent_blocks near far slots daily readings curve = record { near = near; far = far; slots = slots; daily = daily; readings = readings; curve = curve }

-- the same, of 600 readings in columns
abbrev pub lent_blocks_in : List ℕ → List ℕ → List ℕ → List ℕ → List ℕ → List ℕ → List ℕ → List ℕ → Blocks
lent_blocks_in near far slots daily ps xs ks curve = lent_blocks near far slots daily (readings_in ps xs ks readings_size) curve

-- the first n readings of the lent list are those of three columns of 600
pub record Columned (w : Blocks) (n : ℕ) (ps xs ks : List ℕ) : Type 0 where
  pub positions : length ps ≡ readings_size
  pub indexes : length xs ≡ readings_size
  pub kinds : length ks ≡ readings_size
  pub read : readings_of w n ≡ readings_in ps xs ks n
