-- Text put into lent bytes: all of it, or nothing where it does not fit.
use Rattle.std.specs.Prelude.{cond, List, ◌++◌, ℕ, ◌+◌, leb, length, take, drop}

-- the bytes w with the text s from place a on
unfoldable pub written : List ℕ → ℕ → List ℕ → List ℕ
written w a s = cond (leb (a + length s) (length w)) (take a w ++ (s ++ drop (a + length s) w)) w

-- the place after the text s that is put into the bytes w from place a on
unfoldable pub place_after : List ℕ → ℕ → List ℕ → ℕ
place_after w a s = cond (leb (a + length s) (length w)) (a + length s) a
