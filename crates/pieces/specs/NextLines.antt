-- The next line of a piece (document 01, The printed sheet).
use Rattle.std.specs.Prelude.{◌≡◌, Bool, true, ◌||◌, List, ℕ, ◌+◌, min, ltb, length, take, drop}
use Rattle.meaning.specs.Line.{Line}
use Rattle.pieces.specs.Run.{most_bytes}
use Rattle.pieces.specs.Parts.{end_at}

-- of what is left of a piece: how much can be the next line's; how many bytes that line has
abbrev pub limit_in : List ℕ → ℕ
limit_in bs = min (most_bytes + 1) (length bs)

abbrev pub bytes_in : List ℕ → ℕ
bytes_in bs = end_at (take (limit_in bs) bs)

-- the line is whole once it has its byte 10 or its 321st byte
abbrev pub has_line : List ℕ → Bool
has_line bs = ltb (bytes_in bs) (limit_in bs) || ltb most_bytes (bytes_in bs)

-- it is whole, these are its bytes, and this is what follows it
pub record IsNext (line : Line) (rest bs : List ℕ) : Type 0 where
  pub whole : has_line bs ≡ true
  pub bytes : line ≡ take (bytes_in bs) bs
  pub after : rest ≡ drop (min (bytes_in bs + 1) (limit_in bs)) bs
