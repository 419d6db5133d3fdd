-- A run that is fed what a reader gives (document 01, The printed sheet).
use Rattle.std.specs.Prelude.{◌≡◌, true, false, List, [], ◌++◌, ℕ, ◌≤◌, ◌⊎◌, Option, length}
use Rattle.std.specs.Io.KnownBytes.{Consumes, IsAtEnd}
use Rattle.pieces.specs.Run.{Run, is_final, fed}
use Rattle.pieces.specs.Promise.{most_input}
use Rattle.file_run.specs.declared.ends.End.{End}
use Rattle.file_run.specs.declared.ends.End.TheVariants.{Answer, Input}

-- it has its final answer, or the bytes so far are enough for one; or the reader has no more
unfoldable pub Stands : End → Run → Option (List ℕ) → List ℕ → Type 0
Stands Answer r b bs = (is_final r.out.answer ≡ true) ⊎ (most_input ≤ length bs)
Stands Input r b bs = IsAtEnd b

-- no byte so far, or no final answer after them
abbrev pub Unanswered : Run → List ℕ → Type 0
Unanswered s bs = (bs ≡ []) ⊎ (is_final (fed s bs).out.answer ≡ false)

-- the last read brought a piece of 65,536 bytes at most, and before it there was no final answer
pub record LastPiece (s : Run) (bs : List ℕ) : Type 0 where
  pub before : List ℕ
  pub piece : List ℕ
  pub parts : bs ≡ before ++ piece
  pub size : length piece ≤ 65536
  pub unanswered : Unanswered s before

-- past a place that has no final answer at most one piece is read. The read that finds the reader's end brings no byte, and there is no final answer before it
-- either
unfoldable pub StopsAtAnswer : End → Run → List ℕ → Type 0
StopsAtAnswer Answer s bs = LastPiece s bs
StopsAtAnswer Input s bs = Unanswered s bs

-- from the run s and the reader's bytes a to the run r and its bytes b, at that end
pub record ReadOn (a b : Option (List ℕ)) (s r : Run) (e : End) : Type 0 where
  pub bytes : List ℕ
  pub so_far : r ≡ fed s bytes
  pub taken : Consumes a b bytes
  pub stands : Stands e r b bytes
  pub stops : StopsAtAnswer e s bytes
