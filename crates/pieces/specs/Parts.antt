-- A piece taken line by line: the bytes up to a line's end at once.
use Rattle.std.specs.Prelude.{Bool, true, false, cond, List, [], ◌∷◌, ◌++◌, ℕ, suc, eqb}
use Rattle.meaning.specs.Line.{Line}
use Rattle.meaning.specs.Text.{end_byte}
use Rattle.pieces.specs.Run.{Run, applied, longer}

-- how many bytes stand before the first byte 10
unfoldable pub end_at : List ℕ → ℕ
end_at [] = 0
end_at (b ∷ bs) = cond (eqb b end_byte) 0 (suc (end_at bs))

-- the run after bytes of the pending line, by whether the line's byte 10 comes after them
unfoldable pub stepped : Bool → Run → Line → Run
stepped true r bs = applied r.out (r.pending ++ bs)
stepped false r bs = longer r.out (r.pending ++ bs)
