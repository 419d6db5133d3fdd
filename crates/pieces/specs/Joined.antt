-- Pending bytes and a piece of the input after them (document 01, The printed sheet).
use Rattle.std.specs.Prelude.{cond, ◌||◌, List, ℕ, ◌+◌, ◌-◌, min, ltb, length, take}
use Rattle.text.specs.Written.{written}
use Rattle.meaning.specs.Line.{Line}
use Rattle.pieces.specs.Run.{most_bytes}
use Rattle.pieces.specs.Parts.{end_at}
use Rattle.pieces.specs.declared.joining.Pending.{Pending}
use Rattle.pieces.specs.declared.joining.Joined.{Joined}
use Rattle.pieces.specs.declared.joining.Joined.TheVariants.{Whole, Begun}

-- at most 320 bytes are held; how many of the piece's bytes the line can take; how many it does
abbrev pub held_of : ℕ → ℕ
held_of h = min h most_bytes

abbrev pub limit_of : ℕ → List ℕ → ℕ
limit_of h bs = min (most_bytes + 1 - held_of h) (length bs)

abbrev pub added_of : ℕ → List ℕ → ℕ
added_of h bs = end_at (take (limit_of h bs) bs)

-- the pending bytes
abbrev pub pending_line : Pending → Line
pending_line p = take (held_of p.held) p.line

-- the line is whole once it has its byte 10 or its 321st byte
unfoldable pub joined_of : Pending → List ℕ → Joined
joined_of p bs =
    cond (ltb (added_of p.held bs) (limit_of p.held bs) || ltb most_bytes (held_of p.held + added_of p.held bs))
    (Whole (written p.line (held_of p.held) (take (added_of p.held bs) bs)) (held_of p.held + added_of p.held bs) (min (added_of p.held bs + 1) (limit_of p.held bs)))
    (Begun (record { line = written p.line (held_of p.held) (take (added_of p.held bs) bs); held = held_of p.held + added_of p.held bs }))
