-- A text put after the text so far, where there is room for it.
use Rattle.std.specs.Prelude.{◌≡◌, List, ℕ, ◌+◌, ◌≤◌, length}
use Rattle.text.specs.Written.{written}
use Rattle.sheet.specs.declared.Printed.{Printed}

-- from p to q: the bytes are those of p with the text s after its first ones, and it is as much longer
pub record Adds (p q : Printed) (s : List ℕ) : Type 0 where
  pub added : p.length + length s ≤ length p.bytes → (q.length ≡ p.length + length s) × (q.bytes ≡ written p.bytes p.length s)
