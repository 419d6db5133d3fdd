-- A line of over 320 bytes is refused, whatever follows: the call gives the same for the line and for its first 321 bytes.
use mathlib.Core.Path.{◌≡◌, refl}
use mathlib.Core.Bool.{Bool, true, false, ◌&&◌, cond}
use mathlib.Core.List.{◌++◌}
use mathlib.Core.Option.{some}
use Prim.Native.Nat.{◌<◌}
use native.Mathlib.Omega.{arith}
use lib.ListN.{length, length-append}
use borrow.Author.Tests.{ne_eqb, lt-ltb}
use Rattle.lists.specs.Lists.{first_of}
use Rattle.meaning.specs.Line.{Line}
use Rattle.meaning.specs.Refusals.{Before, illegible, is_illegible, holds, order, refusal}
use Rattle.meaning.specs.Blocks.{Blocks, sizes_fit}
use Rattle.meaning.specs.Record.{is_open, Rec, rec_fits, before_of}
use Rattle.meaning.specs.Calls.{leaves, line_by, line_of}
use Rattle.pieces.specs.Run.{is_final}

long_illegible : (b : Before) (l : Line) → 320 < length l → refusal b l ≡ some illegible
unfolding refusal first_of order holds is_illegible
long_illegible b l h = rw (ne_eqb (length l) 0 (λ e. omega arith), lt-ltb 320 (length l) h)

pub long_same : (s : Rec) (l m : Line) (w : Blocks) → 320 < length l → line_of s (l ++ m) w ≡ line_of s l w
unfolding line_of line_by
long_same s l m w h =
    rw (long_illegible (before_of s) l h, long_illegible (before_of s) (l ++ m) (omega (arith, length-append l m)))

pub long_refused : (s : Rec) (l : Line) (w : Blocks) → 320 < length l → is_final (line_of s l w).answer ≡ true
unfolding line_of line_by leaves
long_refused s l w h = rw (long_illegible (before_of s) l h) (go (sizes_fit w && rec_fits s) (is_open s.state))
  where
    go : (a b : Bool) → is_final (cond a (cond b (line_by (some illegible) s l w) (leaves 13 s w)) (leaves 1 s w)).answer ≡ true
    go true true = refl
    go true false = refl
    go false b = refl
