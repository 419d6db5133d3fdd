-- Pieces one after the other are one input, and a run that has its final answer keeps it.
use mathlib.Core.Path.{◌≡◌, refl, sym, ◌∙◌}
use mathlib.Core.Bool.{true, false, true≢false, false≢true}
use mathlib.Core.List.{List, [], ◌∷◌, ◌++◌}
use Prim.Native.Nat.{ℕ}
use Rattle.lists.specs.Lists.{flat}
use Rattle.meaning.specs.Calls.{Answer, accepted, refused, reported, Out}
use Rattle.meaning.specs.Sheet.{Outcome}
use Rattle.demands.specs.CallLists.{outcome_of_out, onward_by, onward}
use Rattle.pieces.specs.Run.{Run, is_final, fed_byte, fed, fed_all, finished}

pub fed_append : (r : Run) (a b : List ℕ) → fed r (a ++ b) ≡ fed (fed r a) b
unfolding fed
fed_append r [] b = refl
fed_append r (x ∷ a) b = fed_append (fed_byte r x) a b

pub fed_flat : (r : Run) (ps : List (List ℕ)) → fed_all r ps ≡ fed r (flat ps)
unfolding fed_all fed flat
fed_flat r [] = refl
fed_flat r (p ∷ ps) = fed_flat (fed r p) ps ∙ sym (fed_append r p (flat ps))

-- ---- once there is a final answer
pub kept_byte : (r : Run) (b : ℕ) → is_final r.out.answer ≡ true → fed_byte r b ≡ r
unfolding fed_byte
kept_byte r b h = rw h

pub kept : (r : Run) (bs : List ℕ) → is_final r.out.answer ≡ true → fed r bs ≡ r
unfolding fed
kept r [] h = refl
kept r (b ∷ bs) h = rw (kept_byte r b h) (kept r bs h)

pub kept_end : (r : Run) → is_final r.out.answer ≡ true → finished r ≡ r.out
unfolding finished
kept_end r h = rw h

pub kept_all : (r : Run) (bs : List ℕ) → is_final r.out.answer ≡ true → finished (fed r bs) ≡ r.out
kept_all r bs h = rw (kept r bs h) (kept_end r h)

-- ---- a run over lines stops at a final answer, and goes on without one
stops_by : (a : Answer) (o : Out) (later : Outcome) → is_final a ≡ true → onward_by a o later ≡ outcome_of_out o
unfolding onward_by
stops_by accepted o later e = absurd (false≢true e)
stops_by (refused n c) o later e = refl
stops_by (reported r) o later e = refl

pub stops : (o : Out) (later : Outcome) → is_final o.answer ≡ true → onward o later ≡ outcome_of_out o
unfolding onward
stops o later h = stops_by o.answer o later h

goes_on_by : (a : Answer) (o : Out) (later : Outcome) → is_final a ≡ false → onward_by a o later ≡ later
unfolding onward_by
goes_on_by accepted o later e = refl
goes_on_by (refused n c) o later e = absurd (true≢false e)
goes_on_by (reported r) o later e = absurd (true≢false e)

pub goes_on : (o : Out) (later : Outcome) → is_final o.answer ≡ false → onward o later ≡ later
unfolding onward
goes_on o later h = goes_on_by o.answer o later h
