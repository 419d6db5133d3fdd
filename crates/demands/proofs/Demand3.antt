-- Demand 3: every NCC that a close of a list of calls reports lies within the bound of its file's exact fraction.
use mathlib.Core.Path.{◌≡◌, refl}
use mathlib.Core.Logic.{◌≢◌}
use mathlib.Core.Bool.{Bool, true, false, ◌&&◌, cond}
use mathlib.Core.List.{List, [], ◌∷◌}
use mathlib.Core.Option.{Option, some, none}
use Prim.Native.Nat.{ℕ}
use native.Mathlib.Omega.{arith}
use Rattle.lists.specs.Lists.{Each, each_nil, each_cons}
use Rattle.meaning.specs.Line.{Line}
use Rattle.meaning.specs.Refusals.{Reason}
use Rattle.meaning.specs.File.{refusal_at, filing_in}
use Rattle.meaning.specs.Closing.{CloseReason, closing_refusal}
use Rattle.meaning.specs.Blocks.{Blocks, sizes_fit, fresh_blocks}
use Rattle.meaning.specs.Record.{open_state, refused_state, closed_state, is_open, Rec, fresh_rec, in_state, rec_fits, contents_fit, filing_of}
use Rattle.meaning.proofs.States.{not_open, open_only}
use Rattle.meaning.specs.Calls.{accepted, refused, Out, out, leaves, opening_of, line_by, line_of, close_by, close_of}
use Rattle.demands.specs.CallLists.{Call, opening, line, close, called, file_after, Answered, answers_from, answers_of}
use Rattle.demands.specs.Demands.{BoundedIfReported, Demand-3}
use Rattle.demands.proofs.Bound.Theorem.{bounded_report}
use Rattle.demands.proofs.Held.Rec.{rec_step}
use Rattle.demands.proofs.Held.Blocks.{blocks_step, blocks_is}
use Rattle.demands.proofs.Demand2.{Held, held_fresh, line_is, close_is}
use Rattle.demands.proofs.Sane.{sane}

-- between two calls: record and blocks hold the file, or the record takes no line and no close
pub data Status (f : List Line) (s : Rec) (w : Blocks) : Type 0 where
  live : Held f s w → Status f s w
  shut : (s.state ≢ open_state) → Status f s w

-- what a call gives: the bound, and the status that it leaves
record Next (k : Call) (f : List Line) (o : Out) : Type 0 where
  bounded : BoundedIfReported f o.answer
  status : Status (file_after k o.answer f) o.after o.blocks

-- a call that leaves record and blocks by 1 or 13
left_line : (l : Line) (f : List Line) (s : Rec) (w : Blocks) (n : ℕ) → Status f s w → Next (line l) f (leaves n s w)
unfolding leaves BoundedIfReported file_after
left_line l f s w n t = record { bounded = tt; status = t }

left_close : (f : List Line) (s : Rec) (w : Blocks) (n : ℕ) → Status f s w → Next close f (leaves n s w)
unfolding leaves BoundedIfReported file_after
left_close f s w n t = record { bounded = tt; status = t }

-- ---- opening
opened : (f : List Line) (s : Rec) (w : Blocks) → Status f s w → Next opening f (opening_of s w)
unfolding opening_of leaves BoundedIfReported file_after
opened f s w t = go (sizes_fit w)
  where
    go : (b : Bool) → Next opening f (cond b (out accepted fresh_rec fresh_blocks) (leaves 1 s w))
    go true = record { bounded = tt; status = live held_fresh }
    go false = record { bounded = tt; status = t }

-- ---- a line
judged_next : (l : Line) (f : List Line) (s : Rec) (w : Blocks) → Held f s w → (o : Option Reason) → refusal_at f l ≡ o → Next (line l) f (line_by o s l w)
unfolding line_by in_state BoundedIfReported file_after
judged_next l f s w h none e =
    record { bounded = tt; status = live (record { rec = rec_step f l s h.rec e; blocks = blocks_step f l s w h.rec h.blocks e }) }
judged_next l f s w h (some y) e = record { bounded = tt; status = shut (open_only refused_state refl) }

shut_line : (l : Line) (f : List Line) (s : Rec) (w : Blocks) → (s.state ≢ open_state) → Next (line l) f (line_of s l w)
unfolding line_of
shut_line l f s w n = go (sizes_fit w && rec_fits s) (is_open s.state) (not_open s.state n)
  where
    go : (a b : Bool) → b ≡ false → Next (line l) f (cond a (cond b (line_by (Rattle.meaning.specs.Refusals.refusal (Rattle.meaning.specs.Record.before_of s) l) s l w) (leaves 13 s w)) (leaves 1 s w))
    go true true e = let z : ◌≡◌ {A = ℕ} 0 1 = cc in absurd (omega arith)
    go true false e = left_line l f s w 13 (shut n)
    go false b e = left_line l f s w 1 (shut n)

lined : (l : Line) (f : List Line) (s : Rec) (w : Blocks) → Status f s w → Next (line l) f (line_of s l w)
lined l f s w (live h) = rw (line_is f s w l h) (judged_next l f s w h (refusal_at f l) refl)
lined l f s w (shut n) = shut_line l f s w n

-- ---- a close
closed_next : (f : List Line) (s : Rec) (w : Blocks) → Held f s w → (o : Option CloseReason) → closing_refusal (filing_in f) ≡ o → Next close f (close_by o s w)
unfolding close_by in_state BoundedIfReported file_after
closed_next f s w h none e = record {
  bounded = rw (blocks_is h.rec h.blocks) (bounded_report (filing_in f) (sane f s w h.rec h.blocks e) e);
  status = shut (open_only closed_state refl);
}
closed_next f s w h (some k) e = record { bounded = tt; status = shut (open_only refused_state refl) }

shut_close : (f : List Line) (s : Rec) (w : Blocks) → (s.state ≢ open_state) → Next close f (close_of s w)
unfolding close_of
shut_close f s w n = go (sizes_fit w && (rec_fits s && contents_fit s w)) (is_open s.state) (not_open s.state n)
  where
    go : (a b : Bool) → b ≡ false → Next close f (cond a (cond b (close_by (closing_refusal (filing_of s w)) s w) (leaves 13 s w)) (leaves 1 s w))
    go true true e = let z : ◌≡◌ {A = ℕ} 0 1 = cc in absurd (omega arith)
    go true false e = left_close f s w 13 (shut n)
    go false b e = left_close f s w 1 (shut n)

ended : (f : List Line) (s : Rec) (w : Blocks) → Status f s w → Next close f (close_of s w)
ended f s w (live h) = rw (close_is f s w h) (closed_next f s w h (closing_refusal (filing_in f)) refl)
ended f s w (shut n) = shut_close f s w n

-- ---- any call, and any list of calls
next : (k : Call) (f : List Line) (s : Rec) (w : Blocks) → Status f s w → Next k f (called k s w)
unfolding called
next opening f s w t = opened f s w t
next (line l) f s w t = lined l f s w t
next close f s w t = ended f s w t

each : (ks : List Call) (f : List Line) (s : Rec) (w : Blocks) → Status f s w → Each (λ (a : Answered). BoundedIfReported a.file a.answer) (answers_from s w f ks)
unfolding answers_from
each [] f s w t = each_nil
each (k ∷ ks) f s w t =
    let n = next k f s w t in
    each_cons n.bounded (each ks (file_after k (called k s w).answer f) (called k s w).after (called k s w).blocks n.status)

-- the first opening, on whatever record and blocks
first : (s : Rec) (w : Blocks) → (opening_of s w).answer ≡ accepted → opening_of s w ≡ out accepted fresh_rec fresh_blocks
unfolding opening_of leaves
first s w e = go (sizes_fit w) e
  where
    go : (b : Bool) → (cond b (out accepted fresh_rec fresh_blocks) (out (refused 1 s.count) s w)).answer ≡ accepted
        → cond b (out accepted fresh_rec fresh_blocks) (out (refused 1 s.count) s w) ≡ out accepted fresh_rec fresh_blocks
    go true q = refl
    go false q = let z : ◌≡◌ {A = ℕ} 0 1 = cc in absurd (omega arith)

pub demand_3 : Demand-3
unfolding answers_of answers_from called BoundedIfReported file_after
demand_3 s w e ks = rw (first s w e) (each_cons tt (each ks [] fresh_rec fresh_blocks (live held_fresh)))
