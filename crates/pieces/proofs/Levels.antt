-- A level on a sheet lies within the bound of demand 3: such a sheet's lines are all accepted, and so the file of its close.
use mathlib.Core.Path.{◌≡◌, refl}
use mathlib.Core.List.{List, [], ◌∷◌, ◌++◌, append_assoc, append-nil}
use mathlib.Core.Option.{Option, some, none}
use Prim.Native.Nat.{ℕ, ◌+◌}
use native.Mathlib.Omega.{arith}
use lib.ListN.{length}
use Rattle.meaning.specs.Line.{Line}
use Rattle.meaning.specs.Input.{lines_of}
use Rattle.meaning.specs.Refusals.{Reason}
use Rattle.meaning.specs.File.{refusal_at, filing_in}
use Rattle.meaning.specs.Level.{Report, report_of}
use Rattle.meaning.specs.Closing.{CloseReason, closing_refusal}
use Rattle.meaning.specs.Blocks.{Blocks}
use Rattle.meaning.specs.Record.{Rec}
use Rattle.meaning.specs.Sheet.{level, refused_at, closing_by, closing_of, outcome_by, outcome_from, outcome_of, sheet_of}
use Rattle.demands.specs.Demands.{Bounded}
use Rattle.demands.proofs.Bound.Theorem.{bounded_report}
use Rattle.demands.proofs.Held.Rec.{rec_step}
use Rattle.demands.proofs.Held.Blocks.{blocks_step}
use Rattle.demands.proofs.Demand2.{Held, held_fresh}
use Rattle.demands.proofs.Sane.{sane}
use Rattle.pieces.specs.Promise.{LevelBounded}

-- a refusal is no level
no_level : (n c : ℕ) (r : Report) → (refused_at n c).sheet ≡ level r → ⊥
unfolding refused_at
no_level n c r e = let z : ◌≡◌ {A = ℕ} 0 1 = cc in absurd (omega arith)

closed_bounded : (es : List Line) (s : Rec) (w : Blocks) → Held es s w → (r : Report) (o : Option CloseReason) → closing_refusal (filing_in es) ≡ o
    → (closing_by o (filing_in es) (length es)).sheet ≡ level r → Bounded (filing_in es) r
unfolding closing_by
closed_bounded es s w h r none e q =
    let p : report_of (filing_in es) ≡ r = cc in
    rw p at (bounded_report (filing_in es) (sane es s w h.rec h.blocks e) e)
closed_bounded es s w h r (some k) e q = absurd (no_level _ _ r q)

Leads : List Line → Type 0
Leads ls = (es : List Line) (s : Rec) (w : Blocks) → Held es s w → (r : Report) → (outcome_from es ls).sheet ≡ level r → Bounded (filing_in (es ++ ls)) r

line_leads : (l : Line) (ls : List Line) → Leads ls → (es : List Line) (s : Rec) (w : Blocks) → Held es s w → (r : Report)
    → (o : Option Reason) → refusal_at es l ≡ o → (outcome_by o (length es + 1) (outcome_from (es ++ (l ∷ [])) ls)).sheet ≡ level r
    → Bounded (filing_in (es ++ (l ∷ ls))) r
unfolding Leads outcome_by
line_leads l ls later es s w h r none e q =
    rw (append_assoc es (l ∷ []) ls) at
    (later (es ++ (l ∷ [])) _ _ (record { rec = rec_step es l s h.rec e; blocks = blocks_step es l s w h.rec h.blocks e }) r q)
line_leads l ls later es s w h r (some y) e q = absurd (no_level _ _ r q)

leads : (ls : List Line) → Leads ls
unfolding Leads outcome_from closing_of
leads [] es s w h r q = rw (append-nil es) (closed_bounded es s w h r (closing_refusal (filing_in es)) refl q)
leads (l ∷ ls) es s w h r q = line_leads l ls (leads ls) es s w h r (refusal_at es l) refl q

pub level_bounded : LevelBounded
unfolding Leads sheet_of outcome_of
level_bounded bs r e = leads (lines_of bs) [] _ _ held_fresh r e
