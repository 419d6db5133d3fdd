-- Demand 2: whatever record and blocks held, a run's sheet and curve are those of the lines.
use mathlib.Core.Path.{◌≡◌, refl, ap}
use mathlib.Core.List.{List, [], ◌∷◌, ◌++◌}
use mathlib.Core.Option.{Option, some, none}
use Prim.Native.Nat.{ℕ, ◌+◌}
use lib.ListN.{length}
use Rattle.lists.proofs.Tests.{is_true}
use Rattle.meaning.specs.Filing.{Filing}
use Rattle.meaning.specs.Line.{Line}
use Rattle.meaning.specs.Refusals.{Reason, number_of}
use Rattle.meaning.specs.File.{refusal_at, filing_in}
use Rattle.meaning.specs.Level.{report_of}
use Rattle.meaning.specs.Closing.{CloseReason, close_number, closing_refusal}
use Rattle.meaning.specs.Blocks.{Blocks, sizes_fit, fresh_blocks}
use Rattle.meaning.specs.Record.{Rec, fresh_rec}
use Rattle.meaning.proofs.States.{is_open_lem}
use Rattle.meaning.specs.Calls.{accepted, opening_of, line_by, line_of, close_by, close_of}
use Rattle.meaning.specs.Sheet.{refused_sheet, level, refused_at, closing_by, closing_of, outcome_by, outcome_from, outcome_of}
use Rattle.demands.specs.CallLists.{called, sheet_of_answer, outcome_of_out, onward_by, onward, run_from, run}
use Rattle.demands.specs.Demands.{Demand-2}
use Rattle.demands.proofs.Held.Parts.{HeldRec, HeldBlocks}
use Rattle.demands.proofs.Held.Rec.{rec_fresh, rec_step, held_count, held_refusal}
use Rattle.demands.proofs.Held.Start.{blocks_fresh}
use Rattle.demands.proofs.Held.Blocks.{blocks_step, blocks_is, line_ready, close_ready, curve_closed}

-- record and blocks hold a file
pub record Held (ls : List Line) (s : Rec) (w : Blocks) : Type 0 where
  pub rec : HeldRec ls s
  pub blocks : HeldBlocks ls s w

pub held_fresh : Held [] fresh_rec fresh_blocks
held_fresh = record { rec = rec_fresh; blocks = blocks_fresh }

-- ---- a line is checked against the lines before it
pub line_is : (ls : List Line) (s : Rec) (w : Blocks) (l : Line) → Held ls s w → line_of s l w ≡ line_by (refusal_at ls l) s l w
unfolding line_of
line_is ls s w l h = rw (line_ready h.rec h.blocks, is_open_lem s.state h.rec.opened, held_refusal h.rec l)

-- ---- a close reads the filing of the lines
pub close_is : (ls : List Line) (s : Rec) (w : Blocks) → Held ls s w → close_of s w ≡ close_by (closing_refusal (filing_in ls)) s w
unfolding close_of
close_is ls s w h = rw (close_ready h.rec h.blocks, is_open_lem s.state h.rec.opened) (ap (λ (F : Filing). close_by (closing_refusal F) s w) (blocks_is h.rec h.blocks))

-- ---- one call's answer, by its refusal
pub judged_answer : (o : Option Reason) (s : Rec) (l : Line) (w : Blocks) → o ≡ none → (line_by o s l w).answer ≡ accepted
unfolding line_by
judged_answer none s l w e = refl
judged_answer (some y) s l w e = let z : ◌≡◌ {A = ℕ} 0 1 = cc in absurd (borrow.Author.Tests.eqb-false 0 1 refl z)

closed_sheet : (ls : List Line) (s : Rec) (w : Blocks) → Held ls s w → (o : Option CloseReason)
    → sheet_of_answer (close_by o s w).answer ≡ (closing_by o (filing_in ls) (length ls)).sheet
unfolding close_by sheet_of_answer closing_by refused_at
closed_sheet ls s w h none = ap (λ (F : Filing). level (report_of F)) (blocks_is h.rec h.blocks)
closed_sheet ls s w h (some k) = ap (refused_sheet (close_number k)) (held_count h.rec)

close_outcome : (ls : List Line) (s : Rec) (w : Blocks) → Held ls s w → outcome_of_out (close_of s w) ≡ closing_of (filing_in ls) (length ls)
unfolding outcome_of_out closing_of
close_outcome ls s w h =
    rw (close_is ls s w h)
    (λ i. record { sheet = closed_sheet ls s w h (closing_refusal (filing_in ls)) i; curve = curve_closed h.blocks (closing_refusal (filing_in ls)) (length ls) i })

-- ---- the lines that are left
line_step : (es : List Line) (s : Rec) (w : Blocks) (l : Line) (later : List Line) → Held es s w → (o : Option Reason) → refusal_at es l ≡ o
    → ((s' : Rec) (w' : Blocks) → Held (es ++ (l ∷ [])) s' w' → run_from s' w' later ≡ outcome_from (es ++ (l ∷ [])) later)
    → onward (line_by o s l w) (run_from (line_by o s l w).after (line_by o s l w).blocks later) ≡ outcome_by o (length es + 1) (outcome_from (es ++ (l ∷ [])) later)
unfolding line_by onward onward_by outcome_by outcome_of_out sheet_of_answer refused_at
line_step es s w l later h none e r = r _ _ (record { rec = rec_step es l s h.rec e; blocks = blocks_step es l s w h.rec h.blocks e })
line_step es s w l later h (some y) e r =
    λ i. record { sheet = refused_sheet (number_of y) (held_count h.rec i + 1); curve = h.blocks.curve i }

run_held : (ls es : List Line) (s : Rec) (w : Blocks) → Held es s w → run_from s w ls ≡ outcome_from es ls
unfolding run_from called outcome_from
run_held [] es s w h = close_outcome es s w h
run_held (l ∷ ls) es s w h = rw (line_is es s w l h) (line_step es s w l ls h (refusal_at es l) refl (run_held ls (es ++ (l ∷ []))))

pub demand_2 : Demand-2
unfolding run called opening_of onward onward_by outcome_of
demand_2 s w t ls = rw (is_true (sizes_fit w) t) (run_held ls [] fresh_rec fresh_blocks held_fresh)
