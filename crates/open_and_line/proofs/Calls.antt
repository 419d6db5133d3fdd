-- What a line gives: 1, 13, or the step.
use Rattle.std.specs.Prelude as std
use Rattle.std.specs.Prelude.{Result, Ok, Err}
use borrow.Author.Tests.{ne_eqb}
use mathlib.Core.Path.{◌≡◌, refl, sym, ◌∙◌}
use mathlib.Core.Bool.{Bool, true, false, ◌&&◌, not, cond}
use mathlib.Core.List.{List}
use Prim.Native.Nat.{ℕ, ◌≤◌}
use native.Mathlib.Omega.{arith}
use lib.Dec.{T, leb, leb→le}
use lib.ListN.{length, set}
use Rattle.lists.proofs.Tests.{and_both}
use Rattle.meaning.specs.Filing.{reading}
use Rattle.meaning.specs.Line.{Line, most_index}
use Rattle.meaning.specs.Refusals.{is_too_soon, most_readings, refusal}
use Rattle.meaning.specs.Blocks.{Blocks, sizes_fit}
use Rattle.meaning.specs.Record.{is_open, Rec, in_state, rec_fits, before_of, site_fits, is_taken, last_dates_fit, tallies_fit, history_of_rec}
use Rattle.meaning.specs.Calls.{out, refused, leaves, line_by, line_of}
use Rattle.meaning.proofs.Sizes.{sizes_of}
use Rattle.readings.specs.declared.Reading.{Reading}
use Rattle.readings.specs.Readings.{readings_view}
use Rattle.readings.specs.Columns.{lent_blocks}
use Rattle.readings.proofs.Laws.{seen_put, seen_length}
use Rattle.refusals.specs.declared.Refusal.{Refusal}
use Rattle.refusals.specs.declared.Refusal.TheVariants as names
use Rattle.refusals.specs.declared.Refusal.TheVariants.{Unfit, NotOpen}
use Rattle.refusals.specs.Refusals.{refusal_number}
use Rattle.progress.specs.declared.State.{State}
use Rattle.progress.specs.declared.Progress.{Progress}
use Rattle.progress.specs.ProgressViews.{state_view, rec_of, open_rec, taken_view, step_view}
use Rattle.progress.specs.Steps.{line_blocks, LineSizes, step_of, answer_of, out_after}
use Rattle.progress.proofs.StateLaws.{any_state, open_state_lem}
use Rattle.progress.proofs.Calls.{line_out}
use Rattle.answers.specs.Refusals.{lengths_fit, open_refusal}
use Rattle.answers.proofs.Laws.{by_lengths, not_early}
use Rattle.open_and_line.specs.declared.line_call.outcome.LineOutcome.{LineOutcome}
use Rattle.open_and_line.specs.LineOutcomes.{line_outcome_view, with_reading, refused_of, line_outcome_of}

-- the count is at most 9999
few_lines : (s : Rec) → rec_fits s ≡ true → s.count ≤ 9999
unfolding rec_fits
few_lines s e = leb→le s.count 9999 (first (leb s.count 9999) (leb s.last 8)
    ((site_fits (is_taken s) s.site && not (is_too_soon s.site.al s.site.filiere))
    && ((leb s.readings most_readings && leb s.last_index most_index)
    && (last_dates_fit (history_of_rec s) s.lasts && tallies_fit (history_of_rec s) s.tallies))) (rw e tt))
  where
    first : (a b c : Bool) → T ((a && b) && c) → T a
    first false b c t = absurd t
    first true b c t = tt

-- 1 and 13
early_out : (s : Rec) (l : Line) (w : Blocks) (y : Refusal) → Err y ≡ open_refusal (sizes_fit w && rec_fits s) s.state → out (refused (refusal_number y) s.count) s w ≡ line_of s l w
unfolding line_of leaves open_refusal refusal_number
early_out s l w y q = go (sizes_fit w && rec_fits s) (is_open s.state) q
  where
    go : (b x : Bool) → ◌≡◌ {A = Result (Unit {0}) Refusal} (Err y) (cond b (cond x (Ok tt) (Err NotOpen)) (Err Unfit))
        → out (refused (refusal_number y) s.count) s w ≡ cond b (cond x (line_by (refusal (before_of s) l) s l w) (out (refused 13 s.count) s w)) (out (refused 1 s.count) s w)
    go true true q = cc
    go true false q = let e : y ≡ NotOpen = cc in rw e
    go false x q = let e : y ≡ Unfit = cc in rw e

-- no refusal has number 0
number_above : (y : Refusal) → refusal_number y ≡ 0 → ⊥
unfolding refusal_number
number_above names.Unfit e = omega arith
number_above names.Illegible e = omega arith
number_above names.Unknown e = omega arith
number_above names.Misplaced e = omega arith
number_above names.Malformed e = omega arith
number_above names.Outside e = omega arith
number_above names.NoDate e = omega arith
number_above names.NotLater e = omega arith
number_above names.TooSoon e = omega arith
number_above names.Falling e = omega arith
number_above names.TooMany e = omega arith
number_above names.Miscounted e = omega arith
number_above names.NotOpen e = omega arith
number_above names.NoEnd e = omega arith
number_above names.Partial e = omega arith
number_above names.NoData e = omega arith
number_above names.ZeroTotal e = omega arith
number_above names.TooHigh e = omega arith

-- ---- a line on an open record, as the code has it and as the definitions do
taken_is : (s : Rec) (r : std.Option Reading) (v : Blocks) → ((taken_view s r v).number ≡ 0) × ((taken_view s r v).after ≡ s) × ((taken_view s r v).blocks ≡ v)
taken_is s std.None v = (refl, refl, refl)
taken_is s (std.Some r) v = (refl, refl, refl)

blocks_is : (n : ℕ) (p : Progress) (o : Result (std.Option Reading) Refusal) (v : Blocks) → (step_view n p o v).blocks ≡ v
blocks_is n p (Err y) v = refl
blocks_is n p (Ok r) v = (taken_is (open_rec n p) r v).2

outcome_seen : (n : ℕ) (p : Progress) (o : Result (std.Option Reading) Refusal) (v w : Blocks)
    → line_outcome_view (line_outcome_of n o) p w ≡ out_after (step_view n p o v).number (step_view n p o v).after w
unfolding out_after answer_of in_state
outcome_seen n p (Err y) v w = rw (ne_eqb (refusal_number y) 0 (number_above y))
outcome_seen n p (Ok r) v w = let t = taken_is (open_rec n p) r v in rw (t.0, t.1)

-- a reading goes to its place in the list where the line has one, and else nothing is stored
stored : (n : ℕ) (p : Progress) (o : Result (std.Option Reading) Refusal) (v : Blocks) (rs : List Reading) (k : ℕ)
    → readings_view (with_reading rs k o)
    ≡ cond (step_view n p o v).reads (set (readings_view rs) k (reading (step_view n p o v).position (step_view n p o v).index (step_view n p o v).kind)) (readings_view rs)
stored n p (Err y) v rs k = refl
stored n p (Ok std.None) v rs k = refl
stored n p (Ok (std.Some r)) v rs k = seen_put rs k r

module _ (st : State) (n : ℕ) (p : Progress) (l : Line) (near far slots daily : List ℕ) (rs : List Reading) (c : List ℕ) (k : Result (Unit {0}) Refusal)
    (asked : k ≡ open_refusal (lengths_fit (length near) (length far) (length slots) (length daily) (length rs) (length c) && rec_fits (rec_of st n p)) (state_view st)) where
  -- the lent blocks
  abbrev w : Blocks
  w = lent_blocks near far slots daily (readings_view rs) c

  stop_is : k ≡ open_refusal (sizes_fit w && rec_fits (rec_of st n p)) (state_view st)
  stop_is = rw (← by_lengths w, seen_length rs) asked

  -- ---- 1 and 13
  pub refused_line : (y : Refusal) → k ≡ Err y → (h : LineOutcome) → h ≡ refused_of st n (refusal_number y) → line_outcome_view h p w ≡ line_of (rec_of st n p) l w
  refused_line y z h e = rw e (early_out (rec_of st n p) l w y (sym z ∙ stop_is))

  -- ---- neither
  module _ {u : Unit {0}} (z : k ≡ Ok u) where
    passes : ((sizes_fit w && rec_fits (rec_of st n p)) ≡ true) × (is_open (state_view st) ≡ true)
    passes = not_early (sizes_fit w && rec_fits (rec_of st n p)) (state_view st) (sym z ∙ stop_is)

    fitting : rec_fits (rec_of st n p) ≡ true
    fitting = (and_both (sizes_fit w) (rec_fits (rec_of st n p)) passes.0).1

    pub fits_open : rec_fits (open_rec n p) ≡ true
    fits_open = any_state st n p ∙ fitting

    pub few : n ≤ 9999
    few = few_lines (rec_of st n p) fitting

    pub line_sizes : LineSizes (line_blocks near far slots daily)
    line_sizes =
        let t = sizes_of w (rw (and_both (sizes_fit w) (rec_fits (rec_of st n p)) passes.0).0 tt) in
        record { near = t.near; far = t.far; slots = t.slots; daily = t.daily }

    -- the progress after the line is p', and the list of readings rs'
    module _ (p' : Progress) (o : Result (std.Option Reading) Refusal) (near' far' slots' daily' : List ℕ) (rs' : List Reading)
        (step : step_view n p' o (line_blocks near' far' slots' daily') ≡ step_of (open_rec n p) l (line_blocks near far slots daily)) (kept : rs' ≡ with_reading rs p.readings o) where
      as_came : step_view n p' o (line_blocks near' far' slots' daily') ≡ step_of (rec_of st n p) l (line_blocks near far slots daily)
      as_came = rw (open_state_lem st passes.1) step

      pub outcome_line : (h : LineOutcome) → h ≡ line_outcome_of n o
          → line_outcome_view h p' (lent_blocks near' far' slots' daily' (readings_view rs') c) ≡ line_of (rec_of st n p) l w
      unfolding line_of
      outcome_line h e =
          let v' = line_blocks near' far' slots' daily' in
          let v = step_view n p' o v' in
          rw (e, passes.0, passes.1, kept, stored n p' o v' rs p.readings)
          (outcome_seen n p' o v' _ ∙ (rw (blocks_is n p' o v') at (line_out (rec_of st n p) l w v as_came _ refl)))
