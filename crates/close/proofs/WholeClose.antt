-- The result of a close, whose readings were copied into columns: 1, 13, 14, or the result for the file.
use mathlib.Core.Path.{◌≡◌, refl, ap, sym, subst, ◌∙◌}
use mathlib.Core.Bool.{Bool, true, false, ◌&&◌, cond}
use mathlib.Core.List.{List, []}
use Prim.Native.Nat.{ℕ}
use lib.Dec.{T, eqb}
use lib.ListN.{length}
use borrow.Author.Tests.{eq-eqb}
use Rattle.lists.proofs.Tests.{and_both}
use Rattle.meaning.specs.Filing as meant
use Rattle.meaning.specs.Filing.{Filing}
use Rattle.meaning.specs.Level.{report_of}
use Rattle.meaning.specs.Closing.{closing_refusal}
use Rattle.meaning.specs.Blocks.{Blocks, sizes_fit, readings_size}
use Rattle.meaning.specs.Record.{refused_state, closed_state, is_open, Rec, in_state, rec_fits, contents_fit, filing_held, filing_of}
use Rattle.meaning.specs.Calls.{Out, out, refused, leaves, with_curve, close_by, close_of}
use Rattle.readings.specs.declared.Reading.{Reading}
use Rattle.readings.specs.declared.Columns.{Columns}
use Rattle.readings.specs.Readings.{readings_view, columns_of}
use Rattle.readings.specs.Columns.{readings_in, lent_blocks, lent_blocks_in}
use Rattle.readings.proofs.Laws.{seen_length, columns_all}
use Rattle.readings.proofs.Columned.{columned, seen_in}
use Rattle.progress.specs.declared.State.{State}
use Rattle.progress.specs.declared.State.TheVariants as states
use Rattle.progress.specs.declared.Progress.{Progress}
use Rattle.progress.specs.ProgressViews.{state_view, rec_of}
use Rattle.progress.proofs.StateLaws.{refused_where}
use Rattle.std.specs.Prelude.{Result, Ok, Err}
use Rattle.refusals.specs.declared.Refusal.{Refusal}
use Rattle.refusals.specs.declared.Refusal.TheVariants.{Unfit, NotOpen, NoEnd}
use Rattle.refusals.specs.Refusals.{refusal_number}
use Rattle.close.specs.declared.outcome.file.FileReport.{FileReport}
use Rattle.close.specs.Closes as file
use Rattle.close.specs.Closes.{FileFits, report_repr, file_out_of}
use Rattle.close.proofs.FileClose.{filing_is, file_fits, close_of_lem, close_unended, close_refuses, close_reports}
use Rattle.answers.specs.declared.Answer.TheVariants.{Refused, Reported}
use Rattle.answers.specs.declared.lengths.Lengths.{Lengths}
use Rattle.answers.specs.Refusals.{lengths_fit}
use Rattle.answers.proofs.Laws.{by_lengths}
use Rattle.meaning.proofs.Sizes.{sizes_of}
use Rattle.close.specs.declared.outcome.call.CloseOutcome.{CloseOutcome}
use Rattle.answers.specs.Refusals.{ended_refusal}
use Rattle.close.specs.FirstRefusals.{all_fit}
use Rattle.close.specs.Ends.{CloseOut, close_out, close_outcome_view, no_years, answer_repr, years_beside, close_repr, refused_of, close_outcome_of}
use Rattle.answers.proofs.Laws.{none_refused}
use Rattle.close.proofs.Laws.{within, all_fit_lem}

-- ---- 1, 13 and 14
stopped_out : (s : Rec) (w : Blocks) (y : Refusal) → Err y ≡ ended_refusal (sizes_fit w && (rec_fits s && contents_fit s w)) s.state s.last
    → close_out (Refused (refusal_number y) s.count) (in_state (cond (eqb (refusal_number y) 14) refused_state s.state) s.count s) no_years w ≡ close_repr (close_of s w)
unfolding close_of leaves close_repr answer_repr years_beside in_state ended_refusal refusal_number
stopped_out s w y q = go (sizes_fit w && (rec_fits s && contents_fit s w)) (is_open s.state) (eqb s.last 8) refl q
  where
    told : Out → CloseOut
    told u = close_out (answer_repr u.answer) u.after (years_beside u.answer) u.blocks

    go : (b x l : Bool) → eqb s.last 8 ≡ l → ◌≡◌ {A = Result (Unit {0}) Refusal} (Err y) (cond b (cond x (cond l (Ok tt) (Err NoEnd)) (Err NotOpen)) (Err Unfit))
        → told (out (refused (refusal_number y) s.count) (in_state (cond (eqb (refusal_number y) 14) refused_state s.state) s.count s) w)
        ≡ told (cond b (cond x (close_by (closing_refusal (filing_of s w)) s w) (leaves 13 s w)) (leaves 1 s w))
    go true true true f q = let n : ⊥ = cc in absurd n
    go true true false f q = let e : y ≡ NoEnd = cc in rw (e, close_unended s w (λ z. subst T (sym (eq-eqb s.last 8 z) ∙ f) tt))
    go true false l f q = let e : y ≡ NotOpen = cc in rw e
    go false x l f q = let e : y ≡ Unfit = cc in rw e

-- ---- the close of the file
-- AL and filière in the report
report_site : (s : Rec) (w : Blocks) → s.last ≡ 8 → ((report_of (filing_of s w)).al ≡ s.site.al) × ((report_of (filing_of s w)).filiere ≡ s.site.filiere)
unfolding report_of filing_held
report_site s w l = (ap (λ (F : Filing). F.site.al) (filing_is s w l), ap (λ (F : Filing). F.site.filiere) (filing_is s w l))

module _ (s : Rec) (w : Blocks) (e : (sizes_fit w && (rec_fits s && contents_fit s w)) ≡ true) (h : is_open s.state ≡ true) (l : s.last ≡ 8) (k : Result FileReport Refusal) (c : List ℕ)
    (back : file.file_out k c ≡ file_out_of (filing_held s.site s.readings s.tallies true w) w.curve) where
  told_refused : (y : Refusal) → k ≡ Err y → close_out (Refused (refusal_number y) s.count) (in_state refused_state s.count s) no_years (with_curve w c) ≡ close_repr (close_of s w)
  unfolding close_repr answer_repr years_beside
  told_refused y n = rw (close_of_lem s w e h, close_refuses s w e l k c back y n)

  told_reported : (f : FileReport) → k ≡ Ok f → close_out (Reported s.site.al s.site.filiere f.level f.points) (in_state closed_state s.count s) f.years (with_curve w c) ≡ close_repr (close_of s w)
  unfolding close_repr answer_repr years_beside report_repr
  told_reported f z =
      let r = close_reports s w e l k c back f z in
      let t = report_site s w l in
      rw (close_of_lem s w e h, r.result, r.level, r.points, ap (λ (x : FileReport). x.years) r.closing, t.0, t.1)

module _ (st : State) (n : ℕ) (p : Progress) (near far slots daily : List ℕ) (rs : List Reading) (c : List ℕ) (k : Columns) (copied : k ≡ columns_of rs) (m : Result (Unit {0}) Refusal) where
  abbrev s : Rec
  s = rec_of st n p

  -- the lent blocks with a curve, as they are and with the readings of the columns
  abbrev lent : List ℕ → Blocks
  lent y = lent_blocks near far slots daily (readings_view rs) y

  abbrev held : List ℕ → Blocks
  held y = lent_blocks_in near far slots daily k.positions k.indexes k.kinds y

  abbrev lengths : Lengths
  lengths = record { near = length near; far = length far; slots = length slots; daily = length daily; readings = length rs; curve = length c }

  whole : sizes_fit (lent c) ≡ true → length rs ≡ readings_size
  whole e = sym (seen_length rs) ∙ (sizes_of (lent c) (rw e tt)).readings

  -- the readings of the columns are those of the list where it has 600
  same : sizes_fit (lent c) ≡ true → readings_in k.positions k.indexes k.kinds readings_size ≡ readings_view rs
  same e = rw (copied ∙ columns_all rs (whole e)) (seen_in rs (whole e))

  module _ (asked : m ≡ ended_refusal (all_fit s lengths (held [])) (state_view st) p.last) where
    stop_is : m ≡ ended_refusal (sizes_fit (lent c) && (rec_fits s && contents_fit s (lent c))) (state_view st) p.last
    stop_is =
        let fit : lengths_fit (length near) (length far) (length slots) (length daily) (length rs) (length c) ≡ sizes_fit (lent c) = rw (← seen_length rs) (by_lengths (lent c)) in
        asked ∙ ap (λ (b : Bool). ended_refusal b (state_view st) p.last) (all_fit_lem s (lent c) lengths k.positions k.indexes k.kinds fit same)

    -- ---- 1, 13 and 14
    pub refused_close : (y : Refusal) → m ≡ Err y → (x : State) → x ≡ cond (eqb (refusal_number y) 14) states.Refused st → (o : CloseOutcome) → o ≡ refused_of x n y
        → close_outcome_view o n p (lent c) ≡ close_repr (close_of s (lent c))
    unfolding in_state
    refused_close y h x ex o e = rw (e, ex, refused_where (eqb (refusal_number y) 14) st) (stopped_out s (lent c) y (sym h ∙ stop_is))

    -- ---- none of them
    module _ {u : Unit {0}} (z : m ≡ Ok u) where
      passes : ((sizes_fit (lent c) && (rec_fits s && contents_fit s (lent c))) ≡ true) × (is_open (state_view st) ≡ true) × (p.last ≡ 8)
      passes = none_refused (sizes_fit (lent c) && (rec_fits s && contents_fit s (lent c))) (state_view st) p.last (sym z ∙ stop_is)

      as_lent : (y : List ℕ) → held y ≡ lent y
      as_lent y = ap (λ (r : List meant.Reading). lent_blocks near far slots daily r y) (same (and_both (sizes_fit (lent c)) (rec_fits s && contents_fit s (lent c)) passes.0).0)

      pub fits_file : (length k.positions ≡ 600) × (length k.indexes ≡ 600) × (length k.kinds ≡ 600) → FileFits s.site p.readings s.tallies (held c) k.positions k.indexes k.kinds
      fits_file long =
          let fit : (sizes_fit (held c) && (rec_fits s && contents_fit s (held c))) ≡ true = ap (λ (w : Blocks). sizes_fit w && (rec_fits s && contents_fit s w)) (as_lent c) ∙ passes.0 in
          let ranged : rec_fits s ≡ true = (and_both (rec_fits s) (contents_fit s (held c)) (and_both (sizes_fit (held c)) _ fit).1).0 in
          file_fits s (held c) (columned near far slots daily k.positions k.indexes k.kinds c p.readings (within s ranged).0 long.0 long.1 long.2) fit passes.2

      pub told_close : (f : Result FileReport Refusal) (y : List ℕ) → file.file_out f y ≡ file_out_of (filing_held s.site p.readings s.tallies true (held c)) c
          → (o : CloseOutcome) → o ≡ close_outcome_of n p.site f → close_outcome_view o n p (lent y) ≡ close_repr (close_of s (lent c))
      unfolding close_outcome_of with_curve in_state
      told_close f y back o e = rw e (go f refl)
        where
          handed : file.file_out f y ≡ file_out_of (filing_held s.site p.readings s.tallies true (lent c)) c
          handed = back ∙ ap (λ (w : Blocks). file_out_of (filing_held s.site p.readings s.tallies true w) c) (as_lent c)

          go : (g : Result FileReport Refusal) → f ≡ g → close_outcome_view (close_outcome_of n p.site g) n p (lent y) ≡ close_repr (close_of s (lent c))
          go (Ok x) q = told_reported s (lent c) passes.0 passes.1 passes.2 f y handed x q
          go (Err v) q = told_refused s (lent c) passes.0 passes.1 passes.2 f y handed v q
