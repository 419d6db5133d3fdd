-- 15 to 18 in order of checking: the refusals in the code are those of document 01.
use mathlib.Core.Path.{◌≡◌, refl, ap, sym, ◌∙◌}
use mathlib.Core.Bool.{Bool, true, false, not, cond}
use mathlib.Core.List.{List}
use mathlib.Core.Option.{Option, some, none}
use Prim.Native.Nat.{ℕ}
use lib.Dec.{T}
use Rattle.lists.specs.Lists.{first_of}
use Rattle.calendar.specs.Spans.{history_years}
use Rattle.meaning.specs.Filing.{Site, Filing}
use Rattle.meaning.specs.Level.{report_of, curve_of}
use Rattle.meaning.specs.Closing.{CloseReason, no_end, partial, no_data, zero_total, too_high, close_holds, close_order, closing_refusal}
use Rattle.meaning.specs.Blocks.{Blocks}
use Rattle.meaning.specs.Record.{Tallies, history_of_site, filing_held}
use Rattle.validity.specs.Days.{totals_of}
use Rattle.close_checks.proofs.Lacking.{partial_held, lacking_held, zero_held}
use Rattle.history.specs.Cases.{cases_of, default_years}
use Rattle.history.specs.ValidYears.{valid_curves, valid_indexes}
use Rattle.close_checks.specs.DataRefusals.{first_refusal, data_refusal}
use Rattle.std.specs.Prelude.{Result, Ok, Err}
use Rattle.refusals.specs.declared.Refusal.{Refusal}
use Rattle.refusals.specs.declared.Refusal.TheVariants.{TooHigh}
use Rattle.refusals.specs.Refusals.{of_close_reason}
use Rattle.close.specs.declared.outcome.file.FileReport.{FileReport}
use Rattle.close.specs.Closes.{FileFits, file_out, report_repr, file_out_by, file_out_of}
use Rattle.close.proofs.FileFacts.{rise, indexes_valid, default_is}

-- the same refusal, where a report could be
again : {y z : Refusal} → ◌≡◌ {A = Result (Unit {0}) Refusal} (Err y) (Err z) → ◌≡◌ {A = Result FileReport Refusal} (Err y) (Err z)
again {y} {z} h = let e : y ≡ z = cc in ap (λ (v : Refusal). Err v) e

-- ---- from whether 15, 16, 17 and 18 hold
abbrev refusal_by : Bool → Bool → Bool → Bool → Option CloseReason
refusal_by p l z x = cond p (some partial) (cond l (some no_data) (cond z (some zero_total) (cond x (some too_high) none)))

module _ (F : Filing) (c : List ℕ) where
  by_stop : (p l z x : Bool) (y : Refusal) → Err y ≡ first_refusal p l z → file_out (Err y) c ≡ file_out_by (refusal_by p l z x) F c
  unfolding first_refusal file_out_by of_close_reason
  by_stop true l z x y h = ap (λ (r : Result FileReport Refusal). file_out r c) (again h)
  by_stop false true z x y h = ap (λ (r : Result FileReport Refusal). file_out r c) (again h)
  by_stop false false true x y h = ap (λ (r : Result FileReport Refusal). file_out r c) (again h)
  by_stop false false false x y h = let n : ⊥ = cc in absurd n

  no_stop : (p l z x : Bool) {u : Unit {0}} → Ok u ≡ first_refusal p l z → refusal_by p l z x ≡ cond x (some too_high) none
  unfolding first_refusal
  no_stop true l z x h = let n : ⊥ = cc in absurd n
  no_stop false true z x h = let n : ⊥ = cc in absurd n
  no_stop false false true x h = let n : ⊥ = cc in absurd n
  no_stop false false false x h = refl

none_zero : (p l z : Bool) {u : Unit {0}} → Ok u ≡ first_refusal p l z → T (not z)
unfolding first_refusal
none_zero true l z h = let n : ⊥ = cc in absurd n
none_zero false true z h = let n : ⊥ = cc in absurd n
none_zero false false true h = let n : ⊥ = cc in absurd n
none_zero false false false h = tt

module _ {t : Site} {n : ℕ} {k : Tallies} {w : Blocks} {ps xs ks : List ℕ} (fit : FileFits t n k w ps xs ks) (c : List ℕ) where
  abbrev F' : Filing
  F' = filing_held t n k true w

  -- E was taken
  refusal_is : closing_refusal F' ≡ refusal_by (close_holds partial F') (close_holds no_data F') (close_holds zero_total F') (close_holds too_high F')
  unfolding closing_refusal first_of close_order
  refusal_is = ap (λ (b : Bool). cond b (some no_end) (refusal_by (close_holds partial F') (close_holds no_data F') (close_holds zero_total F') (close_holds too_high F'))) ended
    where
      ended : close_holds no_end F' ≡ false
      ended = unfold close_holds filing_held in refl

  abbrev curves : List Bool
  curves = valid_curves t.al (history_years t.al t.filiere) w.near w.far k.breaks

  abbrev indexes : List Bool
  indexes = valid_indexes ps ks n (history_years t.al t.filiere).count k.breaks

  abbrev defaults : List Bool
  defaults = default_years (history_years t.al t.filiere).count (cases_of t.meter (history_years t.al t.filiere).count curves indexes)

  abbrev stop : Result (Unit {0}) Refusal
  stop = data_refusal (history_years t.al t.filiere) k.profile_dates k.daily_dates indexes defaults ps n (totals_of ps w.daily n)

  stop_is : stop ≡ first_refusal (close_holds partial F') (close_holds no_data F') (close_holds zero_total F')
  unfolding data_refusal history_of_site
  stop_is =
      rw (
        partial_held t n k true w,
        lacking_held t n k true w fit.columns (rise fit) fit.readings indexes (indexes_valid fit) defaults (default_is fit),
        zero_held t n k true w fit.columns (rise fit) fit.readings indexes (indexes_valid fit),
      )

  -- refused by 15, 16 or 17
  pub stopped : (y : Refusal) → Err y ≡ stop → file_out (Err y) c ≡ file_out_of F' c
  unfolding file_out_of
  stopped y e =
      by_stop F' c (close_holds partial F') (close_holds no_data F') (close_holds zero_total F') (close_holds too_high F') y (e ∙ stop_is)
      ∙ ap (λ (o : Option CloseReason). file_out_by o F' c) (sym refusal_is)

  module _ {u : Unit {0}} (e : Ok u ≡ stop) where
    passed : (x : Bool) → close_holds too_high F' ≡ x → closing_refusal F' ≡ cond x (some too_high) none
    passed x h =
        refusal_is ∙ no_stop F' c (close_holds partial F') (close_holds no_data F') (close_holds zero_total F') (close_holds too_high F') (e ∙ stop_is)
        ∙ ap (λ (b : Bool). cond b (some too_high) none) h

    -- 17 does not hold
    pub some_total : T (not (close_holds zero_total F'))
    some_total = none_zero (close_holds partial F') (close_holds no_data F') (close_holds zero_total F') (e ∙ stop_is)

    -- refused by 18
    pub exceeded : close_holds too_high F' ≡ true → file_out (Err TooHigh) c ≡ file_out_of F' c
    unfolding file_out_of file_out_by of_close_reason
    exceeded h = ap (λ (o : Option CloseReason). file_out_by o F' c) (sym (passed true h))

    -- reported
    pub reports : close_holds too_high F' ≡ false → file_out (Ok (report_repr (report_of F'))) (curve_of F') ≡ file_out_of F' c
    unfolding file_out_of file_out_by
    reports h = ap (λ (o : Option CloseReason). file_out_by o F' c) (sym (passed false h))
