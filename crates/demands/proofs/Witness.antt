-- The three demands are not empty: a file gets a level, every run over it reports that level, and demand 3 bounds it.
use mathlib.Core.Path.{◌≡◌, ap, subst, ◌∙◌}
use mathlib.Core.Bool.{Bool, cond}
use mathlib.Core.List.{List, [], ◌∷◌, ◌++◌, map}
use mathlib.Core.Option.{none}
use Prim.Native.Nat.{ℕ}
use native.Mathlib.Omega.{arith}
use lib.Dec.{T}
use Rattle.lists.specs.Lists.{Each, Some}
use Rattle.lists.proofs.Laws.{paired}
use Rattle.lists.proofs.Tests.{is_true}
use Rattle.calendar.specs.Spans.{is_known, history_length, history_years, among}
use Rattle.note.proofs.History.{ca_not_zero, ca_twofold}
use Rattle.meaning.specs.Filing.{Site, history_of}
use Rattle.meaning.specs.Line.{Line}
use Rattle.meaning.specs.File.{site_in, filing_in}
use Rattle.meaning.specs.Level.{Report, report_of}
use Rattle.meaning.specs.Closing.{closing_refusal}
use Rattle.meaning.specs.Blocks.{Blocks, sizes_fit, fresh_blocks}
use Rattle.meaning.specs.Record.{Rec, never_opened, fresh_rec}
use Rattle.meaning.specs.Calls.{Answer, accepted, reported, out, leaves, opening_of}
use Rattle.meaning.specs.Sheet.{level, Outcome, sheet_of}
use Rattle.demands.specs.CallLists.{line, close, Answered, answers_of, run}
use Rattle.demands.specs.Demands.{Bounded, BoundedIfReported}
use Rattle.demands.specs.Witness.{witness_lines}
use Rattle.demands.proofs.Bound.Sane.{Sane}
use Rattle.demands.proofs.Bound.Years.{InHistory}
use Rattle.demands.proofs.Demand2.{held_fresh, demand_2}
use Rattle.demands.proofs.Demand3.{demand_3}
use Rattle.demands.proofs.Witness.Taken.{Reported, taken_level, taken_answers, taken_points}
use Rattle.demands.proofs.Witness.CurvesAlone.{no_dates, curves_alone}
use Rattle.demands.proofs.Witness.Lines.{taken}
use Rattle.demands.proofs.Witness.Contents.{its_site, its_readings, its_rates, its_profiles, its_sums, its_end, its_curve}
pub mod Taken
pub mod CurvesAlone
pub mod Lines
pub mod Contents

-- a report among the answers of demand 3 is within its bound
reported_within : (f : List Line) {xs : List Answered} → Some (Reported f) xs → Each (λ (a : Answered). BoundedIfReported a.file a.answer) xs
    → Bounded (filing_in f) (report_of (filing_in f))
unfolding BoundedIfReported
reported_within f s r =
    let e = paired s r in
    subst (λ (g : List Line). BoundedIfReported g (reported (report_of (filing_in f)))) e.1.0
    (subst (λ (k : Answer). BoundedIfReported e.0.file k) e.1.1 e.2)

fresh_fits : T (sizes_fit fresh_blocks)
fresh_fits = held_fresh.blocks.sized

opening_taken : (s : Rec) (w : Blocks) → T (sizes_fit w) → (opening_of s w).answer ≡ accepted
unfolding opening_of
opening_taken s w t = ap (λ (b : Bool). (cond b (out accepted fresh_rec fresh_blocks) (leaves 1 s w)).answer) (is_true (sizes_fit w) t)

known_at : (al f : ℕ) → al ≡ 2024 → f ≡ 2 → T (is_known al f)
unfolding is_known
known_at al f e g = rw (e, g) tt

its_al : (site_in witness_lines).al ≡ 2024
its_al = ap (λ (t : Site). t.al) its_site

its_filiere : (site_in witness_lines).filiere ≡ 2
its_filiere = ap (λ (t : Site). t.filiere) its_site

its_sane : Sane (filing_in witness_lines)
unfolding history_of filing_in
its_sane = record {
  known = known_at (site_in witness_lines).al (site_in witness_lines).filiere its_al its_filiere;
  some_ca = λ y a. ca_not_zero (site_in witness_lines).al (site_in witness_lines).filiere y (λ h. omega (arith, its_filiere)) a;
  twofold = λ y z a b. ca_twofold (site_in witness_lines).al (site_in witness_lines).filiere y z (λ h. omega (arith, its_filiere)) a b;
  least_rate = λ y r a q. let n = its_rates y in let z : ◌≡◌ {A = ℕ} 0 1 = cc in absurd (omega arith);
  most_rate = λ y r a q. let n = its_rates y in let z : ◌≡◌ {A = ℕ} 0 1 = cc in absurd (omega arith);
}

in_history : InHistory (filing_in witness_lines) 2019
unfolding history_of filing_in history_years is_known history_length among
in_history = rw its_site tt

-- no refusal of 14 to 18
not_refused : closing_refusal (filing_in witness_lines) ≡ none
unfolding filing_in
not_refused =
    curves_alone (filing_in witness_lines) its_sane (rw its_site) its_readings 2019 in_history its_curve (taken_points witness_lines taken) its_end
    (no_dates (filing_in witness_lines) its_profiles its_sums)

its_level : sheet_of witness_lines ≡ level (report_of (filing_in witness_lines))
its_level = taken_level witness_lines taken not_refused

-- ---- the file gets a level
pub witness : (r : Report) × (sheet_of witness_lines ≡ level r)
witness = (report_of (filing_in witness_lines), its_level)

-- so does every run over it
pub witness_run : (s : Rec) (w : Blocks) → T (sizes_fit w) → (run s w witness_lines).sheet ≡ level (report_of (filing_in witness_lines))
unfolding sheet_of
witness_run s w t = ap (λ (o : Outcome). o.sheet) (demand_2 s w t witness_lines) ∙ its_level

-- so do the calls of demand 3, with their file
pub witness_bounded : (s : Rec) (w : Blocks) → T (sizes_fit w)
    → Some (λ (a : Answered). (a.file ≡ witness_lines) × (a.answer ≡ reported (report_of (filing_in witness_lines)))) (answers_of s w (map line witness_lines ++ (close ∷ [])))
witness_bounded s w t = taken_answers witness_lines taken not_refused s w t

-- which puts that level within the bound of the exact fraction
pub witness_within : Bounded (filing_in witness_lines) (report_of (filing_in witness_lines))
witness_within = reported_within witness_lines (witness_bounded never_opened fresh_blocks fresh_fits) (demand_3 never_opened fresh_blocks (opening_taken never_opened fresh_blocks fresh_fits) _)
