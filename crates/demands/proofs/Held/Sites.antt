-- The site of a record that holds a file: S is the first line, and later lines leave what it said.
use mathlib.Core.Path.{◌≡◌, refl, ap, sym}
use mathlib.Core.Bool.{true, not}
use mathlib.Core.List.{List, [], ◌∷◌, ◌++◌}
use mathlib.Core.Option.{none}
use lib.Dec.{T, ltb, eqb}
use Rattle.lists.specs.Lists.{Each, each_nil, each_cons}
use Rattle.lists.proofs.Tests.{or_split, both_not, is_false, is_true}
use Rattle.calendar.specs.Spans.{axis_years}
use Rattle.meaning.specs.Line.{Line, S, rank, is, tag_of}
use Rattle.meaning.specs.Refusals.{Before, misplaced, holds}
use Rattle.meaning.specs.File.{site_in, history_in, axis_in, rules_out, misplaced_in, before_in, refusal_at}
use Rattle.meaning.specs.Record.{Rec, is_taken, site_of_rec, history_of_site, history_of_rec, axis_of_rec, misplaced_by, before_of}
use Rattle.meaning.specs.Calls.{rec_after}
use Rattle.meaning.proofs.Passed.{passed}
use Rattle.demands.proofs.Held.Parts.{HeldRec}
use Rattle.demands.proofs.Held.Order.{known_tag_lem, later_line, clear, site_step}

-- ---- S is the first line
pub placed : (ls : List Line) (l : Line) → refusal_at ls l ≡ none → T (not (misplaced_in ls (tag_of l)))
unfolding refusal_at holds before_in
placed ls l e = passed (before_in ls) l e misplaced

alone : {ls : List Line} → Each (λ (m : Line). T (not (rules_out (tag_of m) S))) ls → ls ≡ []
unfolding rules_out
alone each_nil = refl
alone (each_cons {x = m} h r) = absurd (or_split (ltb 1 (rank (tag_of m))) true h).1

pub first_line : (ls : List Line) (l : Line) → refusal_at ls l ≡ none → tag_of l ≡ S → ls ≡ []
first_line ls l e u = alone (clear ls S (rw u at (placed ls l e)))

-- ---- a later line
pub record Onward (ls : List Line) (l : Line) (s : Rec) : Type 0 where
  pub lines : site_in ls ≡ s.site
  pub longer : site_in (ls ++ (l ∷ [])) ≡ s.site
  pub taken : site_of_rec s ≡ s.site
  pub after : site_of_rec (rec_after (tag_of l) l s) ≡ s.site
  pub kept : (rec_after (tag_of l) l s).site ≡ s.site

pub onward : (ls : List Line) (l : Line) (s : Rec) → HeldRec ls s → refusal_at ls l ≡ none → T (not (is S (tag_of l))) → Onward ls l s
unfolding refusal_at site_of_rec is_taken rec_after
onward ls l s r e n = record {
  lines = sym r.site;
  longer = sym (rw (is_false (is S (tag_of l)) n) at (site_step ls l s.site r.site (λ t. absurd (both_not (is S (tag_of l)) t n))));
  taken = rw (is_true (not (eqb s.last 0)) (later_line s.last s.site.meter (tag_of l) (rw (← barred) at (placed ls l e)) n));
  after = rw (is_true (not (eqb (rank (tag_of l)) 0)) (known_tag_lem (before_in ls) l e), is_false (is S (tag_of l)) n);
  kept = rw (is_false (is S (tag_of l)) n);
}
  where
    barred : misplaced_by s.last s.site.meter (tag_of l) ≡ misplaced_in ls (tag_of l)
    barred = unfold before_of before_in in ap (λ (b : Before). b.misplaced (tag_of l)) r.before

-- ---- the years of the site
module _ {ls : List Line} {l : Line} {s : Rec} (o : Onward ls l s) where
  pub history_held : history_of_rec s ≡ history_of_site s.site
  unfolding history_of_rec
  history_held = ap history_of_site o.taken

  pub history_after : history_of_rec (rec_after (tag_of l) l s) ≡ history_of_site s.site
  unfolding history_of_rec
  history_after = ap history_of_site o.after

  pub history_lines : history_in ls ≡ history_of_site s.site
  unfolding history_in history_of_site
  history_lines = ap history_of_site o.lines

  pub history_longer : history_in (ls ++ (l ∷ [])) ≡ history_of_site s.site
  unfolding history_in history_of_site
  history_longer = ap history_of_site o.longer

  pub axis_held : axis_of_rec s ≡ axis_years (history_of_site s.site)
  unfolding axis_of_rec
  axis_held = ap axis_years history_held

  pub axis_after : axis_of_rec (rec_after (tag_of l) l s) ≡ axis_years (history_of_site s.site)
  unfolding axis_of_rec
  axis_after = ap axis_years history_after

  pub axis_lines : axis_in ls ≡ axis_years (history_of_site s.site)
  unfolding axis_in
  axis_lines = ap axis_years history_lines

  pub axis_longer : axis_in (ls ++ (l ∷ [])) ≡ axis_years (history_of_site s.site)
  unfolding axis_in
  axis_longer = ap axis_years history_longer
