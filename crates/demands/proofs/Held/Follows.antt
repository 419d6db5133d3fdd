-- What follows of a record that holds a file: S is taken where there is a line, AL and filière are known and not too soon, lines are few.
use mathlib.Core.Path.{◌≡◌, refl, ◌∙◌}
use mathlib.Core.Bool.{Bool, true, false, not, ◌&&◌, ◌||◌, cond, true≢false, false≢true}
use mathlib.Core.List.{List, [], ◌∷◌}
use Prim.Native.Nat.{ℕ, zero, suc, ◌≤◌}
use native.Mathlib.Omega.{arith}
use lib.Dec.{T, leb, ltb, eqb}
use lib.ListN.{length}
use borrow.Author.Tests.{ne_eqb}
use Rattle.lists.specs.Lists.{any, seek}
use Rattle.lists.proofs.Tests.{and_made, and_parts}
use Rattle.calendar.specs.Spans.{is_known}
use Rattle.meaning.specs.Filing.{Site, no_site}
use Rattle.meaning.specs.Line.{Line, S, E, rank, is, tag_of}
use Rattle.meaning.specs.Refusals.{is_too_soon}
use Rattle.meaning.specs.File.{site_in, axis_in, rules_out, misplaced_in}
use Rattle.meaning.specs.Record.{Rec, is_taken, site_of_rec, axis_of_rec, is_within, site_fits, misplaced_by}
use Rattle.demands.proofs.Held.Parts.{HeldRec}
use Rattle.demands.proofs.Held.Room.{lines_most}
use Rattle.demands.proofs.Held.Rec.{held_history, held_count, held_barred, held_kept}

-- ---- S has been taken exactly where there is a line
no_second : (a b c : Bool) → false ≡ (((a || (true || c)) || b) || false) → ⊥
no_second true b c e = false≢true e
no_second false b c e = false≢true e

pub held_taken : {l : Line} {ls : List Line} {s : Rec} → HeldRec (l ∷ ls) s → T (is_taken s)
unfolding is_taken misplaced_by misplaced_in any rules_out
held_taken {l = l} {ls = ls} {s = s} h = go s.last (held_barred h S)
  where
    go : (n : ℕ) → misplaced_by n s.site.meter S ≡ misplaced_in (l ∷ ls) S → T (not (eqb n 0))
    go zero e = absurd (no_second (ltb 1 (rank (tag_of l))) (any (λ (m : Line). rules_out (tag_of m) S) ls) (is E (tag_of l)) e)
    go (suc n) e = rw (ne_eqb (suc n) 0 (λ z. omega arith)) tt

pub held_none : {s : Rec} → HeldRec [] s → T (not (is_taken s))
unfolding is_taken misplaced_by misplaced_in
held_none {s = s} h = go s.last (held_barred h S)
  where
    go : (n : ℕ) → misplaced_by n s.site.meter S ≡ misplaced_in [] S → T (not (not (eqb n 0)))
    go zero e = tt
    go (suc n) e = absurd (again (ltb 1 (suc n)) (eqb 8 (suc n)) e)
      where
        again : (a c : Bool) → ((a || (true || c)) || false) ≡ false → ⊥
        again true c e = true≢false e
        again false c e = true≢false e

site_taken : (b : Bool) (x : Site) → T b → cond b x no_site ≡ x
site_taken true x t = refl
site_taken false x t = absurd t

site_none : (b : Bool) (x : Site) → T (not b) → cond b x no_site ≡ no_site
site_none true x t = absurd t
site_none false x t = refl

pub held_site : (ls : List Line) (s : Rec) → HeldRec ls s → site_of_rec s ≡ site_in ls
unfolding site_of_rec site_in seek
held_site [] s h = site_none (is_taken s) s.site (held_none h)
held_site (l ∷ ls) s h = site_taken (is_taken s) s.site (held_taken h) ∙ h.site

pub held_axis : {ls : List Line} {s : Rec} → HeldRec ls s → axis_of_rec s ≡ axis_in ls
unfolding axis_of_rec axis_in
held_axis h = rw (held_history h)

-- ---- S within its ranges
site_known : (a : Bool) (x : Site) → T a → T (site_fits a x) → T (is_known x.al x.filiere)
unfolding site_fits is_within is_known
site_known false x u t = absurd u
site_known true x u t =
    let t1 = and_parts (leb 2021 x.al && leb x.al 2026) _ t in
    let t2 = and_parts (leb 1 x.filiere && leb x.filiere 11) _ t1.1 in
    and_made (leb 2021 x.al && leb x.al 2026) (leb 1 x.filiere && leb x.filiere 11) t1.0 t2.0

pub held_known : {ls : List Line} {s : Rec} → HeldRec ls s → T (is_taken s) → T (is_known s.site.al s.site.filiere)
held_known {s = s} h t = site_known (is_taken s) s.site t (held_kept h).sited

pub held_timely : {ls : List Line} {s : Rec} → HeldRec ls s → T (not (is_too_soon s.site.al s.site.filiere))
held_timely h = (held_kept h).timely

-- ---- lines are few: 1 of S, 1,513 of C, 600 of X, 4,383 of D, 1,513 of P, 10 of B, 10 of R and 1 of E
pub held_few : {ls : List Line} {s : Rec} → HeldRec ls s → s.count ≤ 8031
held_few {s = s} h = omega (arith, h.few, lines_most s (held_kept h).readings)

pub few_lines : {ls : List Line} {s : Rec} → HeldRec ls s → length ls ≤ 8031
few_lines h = omega (arith, held_count h, held_few h)
