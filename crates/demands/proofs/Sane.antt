-- The filing of accepted lines that end in E has what the bound rests on.
use mathlib.Core.Path.{◌≡◌, ap, ◌∙◌}
use mathlib.Core.Bool.{Bool, true, false, not, ◌&&◌, ◌||◌, cond}
use mathlib.Core.List.{List, [], ◌∷◌}
use mathlib.Core.Option.{some, none}
use Prim.Native.Nat.{ℕ, ◌-◌, ◌≤◌}
use native.Mathlib.Omega.{arith}
use lib.Dec.{T, eqb, leb}
use lib.ListN.{length, get_or}
use Rattle.lists.specs.Lists.{any, Each, each_cons}
use Rattle.lists.proofs.Laws.{first_none}
use Rattle.lists.proofs.Tests.{is_true, not_not}
use Rattle.calendar.specs.declared.Years.{Years}
use Rattle.calendar.specs.Spans.{among, is_known}
use Rattle.calendar.proofs.Laws.{among_words, history_short}
use Rattle.note.proofs.History.{ca_not_zero, ca_twofold}
use Rattle.meaning.specs.Filing.{Filing, history_of}
use Rattle.meaning.specs.Line.{Line}
use Rattle.meaning.specs.File.{site_in, history_in, ended_in, filing_in}
use Rattle.meaning.specs.Closing.{CloseReason, no_end, partial, no_data, zero_total, too_high, close_holds, close_order, closing_refusal}
use Rattle.meaning.specs.Blocks.{Blocks}
use Rattle.meaning.specs.Record.{Rec, is_taken, history_of_rec, is_within, by_year, rate_of_code, filing_held, filing_of}
use Rattle.meaning.proofs.Accepted.{between}
use Rattle.meaning.proofs.Lines.{timely}
use Rattle.demands.proofs.Bound.Sane.{Sane}
use Rattle.demands.proofs.Held.Parts.{HeldRec, HeldBlocks}
use Rattle.demands.proofs.Held.Ranges.{each_year_at}
use Rattle.demands.proofs.Held.Rec.{held_history, held_kept}
use Rattle.demands.proofs.Held.Follows.{held_taken, held_known, held_timely}

pub ended : (F : Filing) → closing_refusal F ≡ none → T F.ended
unfolding closing_refusal close_order close_holds
ended F e = go (first_none (λ k. close_holds k F) close_order e)
  where
    go : Each (λ (k : CloseReason). T (not (close_holds k F))) (no_end ∷ partial ∷ no_data ∷ zero_total ∷ too_high ∷ []) → T F.ended
    go (each_cons a r) = not_not F.ended a

taken : (ls : List Line) (s : Rec) → HeldRec ls s → T (ended_in ls) → T (is_taken s)
unfolding ended_in any
taken [] s h t = absurd t
taken (l ∷ ls) s h t = held_taken h

-- a rate that is present is in its range
rate_of : (n r : ℕ) → T (eqb n 0 || is_within 10 1000 n) → rate_of_code n ≡ some r → (10 ≤ r) × (r ≤ 1000)
unfolding rate_of_code is_within
rate_of n r t e = go (eqb n 0) t e
  where
    go : (b : Bool) → T (b || (leb 10 n && leb n 1000)) → cond b none (some n) ≡ some r → (10 ≤ r) × (r ≤ 1000)
    go true u q = let z : ◌≡◌ {A = ℕ} 0 1 = cc in absurd (omega arith)
    go false u q = let i : n ≡ r = cc in let b = between 10 n 1000 u in (omega arith, omega arith)

rate_held : (h : Years) (ns : List ℕ) (y r : ℕ) → T (among h y) → h.count ≤ 10 → length ns ≡ 10
    → T (Rattle.meaning.specs.Record.each_year h (λ z n. eqb n 0 || is_within 10 1000 n) ns) → rate_of_code (by_year h ns y) ≡ some r → (10 ≤ r) × (r ≤ 1000)
unfolding by_year
rate_held h ns y r a c l t e =
    let m = (among_words h y).0 a in
    rate_of (get_or ns (y - h.first) 0) r (each_year_at h (λ z n. eqb n 0 || is_within 10 1000 n) ns y t a (omega arith)) (rw (is_true (among h y) a) at e)

module _ (ls : List Line) (s : Rec) (w : Blocks) (h : HeldRec ls s) (k : HeldBlocks ls s w) (e : closing_refusal (filing_in ls) ≡ none) where
  site_known : T (is_known (site_in ls).al (site_in ls).filiere)
  unfolding filing_in
  site_known = rw h.site at (held_known h (taken ls s h (ended (filing_in ls) e)))

  soon : 6 ≤ (site_in ls).filiere → 2023 ≤ (site_in ls).al
  soon = timely (site_in ls).al (site_in ls).filiere (rw h.site at (held_timely h))

  rate_range : (y r : ℕ) → T (among (history_in ls) y) → (filing_in ls).rate y ≡ some r → (10 ≤ r) × (r ≤ 1000)
  unfolding filing_of filing_held history_in history_of_rec
  rate_range y r a q =
      let hist : history_of_rec s ≡ history_in ls = held_history h in
      rate_held (history_of_rec s) s.tallies.rates y r (rw hist a) (rw hist (history_short (site_in ls).al (site_in ls).filiere site_known)) h.shaped.rates (held_kept h).rates
      (ap (λ (F : Filing). F.rate y) k.filing ∙ q)

  pub sane : Sane (filing_in ls)
  unfolding history_of filing_in history_in
  sane = record {
    known = site_known;
    some_ca = λ y a. ca_not_zero (site_in ls).al (site_in ls).filiere y soon a;
    twofold = λ y z a b. ca_twofold (site_in ls).al (site_in ls).filiere y z soon a b;
    least_rate = λ y r a q. (rate_range y r a q).0;
    most_rate = λ y r a q. (rate_range y r a q).1;
  }
