-- The record holds the file's lines: a fresh record holds none, and an accepted line keeps that so.
use mathlib.Core.Path.{◌≡◌, refl, ap, sym, subst, ◌∙◌}
use mathlib.Core.Bool.{Bool, true, false, not, cond}
use mathlib.Core.List.{List, [], ◌∷◌, ◌++◌}
use mathlib.Core.Option.{Option, some, none}
use Prim.Native.Nat.{ℕ, ◌+◌, ◌≤◌}
use native.Mathlib.Omega.{arith}
use lib.Dec.{T, eqb}
use lib.ListN.{length, set, length-append, length-set}
use Rattle.lists.specs.Lists.{any, all_at, or, or_else, seek, latest, count}
use Rattle.lists.proofs.Snoc.{latest_snoc, count_snoc}
use Rattle.lists.proofs.Tests.{is_true, passed as test-passed}
use Rattle.calendar.specs.Spans.{is_known, history_years, axis_years}
use Rattle.meaning.specs.Filing.{Site, no_site}
use Rattle.meaning.specs.Line.{Line, Tag, S, C, X, D, P, B, R, E, other, rank, is, tag_of, number_at, is_rising}
use Rattle.meaning.specs.Refusals.{Before, misplaced, holds, refusal, is_too_soon}
use Rattle.meaning.specs.File.{site_in, history_in, misplaced_in, not_later_in, last_index_in, before_in, refusal_at}
use Rattle.meaning.specs.Record.{open_state, Rec, empty_rec, fresh_rec, is_taken, site_of_rec, history_of_site, history_of_rec, axis_of_rec, is_within, meter_fits, site_fits, date_fits, year_fits, last_dates_fit, each_year, tallies_fit, rec_fits, misplaced_by, not_later_by, before_of}
use Rattle.meaning.specs.Calls.{one_more, tallies_after, rec_after}
use Rattle.meaning.proofs.Passed.{passed}
use Rattle.meaning.proofs.Accepted.{is_tag}
use Rattle.meaning.proofs.Lines.{rank_most}
use Rattle.demands.proofs.Held.Parts.{Shaped, HeldRec}
use Rattle.demands.proofs.Held.Order.{known_tag_lem, barred_step, site_step}
use Rattle.demands.proofs.Held.Rising.{later, reached_step}
use Rattle.demands.proofs.Held.Fits.{Kept, kept_of, fits_of}
use Rattle.demands.proofs.Held.Room.{lines_most}
use Rattle.demands.proofs.Held.First.{kept_first}
use Rattle.demands.proofs.Held.Later.{kept_later}

-- ---- a fresh record holds no line
fresh_reached : (t : Tag) (d : ℕ) → not_later_by fresh_rec.lasts t d ≡ not_later_in [] t d
unfolding fresh_rec empty_rec not_later_by not_later_in is_rising any
fresh_reached S d = refl
fresh_reached C d = refl
fresh_reached X d = refl
fresh_reached D d = refl
fresh_reached P d = refl
fresh_reached B d = refl
fresh_reached R d = refl
fresh_reached E d = refl
fresh_reached other d = refl

fresh_before : before_of fresh_rec ≡ before_in []
unfolding before_of before_in fresh_rec empty_rec misplaced_by misplaced_in history_of_rec site_of_rec is_taken history_of_site history_in site_in seek no_site last_index_in latest count
fresh_before i = record {
  misplaced = misplaced_in [];
  history = history_in [];
  not_later = λ t d. fresh_reached t d i;
  last_index = 0;
  readings = 0;
  lines = 0;
}

pub rec_fresh : HeldRec [] fresh_rec
unfolding fresh_rec empty_rec site_in seek no_site rec_fits site_fits meter_fits is_taken is_too_soon is_within last_dates_fit date_fits year_fits tallies_fit each_year all_at history_of_rec axis_of_rec site_of_rec history_of_site history_years axis_years is_known
rec_fresh = record {
  opened = refl;
  site = refl;
  before = fresh_before;
  shaped = record { profile_dates = refl; daily_dates = refl; breaks = refl; rates = refl };
  fits = tt;
  profiled = tt;
  summed = tt;
  few = omega arith;
}

-- ---- an accepted line
-- what it is to hold the lines, look-up by look-up
pub held_history : {ls : List Line} {s : Rec} → HeldRec ls s → history_of_rec s ≡ history_in ls
unfolding before_of before_in
held_history h = ap (λ (b : Before). b.history) h.before

pub held_count : {ls : List Line} {s : Rec} → HeldRec ls s → s.count ≡ length ls
unfolding before_of before_in
held_count h = ap (λ (b : Before). b.lines) h.before

pub held_readings : {ls : List Line} {s : Rec} → HeldRec ls s → s.readings ≡ count (λ (l : Line). is X (tag_of l)) ls
unfolding before_of before_in
held_readings h = ap (λ (b : Before). b.readings) h.before

pub held_index : {ls : List Line} {s : Rec} → HeldRec ls s → s.last_index ≡ last_index_in ls
unfolding before_of before_in
held_index h = ap (λ (b : Before). b.last_index) h.before

pub held_barred : {ls : List Line} {s : Rec} → HeldRec ls s → (t : Tag) → misplaced_by s.last s.site.meter t ≡ misplaced_in ls t
unfolding before_of before_in
held_barred h t = ap (λ (b : Before). b.misplaced t) h.before

pub held_reached : {ls : List Line} {s : Rec} → HeldRec ls s → (t : Tag) (d : ℕ) → not_later_by s.lasts t d ≡ not_later_in ls t d
unfolding before_of before_in
held_reached h t d = ap (λ (b : Before). b.not_later t d) h.before

-- the record accepts a line where the file does
pub held_refusal : {ls : List Line} {s : Rec} → HeldRec ls s → (l : Line) → refusal (before_of s) l ≡ refusal_at ls l
unfolding refusal_at
held_refusal h l = ap (λ (b : Before). refusal b l) h.before

pub held_kept : {ls : List Line} {s : Rec} → HeldRec ls s → Kept s
held_kept {s = s} h = kept_of s h.fits h.profiled h.summed h.few

kept_after : (s : Rec) (l : Line) → refusal (before_of s) l ≡ none → Kept s → Kept (rec_after (tag_of l) l s)
kept_after s l e k = go (is S (tag_of l)) refl
  where
    go : (b : Bool) → is S (tag_of l) ≡ b → Kept (rec_after (tag_of l) l s)
    go true u = let t = is_tag S (tag_of l) (test-passed _ u) in subst (λ (t : Tag). Kept (rec_after t l s)) t (kept_first s l e (sym t) k)
    go false u = kept_later s l e (rw u tt) k

set_shaped : (b : Bool) (ns : List ℕ) (i v n : ℕ) → length ns ≡ n → length (cond b (set ns i v) ns) ≡ n
set_shaped true ns i v n e = length-set ns i v ∙ e
set_shaped false ns i v n e = e

shaped_after : (s : Rec) (l : Line) → Shaped s.tallies → Shaped (rec_after (tag_of l) l s).tallies
unfolding rec_after tallies_after one_more
shaped_after s l h = record {
  profile_dates = set_shaped (is P (tag_of l)) s.tallies.profile_dates _ _ 10 h.profile_dates;
  daily_dates = set_shaped (is D (tag_of l)) s.tallies.daily_dates _ _ 12 h.daily_dates;
  breaks = set_shaped (is B (tag_of l)) s.tallies.breaks _ _ 10 h.breaks;
  rates = set_shaped (is R (tag_of l)) s.tallies.rates _ _ 10 h.rates;
}

index_by : (b : Bool) (v n : ℕ) (o : Option ℕ) → n ≡ or_else o 0 → cond b v n ≡ or_else (or (cond b (some v) none) o) 0
index_by true v n o e = refl
index_by false v n o e = e

index_step : (ls : List Line) (l : Line) (n : ℕ) → n ≡ last_index_in ls → cond (is X (tag_of l)) (number_at l 4) n ≡ last_index_in (ls ++ (l ∷ []))
unfolding last_index_in
index_step ls l n e =
    index_by (is X (tag_of l)) (number_at l 4) n (latest (λ (m : Line). cond (is X (tag_of m)) (some (number_at m 4)) none) ls) e
    ∙ ap (λ (o : Option ℕ). or_else o 0) (sym (latest_snoc (λ (m : Line). cond (is X (tag_of m)) (some (number_at m 4)) none) ls l))

readings_step : (ls : List Line) (l : Line) (n : ℕ) → n ≡ count (λ (m : Line). is X (tag_of m)) ls
    → cond (is X (tag_of l)) (n + 1) n ≡ count (λ (m : Line). is X (tag_of m)) (ls ++ (l ∷ []))
readings_step ls l n e = rw e (sym (count_snoc (λ (m : Line). is X (tag_of m)) ls l))

module _ (ls : List Line) (l : Line) (s : Rec) (h : HeldRec ls s) (a : refusal_at ls l ≡ none) where
  placed : T (not (misplaced_in ls (tag_of l)))
  unfolding refusal_at holds before_in
  placed = passed (before_in ls) l a misplaced

  known : T (not (eqb (rank (tag_of l)) 0))
  unfolding refusal_at
  known = known_tag_lem (before_in ls) l a

  accepted : refusal (before_of s) l ≡ none
  accepted = held_refusal h l ∙ a

  site_after : (rec_after (tag_of l) l s).site ≡ site_in (ls ++ (l ∷ []))
  unfolding rec_after
  site_after = site_step ls l s.site h.site (λ t. rw (← is_tag S (tag_of l) t) at placed)

  history_after : history_of_rec (rec_after (tag_of l) l s) ≡ history_in (ls ++ (l ∷ []))
  unfolding history_of_rec site_of_rec is_taken history_of_site history_in
  history_after = rw (site_after, taken_after)
    where
      taken_after : not (eqb (rec_after (tag_of l) l s).last 0) ≡ true
      taken_after = unfold rec_after in is_true (not (eqb (rank (tag_of l)) 0)) known

  before_after : before_of (rec_after (tag_of l) l s) ≡ before_in (ls ++ (l ∷ []))
  unfolding before_of before_in rec_after
  before_after i = record {
    misplaced = λ u. barred_step ls l (rec_after (tag_of l) l s).site.meter (ap (λ (x : Site). x.meter) site_after) known placed u i;
    history = history_after i;
    not_later = λ u d. reached_step ls l s.lasts (held_reached h) (later s l accepted) u d i;
    last_index = index_step ls l s.last_index (held_index h) i;
    readings = readings_step ls l s.readings (held_readings h) i;
    lines = lines i;
  }
    where
      lines : s.count + 1 ≡ length (ls ++ (l ∷ []))
      lines = omega (arith, held_count h, length-append ls (l ∷ []))

  pub rec_step : HeldRec (ls ++ (l ∷ [])) (rec_after (tag_of l) l s)
  rec_step = record {
    opened = opened;
    site = site_after;
    before = before_after;
    shaped = shaped_after s l h.shaped;
    fits = fits_of (rec_after (tag_of l) l s) kept (omega (arith, kept.few, lines_most (rec_after (tag_of l) l s) kept.readings)) (last_most (tag_of l));
    profiled = kept.profiled;
    summed = kept.summed;
    few = kept.few;
  }
    where
      kept : Kept (rec_after (tag_of l) l s)
      kept = kept_after s l accepted (held_kept h)

      opened : (rec_after (tag_of l) l s).state ≡ open_state
      opened = unfold rec_after in h.opened

      last_most : (t : Tag) → (rec_after t l s).last ≤ 8
      last_most t = unfold rec_after in rank_most t
