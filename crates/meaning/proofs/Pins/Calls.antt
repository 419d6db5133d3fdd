-- The calls leave what the words say.
use mathlib.Core.Path.{◌≡◌, refl, sym, subst}
use mathlib.Core.Logic.Iff
use mathlib.Core.Logic.{◌≢◌, ◌↔◌}
use mathlib.Core.Bool.{Bool, true, false, ◌&&◌, cond}
use mathlib.Core.Option.{Option, some, none}
use Prim.Native.Nat.{ℕ, zero, suc, ◌+◌}
use lib.Dec.{T, not_T}
use lib.ListN.{replicate, length-replicate}
use Rattle.lists.specs.Lists.{Each, each_nil, each_cons}
use Rattle.lists.proofs.Reflect.{of_and}
use Rattle.lists.proofs.Tests.{is_false, is_true}
use Rattle.meaning.proofs.States.{is_open_lem, not_open, open_only}
use Rattle.meaning.specs.Filing.{no_site}
use Rattle.meaning.specs.Line.{Line, Tag, S, C, X, D, P, B, R, E, other}
use Rattle.meaning.specs.Refusals.{Reason, number_of, refusal}
use Rattle.meaning.specs.Level.{report_of, curve_of, missing_entry}
use Rattle.meaning.specs.Closing.{CloseReason, close_number, closing_refusal}
use Rattle.meaning.specs.Blocks.{Blocks, missing_point, points_size, slots_size, daily_size, readings_size, curve_size, sizes_fit, fresh_reading, fresh_blocks}
use Rattle.meaning.specs.Record.{State, open_state, refused_state, closed_state, is_open, Rec, last_of, in_state, empty_rec, never_opened, fresh_rec, rec_fits, contents_fit, before_of, filing_of}
use Rattle.meaning.specs.Calls.{Out, out, accepted, refused, reported, leaves, opening_of, rec_after, line_by, with_curve, line_of, close_by, close_of}
use Rattle.meaning.specs.Restated.Calls.{Marked, Fit, FitClose, CallWords, FreshWords}
use Rattle.meaning.proofs.Sizes.{Sizes, sizes_fit_lem}

-- ---- what 1 checks
fits : (s : Rec) (w : Blocks) → Fit s w → (sizes_fit w && rec_fits s) ≡ true
fits s w f = is_true (sizes_fit w && rec_fits s) ((of_and (sizes_fit w) (rec_fits s) Iff.rfl Iff.rfl).1 f)

unfit : (s : Rec) (w : Blocks) → (¬ Fit s w) → (sizes_fit w && rec_fits s) ≡ false
unfit s w n = is_false (sizes_fit w && rec_fits s) (not_T (sizes_fit w && rec_fits s) (λ t. n ((of_and (sizes_fit w) (rec_fits s) Iff.rfl Iff.rfl).0 t)))

close_test : (s : Rec) (w : Blocks) → T (sizes_fit w && (rec_fits s && contents_fit s w)) ↔ FitClose s w
close_test s w = of_and (sizes_fit w) (rec_fits s && contents_fit s w) Iff.rfl (of_and (rec_fits s) (contents_fit s w) Iff.rfl Iff.rfl)

fits_close : (s : Rec) (w : Blocks) → FitClose s w → (sizes_fit w && (rec_fits s && contents_fit s w)) ≡ true
fits_close s w f = is_true (sizes_fit w && (rec_fits s && contents_fit s w)) ((close_test s w).1 f)

unfit_close : (s : Rec) (w : Blocks) → (¬ FitClose s w) → (sizes_fit w && (rec_fits s && contents_fit s w)) ≡ false
unfit_close s w n = is_false (sizes_fit w && (rec_fits s && contents_fit s w)) (not_T (sizes_fit w && (rec_fits s && contents_fit s w)) (λ t. n ((close_test s w).0 t)))

-- ---- a record with another state and count
marked : (st : State) (c : ℕ) (s : Rec) → Marked st c s (in_state st c s)
unfolding in_state
marked st c s = record { state = refl; count = refl; last = refl; site = refl; readings = refl; last_index = refl; lasts = refl; tallies = refl }

-- ---- lines
pub line_is : (s : Rec) (l : Line) (w : Blocks) → Fit s w → s.state ≡ open_state → (o : Option Reason) → refusal (before_of s) l ≡ o → line_of s l w ≡ line_by o s l w
unfolding line_of
line_is s l w f e o h = rw (fits s w f, is_open_lem s.state e, h)

close_is : (s : Rec) (w : Blocks) → FitClose s w → s.state ≡ open_state → (o : Option CloseReason) → closing_refusal (filing_of s w) ≡ o → close_of s w ≡ close_by o s w
unfolding close_of
close_is s w f e o h = rw (fits_close s w f, is_open_lem s.state e, h)

refused_line : (s : Rec) (l : Line) (w : Blocks) (y : Reason)
    → ((line_by (some y) s l w).answer ≡ refused (number_of y) (s.count + 1)) × Marked refused_state (s.count + 1) s (line_by (some y) s l w).after × ((line_by (some y) s l w).blocks ≡ w)
unfolding line_by
refused_line s l w y = (refl, marked refused_state (s.count + 1) s, refl)

taken_line : (s : Rec) (l : Line) (w : Blocks) → s.state ≡ open_state
    → ((line_by none s l w).answer ≡ accepted) × ((line_by none s l w).after.state ≡ open_state) × ((line_by none s l w).after.count ≡ s.count + 1)
unfolding line_by rec_after
taken_line s l w e = (refl, e, refl)

refused_close : (s : Rec) (w : Blocks) (k : CloseReason)
    → ((close_by (some k) s w).answer ≡ refused (close_number k) s.count) × Marked refused_state s.count s (close_by (some k) s w).after × ((close_by (some k) s w).blocks ≡ w)
unfolding close_by
refused_close s w k = (refl, marked refused_state s.count s, refl)

reported_close : (s : Rec) (w : Blocks)
    → ((close_by none s w).answer ≡ reported (report_of (filing_of s w))) × Marked closed_state s.count s (close_by none s w).after × ((close_by none s w).blocks ≡ with_curve w (curve_of (filing_of s w)))
unfolding close_by
reported_close s w = (refl, marked closed_state s.count s, refl)

shut_after : (s : Rec) (w : Blocks) (o : Option CloseReason) → (close_by o s w).after.state ≢ open_state
unfolding close_by in_state
shut_after s w none = open_only closed_state refl
shut_after s w (some k) = open_only refused_state refl

after_any_close : (s : Rec) (w : Blocks) → FitClose s w → (close_of s w).after.state ≢ open_state
unfolding close_of leaves
after_any_close s w f = rw (fits_close s w f) (go (is_open s.state) refl)
  where
    go : (b : Bool) → is_open s.state ≡ b → (cond {A = Out} b (close_by (closing_refusal (filing_of s w)) s w) (out (refused 13 s.count) s w)).after.state ≢ open_state
    go true e = shut_after s w (closing_refusal (filing_of s w))
    go false e = open_only s.state e

pub call_words : CallWords
unfolding never_opened fresh_rec empty_rec opening_of line_of close_of leaves
call_words = record {
  never = refl;
  fresh = refl;
  opening = λ s w t. rw (is_true (sizes_fit w) t);
  opening_1 = λ s w n. rw (is_false (sizes_fit w) (not_T (sizes_fit w) n));
  line_1 = λ s l w n. rw (unfit s w n);
  close_1 = λ s w n. rw (unfit_close s w n);
  line_13 = λ s l w f n. rw (fits s w f, not_open s.state n);
  close_13 = λ s w f n. rw (fits_close s w f, not_open s.state n);
  line_refused = λ s l w y f e h. subst (λ (o : Out). (o.answer ≡ refused (number_of y) (s.count + 1)) × Marked refused_state (s.count + 1) s o.after × (o.blocks ≡ w)) (sym (line_is s l w f e (some y) h)) (refused_line s l w y);
  line_taken = λ s l w f e h. subst (λ (o : Out). (o.answer ≡ accepted) × (o.after.state ≡ open_state) × (o.after.count ≡ s.count + 1)) (sym (line_is s l w f e none h)) (taken_line s l w e);
  close_refused = λ s w k f e h. subst (λ (o : Out). (o.answer ≡ refused (close_number k) s.count) × Marked refused_state s.count s o.after × (o.blocks ≡ w)) (sym (close_is s w f e (some k) h)) (refused_close s w k);
  close_reports = λ s w f e h. subst (λ (o : Out). (o.answer ≡ reported (report_of (filing_of s w))) × Marked closed_state s.count s o.after × (o.blocks ≡ with_curve w (curve_of (filing_of s w)))) (sym (close_is s w f e none h)) (reported_close s w);
  after_close = after_any_close;
}

-- ---- what an opening leaves
each_fresh : {A : Type 0} (n : ℕ) (v : A) → Each (λ x. x ≡ v) (replicate n v)
each_fresh zero v = each_nil
each_fresh (suc n) v = each_cons refl (each_fresh n v)

no_last : (t : Tag) → last_of fresh_rec.lasts t ≡ 0
unfolding fresh_rec empty_rec
no_last S = refl
no_last C = refl
no_last X = refl
no_last D = refl
no_last P = refl
no_last B = refl
no_last R = refl
no_last E = refl
no_last other = refl

fresh_sizes : Sizes fresh_blocks
unfolding fresh_blocks
fresh_sizes = record {
  near = length-replicate points_size missing_point;
  far = length-replicate points_size missing_point;
  slots = length-replicate {A = ℕ} slots_size 0;
  daily = length-replicate {A = ℕ} daily_size 0;
  readings = length-replicate readings_size fresh_reading;
  curve = length-replicate curve_size missing_entry;
}

pub fresh_words : FreshWords
unfolding fresh_blocks fresh_rec empty_rec no_site
fresh_words = record {
  near = each_fresh points_size missing_point;
  far = each_fresh points_size missing_point;
  slots = each_fresh slots_size 0;
  daily = each_fresh daily_size 0;
  listed = each_fresh readings_size fresh_reading;
  curve = each_fresh curve_size missing_entry;
  sizes = sizes_fit_lem fresh_blocks fresh_sizes;
  count = refl;
  last = refl;
  site = refl;
  readings = refl;
  last_index = refl;
  lasts = no_last;
  profile_dates = each_fresh 10 0;
  daily_dates = each_fresh 12 0;
  breaks = each_fresh 10 0;
  rates = each_fresh 10 0;
}
