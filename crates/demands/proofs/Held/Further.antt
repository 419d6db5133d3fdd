-- A line after S: record and blocks say what the lines say with it.
use mathlib.Core.Path.{◌≡◌, refl, ap, sym, ◌∙◌}
use mathlib.Core.Bool.{not, ◌||◌, cond}
use mathlib.Core.List.{List, [], ◌∷◌, ◌++◌}
use mathlib.Core.Option.{none}
use Prim.Native.Nat.{◌+◌}
use native.Mathlib.Omega.{arith}
use lib.Dec.{T, ltb, eqb}
use Rattle.lists.specs.Lists.{any}
use Rattle.lists.proofs.Laws.{any_snoc, any_some, paired}
use Rattle.lists.proofs.Tables.{each_snoc}
use Rattle.lists.proofs.Tests.{or_absorb, or_split, both_not}
use Rattle.calendar.specs.Spans.{axis_years}
use Rattle.note.specs.Coefficients.{ca_of}
use Rattle.meaning.specs.Filing.{Site, Filing}
use Rattle.meaning.specs.Line.{Line, Tag, S, C, X, D, P, B, R, E, other, rank, is, tag_of, is_rising}
use Rattle.meaning.specs.File.{axis_in, rules_out, refusal_at, readings_in, ended_in, filing_in}
use Rattle.meaning.specs.Blocks.{Blocks, readings_of}
use Rattle.meaning.specs.Record.{Rec, history_of_site, contents_fit, filing_held, filing_of}
use Rattle.meaning.specs.Calls.{tallies_after, rec_after, blocks_after}
use Rattle.demands.proofs.Held.Parts.{HeldRec, HeldBlocks}
use Rattle.demands.proofs.Held.Order.{clear}
use Rattle.demands.proofs.Held.Sites.{placed, Onward, history_held, history_after, axis_held, axis_after, axis_lines, axis_longer}
use Rattle.demands.proofs.Held.Spans.{history_count, axis_count}
use Rattle.meaning.proofs.Sizes.{Sizes, sizes_of, sizes_fit_lem}
use Rattle.demands.proofs.Held.Sizes.{sizes_after}
use Rattle.demands.proofs.Held.Points.{point_step}
use Rattle.demands.proofs.Held.Profiles.{profile_step}
use Rattle.demands.proofs.Held.Daily.{daily_step}
use Rattle.demands.proofs.Held.Readings.{readings_step}
use Rattle.demands.proofs.Held.Years.{broken_step, rate_step, dates_step}
use Rattle.demands.proofs.Held.Contents.{Contents, contents_of, contents_fit_lem, near_fits, far_fits, slots_fit_lem, daily_fits_lem}
use Rattle.demands.proofs.Held.Sequence.{not_falling, sequence_step}
use Rattle.demands.proofs.Held.Lines.{points_in_lem, profiles_in, kinds_in, rates_in, later, on_x_lem, line_date, on_c, on_p, on_d, on_b, on_r, has_room}
use Rattle.demands.proofs.Held.Start.{never_nil}

-- ---- no line writes the curve
same_curve : (t : Tag) (l : Line) (s : Rec) (w : Blocks) → (blocks_after t l s w).curve ≡ w.curve
unfolding blocks_after
same_curve t l s w = refl

-- ---- E is the last line
end_stops : (k t : Tag) → T (not (rules_out k t)) → T (not (is E k))
unfolding rules_out
end_stops k t h = (or_split (is S t) (is E k) (or_split (ltb (rank t) (rank k)) (is S t || is E k) h).1).1

is_end : (t : Tag) → eqb (rank t) 8 ≡ is E t
is_end S = refl
is_end C = refl
is_end X = refl
is_end D = refl
is_end P = refl
is_end B = refl
is_end R = refl
is_end E = refl
is_end other = refl

ended_step : (ls : List Line) (l : Line) → refusal_at ls l ≡ none → eqb (rank (tag_of l)) 8 ≡ ended_in (ls ++ (l ∷ []))
unfolding ended_in
ended_step ls l e =
    is_end (tag_of l)
    ∙ sym (any_snoc (λ (m : Line). is E (tag_of m)) ls l ∙ or_absorb (any (λ (m : Line). is E (tag_of m)) ls) (is E (tag_of l))
    (λ h. let (m, a, b) = paired (any_some (λ (m : Line). is E (tag_of m)) ls h) (clear ls (tag_of l) (placed ls l e)) in
    absurd (both_not (is E (tag_of m)) a (end_stops (tag_of m) (tag_of l) b))))

-- ---- any later line
module _ (ls : List Line) (l : Line) (s : Rec) (w : Blocks) (r : HeldRec ls s) (h : HeldBlocks ls s w) (e : refusal_at ls l ≡ none) (o : Onward ls l s) where
  sizes : Sizes w
  sizes = sizes_of w h.sized

  same_axis : axis_in (ls ++ (l ∷ [])) ≡ axis_in ls
  same_axis = axis_longer o ∙ sym (axis_lines o)

  -- what record and blocks said before
  before : filing_held s.site s.readings s.tallies (eqb s.last 8) w ≡ filing_in ls
  unfolding filing_of
  before = sym (ap (λ (t : Site). filing_held t s.readings s.tallies (eqb s.last 8) w) o.taken) ∙ h.filing

  readings_before : readings_of w s.readings ≡ readings_in ls
  unfolding filing_held filing_in
  readings_before = ap (λ (F : Filing). F.readings) before

  readings_after : readings_of (blocks_after (tag_of l) l s w) (cond (is X (tag_of l)) (s.readings + 1) s.readings) ≡ readings_in (ls ++ (l ∷ []))
  readings_after = readings_step ls l s w sizes (axis_held o ∙ sym (axis_lines o)) same_axis (has_room ls l e s r) readings_before

  -- ---- the look-ups
  fields : filing_held s.site (cond (is X (tag_of l)) (s.readings + 1) s.readings)
      (tallies_after (history_of_site s.site) (axis_years (history_of_site s.site)) (tag_of l) l s.tallies) (eqb (rank (tag_of l)) 8) (blocks_after (tag_of l) l s w)
      ≡ filing_in (ls ++ (l ∷ []))
  unfolding filing_held filing_in tallies_after is_rising
  fields = λ i. record {
    site = sym o.longer i;
    point = λ y v q. point_step ls l s w sizes h.dated (on_c ls l e s o) (points_in_lem ls l e) (later ls l e C tt) y v q (ap (λ (F : Filing). F.point y v q) before) i;
    profile = λ y v q. profile_step ls l s w sizes (history_held o) h.dated (on_p ls l e s o) (later ls l e P tt) y v q (ap (λ (F : Filing). F.profile y v q) before) i;
    daily = λ y p. daily_step ls l s w sizes (axis_held o) (on_d ls l e s o) (later ls l e D tt) y p (ap (λ (F : Filing). F.daily y p) before) i;
    readings = readings_after i;
    broken = λ y. broken_step ls l (history_of_site s.site) s.tallies.breaks (on_b ls l e s o) (omega (arith, history_count s.site, r.shaped)) y
        (ap (λ (F : Filing). F.broken y) before) i;
    rate = λ y. rate_step ls l (history_of_site s.site) s.tallies.rates (on_r ls l e s o) (omega (arith, history_count s.site, r.shaped)) (rates_in ls l e) (later ls l e R tt) y
        (ap (λ (F : Filing). F.rate y) before) i;
    profile_dates = λ y. dates_step P ls l (history_of_site s.site) s.tallies.profile_dates (λ p. (on_p ls l e s o p).year) (omega (arith, history_count s.site, r.shaped)) y
        (ap (λ (F : Filing). F.profile_dates y) before) i;
    daily_dates = λ y. dates_step D ls l (axis_years (history_of_site s.site)) s.tallies.daily_dates (λ d. (on_d ls l e s o d).year) (omega (arith, axis_count s.site, r.shaped)) y
        (ap (λ (F : Filing). F.daily_dates y) before) i;
    ended = ended_step ls l e i;
    ca = λ y. ca_of y (sym o.longer i).filiere;
  }

  filing_step : filing_of (rec_after (tag_of l) l s) (blocks_after (tag_of l) l s w) ≡ filing_in (ls ++ (l ∷ []))
  unfolding filing_of rec_after
  filing_step =
      (λ i. filing_held (o.after i) (cond (is X (tag_of l)) (s.readings + 1) s.readings)
      (tallies_after (history_held o i) (axis_held o i) (tag_of l) l s.tallies) (eqb (rank (tag_of l)) 8) (blocks_after (tag_of l) l s w)) ∙ fields

  -- ---- the contents
  contents_before : Contents (history_of_site s.site) (axis_years (history_of_site s.site)) s.site.al w (readings_in ls)
  contents_before = rw (history_held o, axis_held o, readings_before) at (contents_of s w h.contents)

  contents_after : Contents (history_of_site s.site) (axis_years (history_of_site s.site)) s.site.al (blocks_after (tag_of l) l s w) (readings_in (ls ++ (l ∷ [])))
  unfolding blocks_after is_rising
  contents_after = record {
    near = near_fits s.site l (on_c ls l e s o) (points_in_lem ls l e) w.near contents_before.near;
    far = far_fits s.site l (on_c ls l e s o) (points_in_lem ls l e) w.far contents_before.far;
    slots = rw (history_held o) (slots_fit_lem s.site l (on_p ls l e s o) (profiles_in ls l e) w.slots contents_before.slots);
    daily = rw (axis_held o) (daily_fits_lem (axis_years (history_of_site s.site)) l (on_d ls l e s o) w.daily contents_before.daily);
    readings = rw (axis_lines o) at (sequence_step ls l same_axis (on_x_lem ls l e) (kinds_in ls l e) h.dated (later ls l e X tt) (not_falling ls l e)
        (rw (axis_lines o) contents_before.readings));
  }

  contents_step : T (contents_fit (rec_after (tag_of l) l s) (blocks_after (tag_of l) l s w))
  unfolding rec_after
  contents_step =
      contents_fit_lem (rec_after (tag_of l) l s) (blocks_after (tag_of l) l s w) (rw (history_after o, axis_after o, o.kept, readings_after) contents_after)

  pub blocks_later : HeldBlocks (ls ++ (l ∷ [])) (rec_after (tag_of l) l s) (blocks_after (tag_of l) l s w)
  blocks_later = record {
    sized = sizes_fit_lem (blocks_after (tag_of l) l s w) (sizes_after (tag_of l) l s w sizes);
    filing = filing_step;
    contents = contents_step;
    curve = same_curve (tag_of l) l s w ∙ h.curve;
    unread = λ z. absurd (never_nil ls l z);
    dated = rw same_axis (each_snoc h.dated (line_date ls l e));
  }
