-- What an accepted line after S says, by its tag, in the years of the site that the record keeps.
use mathlib.Core.Path.{◌≡◌, refl, ap, sym}
use mathlib.Core.Bool.{Bool, true, false, not, ◌&&◌, ◌||◌}
use mathlib.Core.List.{List}
use mathlib.Core.Option.{none}
use Prim.Native.Nat.{ℕ, ◌≤◌, ◌<◌}
use lib.Dec.{T, leb, nleb→lt}
use Rattle.lists.specs.Lists.{Each}
use Rattle.calendar.specs.Spans.{among, axis_years}
use Rattle.calendar.proofs.Laws.Days.{date_day}
use Rattle.calendar.proofs.Laws.Positions.{among_words}
use Rattle.text.specs.Fields.{field_at}
use Rattle.meaning.specs.Line.{Line, Tag, C, X, D, P, B, R, is, tag_of, most_index, most_daily, most_profile, number_at, year_on, month_on, day_on, value_at, point_of, is_rising, kind_of, is_kind}
use Rattle.meaning.specs.Refusals.{Before, too_many, holds, most_readings}
use Rattle.meaning.specs.File.{axis_in, before_in, refusal_at}
use Rattle.meaning.specs.Record.{Rec, history_of_site, before_of}
use Rattle.meaning.proofs.Passed.{passed}
use Rattle.meaning.proofs.Accepted.{WinterLine, AxisLine, PointFits, date_of, accepted_c, accepted_p, accepted_x, accepted_d, accepted_b, accepted_r, point_in_lem, profile_in_lem, kind_in, rate_in_lem, is_tag}
use Rattle.demands.proofs.Held.Parts.{HeldRec, Dated}
use Rattle.demands.proofs.Held.Sites.{Onward, history_lines}
use Rattle.demands.proofs.Held.Earlier.{Short, unreached}

dated_tag : (c x d p : Bool) → T (c || p) → T (c || (x || (d || p)))
dated_tag true x d p t = tt
dated_tag false true d p t = tt
dated_tag false false true p t = tt
dated_tag false false false p t = t

module _ (ls : List Line) (l : Line) (e : refusal_at ls l ≡ none) where
  its : (t : Tag) → T (is t (tag_of l)) → tag_of l ≡ t
  its t h = sym (is_tag t (tag_of l) h)

  pub points_in_lem : T (is C (tag_of l)) → (h : ℕ) → h < 20 → PointFits (point_of l h)
  unfolding refusal_at
  points_in_lem c = point_in_lem (before_in ls) l e (its C c)

  pub profiles_in : T (is P (tag_of l)) → (h : ℕ) → h < 20 → value_at l h ≤ most_profile
  unfolding refusal_at
  profiles_in c = profile_in_lem (before_in ls) l e (its P c)

  pub kinds_in : T (is X (tag_of l)) → T (is_kind (kind_of (field_at l 5)))
  unfolding refusal_at
  kinds_in c = kind_in (before_in ls) l e (its X c)

  pub rates_in : T (is R (tag_of l)) → 10 ≤ number_at l 2
  unfolding refusal_at
  rates_in c = (rate_in_lem (before_in ls) l e (its R c)).0

  pub later : (t : Tag) → T (is_rising t) → T (is t (tag_of l)) → Each (Short t l) ls
  later t r h = unreached ls l e t (its t h) r

  pub on_x_lem : T (is X (tag_of l)) → AxisLine (axis_in ls) most_index l
  unfolding refusal_at before_in axis_in
  on_x_lem c = accepted_x (before_in ls) l e (its X c)

  pub line_date : Dated (axis_in ls) l
  unfolding refusal_at
  line_date = record {
    day = λ t. date_day (year_on l) (month_on l) (day_on l) (date_of (before_in ls) l e (tag_of l) refl t).0;
    winter = λ t. (date_of (before_in ls) l e (tag_of l) refl (dated_tag (is C (tag_of l)) (is X (tag_of l)) (is D (tag_of l)) (is P (tag_of l)) t)).1 t;
    year = λ x. ((among_words (axis_in ls) (year_on l)).0 (on_x_lem x).year).0;
  }

  -- ---- in the record's years
  module _ (s : Rec) (o : Onward ls l s) where
    pub on_c : T (is C (tag_of l)) → WinterLine (history_of_site s.site) l
    unfolding refusal_at before_in
    on_c c = rw (history_lines o) at (accepted_c (before_in ls) l e (its C c))

    pub on_p : T (is P (tag_of l)) → WinterLine (history_of_site s.site) l
    unfolding refusal_at before_in
    on_p c = rw (history_lines o) at (accepted_p (before_in ls) l e (its P c))

    pub on_d : T (is D (tag_of l)) → AxisLine (axis_years (history_of_site s.site)) most_daily l
    unfolding refusal_at before_in
    on_d c = rw (history_lines o) at (accepted_d (before_in ls) l e (its D c))

    pub on_b : T (is B (tag_of l)) → T (among (history_of_site s.site) (year_on l))
    unfolding refusal_at before_in
    on_b c = rw (history_lines o) at (accepted_b (before_in ls) l e (its B c))

    pub on_r : T (is R (tag_of l)) → T (among (history_of_site s.site) (year_on l))
    unfolding refusal_at before_in
    on_r c = rw (history_lines o) at (accepted_r (before_in ls) l e (its R c))

  -- ---- one reading more has room
  pub has_room : (s : Rec) → HeldRec ls s → T (is X (tag_of l)) → s.readings < most_readings
  unfolding refusal_at holds
  has_room s r x = nleb→lt most_readings s.readings (rw (← count) at (go (is X (tag_of l)) x (passed (before_in ls) l e too_many)))
    where
      count : s.readings ≡ (before_in ls).readings
      count = unfold before_of in ap (λ (b : Before). b.readings) r.before

      go : (b : Bool) → T b → T (not (b && leb most_readings (before_in ls).readings)) → T (not (leb most_readings (before_in ls).readings))
      go true t n = n
      go false t n = absurd t
