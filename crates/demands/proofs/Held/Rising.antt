-- The last date or year of each tag: an accepted line has a later one, which then is the last.
use mathlib.Core.Path.{◌≡◌, refl, sym, ◌∙◌}
use mathlib.Core.Bool.{Bool, true, false, not, ◌&&◌, ◌||◌, cond}
use mathlib.Core.List.{List, [], ◌∷◌, ◌++◌}
use mathlib.Core.Option.{none}
use Prim.Native.Nat.{ℕ, ◌≤◌, ◌<◌}
use native.Mathlib.Omega.{arith}
use lib.Dec.{T, leb, eqb, leb→le, le→leb, nleb→lt}
use borrow.Author.Tests.{ne_eqb, eqb-true}
use Rattle.lists.specs.Lists.{any}
use Rattle.lists.proofs.Laws.{any_snoc}
use Rattle.lists.proofs.Tests.{or_absorb, is_true, or_false, passed as test-passed}
use Rattle.calendar.specs.Spans.{among, is_known, history_years, axis_years}
use Rattle.calendar.proofs.Laws.{among_words, history_year_lem, history_bounds, axis_bounds, no_axis}
use Rattle.meaning.specs.Line.{Line, Tag, S, C, X, D, P, B, R, E, other, is, tag_of, year_on, month_on, day_on, is_rising, key_of, date_key, most_index, most_daily}
use Rattle.meaning.specs.Refusals.{not_later, holds, refusal}
use Rattle.meaning.specs.File.{not_later_in}
use Rattle.meaning.specs.Record.{Rec, LastDates, last_of, not_later_by, before_of, history_of_site, history_of_rec, axis_of_rec}
use Rattle.meaning.specs.Calls.{last_dates_after}
use Rattle.meaning.proofs.Passed.{passed}
use Rattle.meaning.proofs.Accepted.{WinterLine, AxisLine, accepted_c, accepted_x, accepted_d, accepted_p, accepted_b, accepted_r, is_tag}
use Rattle.demands.proofs.Held.Counts.{dates_by, winter_dates_by, years_by, Grows, dates_grow, winters_grow, years_grow}

-- ---- the years of a file come after year 0
axis_year_lem : (al f y : ℕ) → T (among (axis_years (history_years al f)) y) → 2006 ≤ y
axis_year_lem al f y t = go (is_known al f) refl
  where
    go : (b : Bool) → is_known al f ≡ b → 2006 ≤ y
    go true e =
        let k = test-passed (is_known al f) e in
        let span = (among_words (axis_years (history_years al f)) y).0 t in
        omega (arith, span.0, (axis_bounds al f k).starts, (history_bounds al f k).from)
    go false e = let span = (among_words (axis_years (history_years al f)) y).0 t in absurd (omega (arith, rw (no_axis al f (rw e tt)) at span))

pub history_of_rec_lem : (s : Rec) (y : ℕ) → T (among (history_of_rec s) y) → 1 ≤ y
unfolding history_of_rec history_of_site
history_of_rec_lem s y t = omega (arith, (history_year_lem _ _ y t).0)

pub axis_of_rec_lem : (s : Rec) (y : ℕ) → T (among (axis_of_rec s) y) → 1 ≤ y
unfolding axis_of_rec history_of_rec history_of_site
axis_of_rec_lem s y t = omega (arith, axis_year_lem _ _ y t)

date_positive : (y m d : ℕ) → 1 ≤ y → 1 ≤ date_key y m d
unfolding date_key
date_positive y m d h = omega arith

-- a test of the last date: none, or not later
later_than : (n q : ℕ) → T (not (not (eqb n 0) && leb q n)) → 1 ≤ q → n < q
later_than n q t h = go (eqb n 0) refl t
  where
    go : (b : Bool) → eqb n 0 ≡ b → T (not (not b && leb q n)) → n < q
    go true e u = omega (arith, eqb-true n 0 e)
    go false e u = nleb→lt q n u

-- ---- what an accepted line says, by its tag
module _ (s : Rec) (l : Line) (e : refusal (before_of s) l ≡ none) where
  pub on_c : T (is C (tag_of l)) → WinterLine (history_of_rec s) l
  unfolding before_of
  on_c h = accepted_c (before_of s) l e (sym (is_tag C (tag_of l) h))

  pub on_x_lem : T (is X (tag_of l)) → AxisLine (axis_of_rec s) most_index l
  unfolding before_of axis_of_rec
  on_x_lem h = accepted_x (before_of s) l e (sym (is_tag X (tag_of l) h))

  pub on_d : T (is D (tag_of l)) → AxisLine (axis_of_rec s) most_daily l
  unfolding before_of axis_of_rec
  on_d h = accepted_d (before_of s) l e (sym (is_tag D (tag_of l) h))

  pub on_p : T (is P (tag_of l)) → WinterLine (history_of_rec s) l
  unfolding before_of
  on_p h = accepted_p (before_of s) l e (sym (is_tag P (tag_of l) h))

  pub on_b : T (is B (tag_of l)) → T (among (history_of_rec s) (year_on l))
  unfolding before_of
  on_b h = accepted_b (before_of s) l e (sym (is_tag B (tag_of l) h))

  pub on_r : T (is R (tag_of l)) → T (among (history_of_rec s) (year_on l))
  unfolding before_of
  on_r h = accepted_r (before_of s) l e (sym (is_tag R (tag_of l) h))

  -- its date or year comes after the last of its tag
  key_positive : (t : Tag) → T (is_rising t) → T (is t (tag_of l)) → 1 ≤ key_of t l
  unfolding key_of is_rising
  key_positive S r h = absurd r
  key_positive C r h = date_positive _ _ _ (history_of_rec_lem s (year_on l) (on_c h).year)
  key_positive X r h = date_positive _ _ _ (axis_of_rec_lem s (year_on l) (on_x_lem h).year)
  key_positive D r h = date_positive _ _ _ (axis_of_rec_lem s (year_on l) (on_d h).year)
  key_positive P r h = date_positive _ _ _ (history_of_rec_lem s (year_on l) (on_p h).year)
  key_positive B r h = history_of_rec_lem s (year_on l) (on_b h)
  key_positive R r h = history_of_rec_lem s (year_on l) (on_r h)
  key_positive E r h = absurd r
  key_positive other r h = absurd r

  not_reached : (t : Tag) → T (is t (tag_of l)) → T (not (not_later_by s.lasts t (key_of t l)))
  unfolding holds before_of
  not_reached t h = rw (← is_tag t (tag_of l) h) at (passed (before_of s) l e not_later)

  pub later : (t : Tag) → T (is_rising t) → T (is t (tag_of l)) → last_of s.lasts t < key_of t l
  unfolding not_later_by
  later t r h = later_than (last_of s.lasts t) (key_of t l) (not_reached t h) (key_positive t r h)

  -- so that one date or year more comes at or before it
  pub grows_c : T (is C (tag_of l)) → Grows winter_dates_by (year_on l) s.lasts.c (key_of C l)
  unfolding key_of is_rising
  grows_c h = let w = on_c h in winters_grow (year_on l) (month_on l) (day_on l) s.lasts.c w.date w.winter (later C tt h)

  pub grows_d : T (is D (tag_of l)) → Grows dates_by (year_on l) s.lasts.d (key_of D l)
  unfolding key_of is_rising
  grows_d h = dates_grow (year_on l) (month_on l) (day_on l) s.lasts.d (on_d h).date (later D tt h)

  pub grows_p : T (is P (tag_of l)) → Grows winter_dates_by (year_on l) s.lasts.p (key_of P l)
  unfolding key_of is_rising
  grows_p h = let w = on_p h in winters_grow (year_on l) (month_on l) (day_on l) s.lasts.p w.date w.winter (later P tt h)

  pub grows_b : T (is B (tag_of l)) → Grows years_by (year_on l) s.lasts.b (key_of B l)
  unfolding key_of is_rising
  grows_b h = years_grow (year_on l) s.lasts.b (later B tt h)

  pub grows_r : T (is R (tag_of l)) → Grows years_by (year_on l) s.lasts.r (key_of R l)
  unfolding key_of is_rising
  grows_r h = years_grow (year_on l) s.lasts.r (later R tt h)

-- ---- 8: what a later line must come after
reach_by : (b : Bool) (q n k : ℕ) (a : Bool) → (not (eqb n 0) && leb k n) ≡ a → (T b → n < q)
    → (not (eqb (cond b q n) 0) && leb k (cond b q n)) ≡ (a || (b && leb k q))
reach_by false q n k a e h = e ∙ sym (or_false a)
reach_by true q n k a e h =
    let g : n < q = h tt in
    rw (ne_eqb q 0 (λ z. omega arith)) (sym (or_absorb a (leb k q) (λ t. inside (eqb n 0) (rw (← e) at t) g)))
  where
    inside : (b : Bool) → T (not b && leb k n) → n < q → T (leb k q)
    inside true t g = absurd t
    inside false t g = le→leb k q (omega (arith, leb→le k n t))

last_after : (t u : Tag) (l : Line) (k : LastDates) → T (is_rising u) → last_of (last_dates_after t l k) u ≡ cond (is u t) (key_of u l) (last_of k u)
unfolding last_dates_after is_rising
last_after t S l k r = absurd r
last_after t C l k r = refl
last_after t X l k r = refl
last_after t D l k r = refl
last_after t P l k r = refl
last_after t B l k r = refl
last_after t R l k r = refl
last_after t E l k r = absurd r
last_after t other l k r = absurd r

reached_rising : (ls : List Line) (u : Tag) (k : ℕ) → T (is_rising u) → not_later_in ls u k ≡ any (λ (m : Line). is u (tag_of m) && leb k (key_of u m)) ls
unfolding not_later_in
reached_rising ls u k r = rw (is_true (is_rising u) r)

module _ (ls : List Line) (l : Line) (k : LastDates) (held : (u : Tag) (d : ℕ) → not_later_by k u d ≡ not_later_in ls u d) (risen : (u : Tag) → T (is_rising u) → T (is u (tag_of l)) → last_of k u < key_of u l) where
  rising_step : (u : Tag) (d : ℕ) → T (is_rising u) → not_later_by (last_dates_after (tag_of l) l k) u d ≡ not_later_in (ls ++ (l ∷ [])) u d
  unfolding not_later_by
  rising_step u d r =
      rw (last_after (tag_of l) u l k r)
      (reach_by (is u (tag_of l)) (key_of u l) (last_of k u) d (any (λ (m : Line). is u (tag_of m) && leb d (key_of u m)) ls) (held u d ∙ reached_rising ls u d r) (risen u r))
      ∙ sym (reached_rising (ls ++ (l ∷ [])) u d r ∙ any_snoc (λ (m : Line). is u (tag_of m) && leb d (key_of u m)) ls l)

  pub reached_step : (u : Tag) (d : ℕ) → not_later_by (last_dates_after (tag_of l) l k) u d ≡ not_later_in (ls ++ (l ∷ [])) u d
  unfolding not_later_by not_later_in is_rising
  reached_step S d = refl
  reached_step C d = rising_step C d tt
  reached_step X d = rising_step X d tt
  reached_step D d = rising_step D d tt
  reached_step P d = rising_step P d tt
  reached_step B d = rising_step B d tt
  reached_step R d = rising_step R d tt
  reached_step E d = refl
  reached_step other d = refl
