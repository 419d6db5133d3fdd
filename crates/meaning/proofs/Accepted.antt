-- What an accepted line of each tag says: its year in the tag's span, its date, its numbers in their ranges.
use mathlib.Core.Path.{◌≡◌, refl, ap, sym, ◌∙◌}
use mathlib.Core.Bool.{Bool, true, false, not, ◌&&◌, ◌||◌, cond}
use mathlib.Core.List.{◌∷◌}
use mathlib.Core.Option.{Option, some, none}
use Prim.Native.Nat.{ℕ, zero, suc, ◌+◌, ◌≤◌, ◌<◌}
use native.Mathlib.Omega.{arith}
use lib.Dec.{T, leb, eqb→eq, leb→le}
use lib.ListN.{length, get_or, replicate, get_or-replicate}
use Rattle.lists.proofs.Tests.{and_parts}
use Rattle.calendar.specs.declared.Years.{Years}
use Rattle.calendar.specs.Dates.{is_date, is_winter}
use Rattle.calendar.specs.Spans.{among, axis_years}
use Rattle.text.specs.Fields.{field_at}
use Rattle.text.specs.Numbers.{is_dash, value_of}
use Rattle.meaning.specs.Line.{Line, Tag, S, C, X, D, P, B, R, E, other, is, rank, edition, number, number_or_dash, history_year, date_number, forms_of, tag_of, in_form, in_range, is_meter, kind_of, is_kind, number_at, year_on, month_on, day_on, site_on, value_at, point_of, has_date_on, is_winter_tag, most_power, most_index, most_daily, most_profile}
use Rattle.meaning.specs.Refusals.{Before, no_date, holds, has_no_date, refusal}
use Rattle.meaning.proofs.Passed.{passed, in_form_lem, in_range_lem}

-- ---- tests

pub between : (a n b : ℕ) → T (leb a n && leb n b) → (a ≤ n) × (n ≤ b)
between a n b t = let p = and_parts (leb a n) (leb n b) t in (leb→le a n p.0, leb→le n b p.1)

-- ---- the fields of a line whose tag is known to be t
module _ (b : Before) (l : Line) (e : refusal b l ≡ none) (t : Tag) (u : tag_of l ≡ t) where
  pub form_at : (k : ℕ) → k < length (forms_of t) → T (in_form (get_or (forms_of t) k edition) (field_at l (suc k)))
  form_at k h = rw u at (in_form_lem b l e k (rw u h))

  pub range_at : (k : ℕ) → k < length (forms_of t) → T (in_range b.history (get_or (forms_of t) k edition) (field_at l (suc k)))
  range_at k h = rw u at (in_range_lem b l e k (rw u h))

  pub date_of : T (has_date_on t) → T (is_date (year_on l) (month_on l) (day_on l)) × (T (is_winter_tag t) → T (is_winter (month_on l)))
  unfolding holds has_no_date
  date_of d = go (has_date_on t) (is_date (year_on l) (month_on l) (day_on l)) (is_winter_tag t) (is_winter (month_on l)) d (rw u at (passed b l e no_date))
    where
      go : (x y z v : Bool) → T x → T (not (x && (not y || (z && not v)))) → T y × (T z → T v)
      go true true true true h n = (tt, λ _. tt)
      go true true false v h n = (tt, λ z. absurd z)
      go true true true false h n = absurd n
      go true false z v h n = absurd n
      go false y z v h n = absurd h

-- ---- S
pub record SiteLine (l : Line) : Type 0 where
  pub al : (2021 ≤ (site_on l).al) × ((site_on l).al ≤ 2026)
  pub filiere : (1 ≤ (site_on l).filiere) × ((site_on l).filiere ≤ 11)
  pub meter : T (is_meter (site_on l).meter)
  pub ps : (1 ≤ (site_on l).ps) × ((site_on l).ps ≤ most_power)

pub accepted_s : (b : Before) (l : Line) → refusal b l ≡ none → tag_of l ≡ S → SiteLine l
unfolding forms_of in_form in_range site_on number_at
accepted_s b l e u = record {
  al = between 2021 (site_on l).al 2026 (range_at b l e S u 1 (omega arith));
  filiere = between 1 (site_on l).filiere 11 (range_at b l e S u 2 (omega arith));
  meter = form_at b l e S u 3 (omega arith);
  ps = between 1 (site_on l).ps most_power (range_at b l e S u 4 (omega arith));
}

-- ---- C and P: a winter date of a history year, and 20 values
pub record WinterLine (h : Years) (l : Line) : Type 0 where
  pub year : T (among h (year_on l))
  pub date : T (is_date (year_on l) (month_on l) (day_on l))
  pub winter : T (is_winter (month_on l))

pub accepted_c : (b : Before) (l : Line) → refusal b l ≡ none → tag_of l ≡ C → WinterLine b.history l
unfolding forms_of in_range number_at
accepted_c b l e u = record { year = range_at b l e C u 0 (omega arith); date = (date_of b l e C u tt).0; winter = (date_of b l e C u tt).1 tt }

pub accepted_p : (b : Before) (l : Line) → refusal b l ≡ none → tag_of l ≡ P → WinterLine b.history l
unfolding forms_of in_range number_at
accepted_p b l e u = record { year = range_at b l e P u 0 (omega arith); date = (date_of b l e P u tt).0; winter = (date_of b l e P u tt).1 tt }

-- a point that is present is at most 100,000,000 W
unfoldable pub PointFits : Option ℕ → Type 0
PointFits none = Unit {0}
PointFits (some v) = v ≤ most_power

pub point_in_lem : (b : Before) (l : Line) → refusal b l ≡ none → tag_of l ≡ C → (h : ℕ) → h < 20 → PointFits (point_of l h)
unfolding forms_of in_range number_at point_of value_at PointFits
point_in_lem b l e u h k = go (is_dash (field_at l (4 + h))) (rw at_form at raw)
  where
    place : suc (3 + h) ≡ 4 + h
    place = omega arith

    at_form : get_or (history_year ∷ date_number ∷ date_number ∷ replicate 20 (number_or_dash most_power)) (3 + h) edition ≡ number_or_dash most_power
    at_form = rw (shift h) (get_or-replicate 20 h (number_or_dash most_power) edition k)
      where
        shift : (n : ℕ) → 3 + n ≡ suc (suc (suc n))
        shift n = omega arith

    raw : T (in_range b.history (get_or (history_year ∷ date_number ∷ date_number ∷ replicate 20 (number_or_dash most_power)) (3 + h) edition) (field_at l (4 + h)))
    raw = rw place at (range_at b l e C u (3 + h) (omega arith))

    go : (d : Bool) → T (d || leb (value_of (field_at l (4 + h))) most_power) → PointFits (cond d none (some (value_of (field_at l (4 + h)))))
    go true t = tt
    go false t = leb→le _ _ t

pub profile_in_lem : (b : Before) (l : Line) → refusal b l ≡ none → tag_of l ≡ P → (h : ℕ) → h < 20 → value_at l h ≤ most_profile
unfolding forms_of in_range number_at value_at
profile_in_lem b l e u h k = (between 0 (value_at l h) most_profile (rw at_form at raw)).1
  where
    place : suc (3 + h) ≡ 4 + h
    place = omega arith

    at_form : get_or (history_year ∷ date_number ∷ date_number ∷ replicate 20 (number 0 most_profile)) (3 + h) edition ≡ number 0 most_profile
    at_form = rw (shift h) (get_or-replicate 20 h (number 0 most_profile) edition k)
      where
        shift : (n : ℕ) → 3 + n ≡ suc (suc (suc n))
        shift n = omega arith

    raw : T (in_range b.history (get_or (history_year ∷ date_number ∷ date_number ∷ replicate 20 (number 0 most_profile)) (3 + h) edition) (field_at l (4 + h)))
    raw = rw place at (range_at b l e P u (3 + h) (omega arith))

-- ---- X and D: a date of an axis year, and a number
pub record AxisLine (axis : Years) (most : ℕ) (l : Line) : Type 0 where
  pub year : T (among axis (year_on l))
  pub date : T (is_date (year_on l) (month_on l) (day_on l))
  pub number : number_at l 4 ≤ most

pub accepted_x : (b : Before) (l : Line) → refusal b l ≡ none → tag_of l ≡ X → AxisLine (axis_years b.history) most_index l
unfolding forms_of in_range number_at
accepted_x b l e u = record {
  year = range_at b l e X u 0 (omega arith);
  date = (date_of b l e X u tt).0;
  number = (between 0 (number_at l 4) most_index (range_at b l e X u 3 (omega arith))).1;
}

pub kind_in : (b : Before) (l : Line) → refusal b l ≡ none → tag_of l ≡ X → T (is_kind (kind_of (field_at l 5)))
unfolding forms_of in_form
kind_in b l e u = form_at b l e X u 4 (omega arith)

pub accepted_d : (b : Before) (l : Line) → refusal b l ≡ none → tag_of l ≡ D → AxisLine (axis_years b.history) most_daily l
unfolding forms_of in_range number_at
accepted_d b l e u = record {
  year = range_at b l e D u 0 (omega arith);
  date = (date_of b l e D u tt).0;
  number = (between 0 (number_at l 4) most_daily (range_at b l e D u 3 (omega arith))).1;
}

-- ---- B and R: a history year, and a rate
pub accepted_b : (b : Before) (l : Line) → refusal b l ≡ none → tag_of l ≡ B → T (among b.history (year_on l))
unfolding forms_of in_range number_at
accepted_b b l e u = range_at b l e B u 0 (omega arith)

pub accepted_r : (b : Before) (l : Line) → refusal b l ≡ none → tag_of l ≡ R → T (among b.history (year_on l))
unfolding forms_of in_range number_at
accepted_r b l e u = range_at b l e R u 0 (omega arith)

pub rate_in_lem : (b : Before) (l : Line) → refusal b l ≡ none → tag_of l ≡ R → (10 ≤ number_at l 2) × (number_at l 2 ≤ 1000)
unfolding forms_of in_range number_at
rate_in_lem b l e u = between 10 (number_at l 2) 1000 (range_at b l e R u 1 (omega arith))

-- ---- a tag is what its test says
pub is_tag : (k t : Tag) → T (is k t) → k ≡ t
is_tag k t h = go k t (eqb→eq (rank k) (rank t) h)
  where
    go : (k t : Tag) → rank k ≡ rank t → k ≡ t
    go k t h = back k ∙ ap tag h ∙ sym (back t)
      where
        tag : ℕ → Tag
        tag zero = other
        tag (suc zero) = S
        tag (suc (suc zero)) = C
        tag (suc (suc (suc zero))) = X
        tag (suc (suc (suc (suc zero)))) = D
        tag (suc (suc (suc (suc (suc zero))))) = P
        tag (suc (suc (suc (suc (suc (suc zero)))))) = B
        tag (suc (suc (suc (suc (suc (suc (suc zero))))))) = R
        tag (suc (suc (suc (suc (suc (suc (suc (suc n)))))))) = E

        back : (k : Tag) → k ≡ tag (rank k)
        back S = refl
        back C = refl
        back X = refl
        back D = refl
        back P = refl
        back B = refl
        back R = refl
        back E = refl
        back other = refl
