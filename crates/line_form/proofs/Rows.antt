-- The 20 values of a C or P line, split off one after the other.
use Rattle.std.specs.Prelude.{Option, Some, None}
use Rattle.std.specs.Bool.{then_some}
use mathlib.Core.Path.{◌≡◌, refl, ap, sym, ◌∙◌}
use mathlib.Core.Bool.{Bool, true, false, ◌&&◌}
use mathlib.Core.List.{List, [], ◌∷◌, ◌++◌}
use Prim.Native.Nat.{ℕ, zero, suc, ◌+◌, ◌-◌, ◌≤◌, ◌<◌}
use native.Mathlib.Numerals.{add-one}
use native.Mathlib.Omega.{arith}
use lib.ListN.{length, take, set, replicate}
use lib.Seq.{take-suc-set, take_all}
use Rattle.lists.specs.Lists.{tab}
use Rattle.lists.proofs.Tables.{tab_snoc, tab_same}
use Rattle.lists.proofs.Tests.{and_false}
use Rattle.text.specs.Fields.{up_to, past, rest_at, field_at}
use Rattle.meaning.specs.Line.{Line, Tag, C, P, Form, number, number_or_dash, most_power, most_profile, forms_of, in_form, some_field, value_at, number_at}
use Rattle.rounding.specs.declared.Watts.{Watts}
use Rattle.line_form.specs.Reads.{in_forms, is_formed, is_date_formed, where_formed, date_read_of, dated_read_of, points_read_of, profiles_read_of}
use Rattle.line_form.specs.Codes.{point_row, profile_row}
use Rattle.line_form.specs.Rows.{point_in, profile_in, row_of, are_values}
use Rattle.calendar.specs.declared.Date.{Date}
use Rattle.line_form.proofs.Forms.{dated, in_forms_snoc}
use Rattle.line_form.proofs.Readers.{undated, dated_on, unformed, formed}

-- ---- fields after the n-th
pub rest_suc : (n : ℕ) (l : List ℕ) → rest_at l (suc n) ≡ past (rest_at l n)
unfolding rest_at
rest_suc zero l = refl
rest_suc (suc n) l = rest_suc n (past l)

rest_add : (m n : ℕ) (l : List ℕ) → rest_at (rest_at l m) n ≡ rest_at l (m + n)
unfolding rest_at
rest_add zero n l = let e : n ≡ 0 + n = omega arith in ap (λ (k : ℕ). rest_at l k) e
rest_add (suc m) n l = let e : suc (m + n) ≡ suc m + n = omega arith in rest_add m n (past l) ∙ ap (λ (k : ℕ). rest_at l k) e

field_add : (m n : ℕ) (l : List ℕ) → field_at (rest_at l m) n ≡ field_at l (m + n)
unfolding field_at
field_add m n l = ap up_to (rest_add m n l)

-- ---- one more value
-- the first k fields of t are in the form m and their values are read, and r is what is left of t
pub record RowSoFar {A : Type 0} (m : Form) (value : List ℕ → A) (t r : List ℕ) (values : List A) (k : ℕ) : Type 0 where
  pub rest : r ≡ rest_at t k
  pub made : take k values ≡ tab k 0 (λ h. value (field_at t h))
  pub formed : in_forms (replicate k m) t ≡ true

pub no_row : {A : Type 0} (m : Form) (value : List ℕ → A) (t : List ℕ) (values : List A) → RowSoFar m value t t values 0
unfolding tab in_forms some_field rest_at
no_row m value t values = record { rest = refl; made = refl; formed = refl }

module _ {A : Type 0} (m : Form) (value : List ℕ → A) (t r f : List ℕ) (values : List A) (k : ℕ) (w : RowSoFar m value t r values k) (first : f ≡ up_to r) where
  here : f ≡ field_at t k
  unfolding field_at
  here = first ∙ ap up_to w.rest

  -- one more field, in its form or not
  row_on : in_forms (replicate (k + 1) m) t ≡ in_form m f
  row_on = rw (add-one k, in_forms_snoc k m t, w.formed, here)

  pub row_more : (u : List ℕ) (v : A) → u ≡ past r → k < length values → Some v ≡ then_some (in_form m f) (value f) → RowSoFar m value t u (set values k v) (k + 1)
  row_more u v after h e = go (in_form m f) refl e
    where
      go : (b : Bool) → in_form m f ≡ b → Some v ≡ then_some b (value f) → RowSoFar m value t u (set values k v) (k + 1)
      go false q p = absurd (cc)
      go true q p =
          let c : v ≡ value (field_at t k) = rw (← here) cc in
          record {
            rest = after ∙ rw (add-one k, rest_suc k t, w.rest);
            made = rw (add-one k, take-suc-set values k v h, tab_snoc k 0 (λ n. value (field_at t n)), w.made, c) (ap (λ (n : ℕ). tab k 0 (λ h. value (field_at t h)) ++ (value (field_at t n) ∷ [])) {x = k} {y = 0 + k} (omega arith));
            formed = row_on ∙ q;
          }

  pub row_stops : k < 20 → None ≡ then_some (in_form m f) (value f) → None ≡ then_some (are_values m t) (row_of value t)
  unfolding are_values
  row_stops h e = go (in_form m f) refl e
    where
      -- no row is in its form past a field that is not
      none_after : (j n : ℕ) → in_forms (replicate n m) t ≡ false → in_forms (replicate (j + n) m) t ≡ false
      none_after zero n e = let z : 0 + n ≡ n = omega arith in rw z e
      none_after (suc j) n e = let z : suc j + n ≡ suc (j + n) = omega arith in rw (z, in_forms_snoc (j + n) m t, none_after j n e)

      go : (b : Bool) → in_form m f ≡ b → None ≡ then_some b (value f) → None ≡ then_some (in_forms (replicate 20 m) t) (row_of value t)
      go true q p = absurd (cc)
      go false q p =
          let z : 20 ≡ (19 - k) + (k + 1) = omega arith in
          rw (rw (← z) at (none_after (19 - k) (k + 1) (row_on ∙ q)))

-- all 20
pub row_read : {A : Type 0} (m : Form) (value : List ℕ → A) (t r : List ℕ) (values : List A) (k : ℕ) → RowSoFar m value t r values k → length values ≡ 20 → 20 ≤ k → k ≤ 20
    → Some values ≡ then_some (are_values m t) (row_of value t)
unfolding are_values row_of
row_read m value t r values k w h lo hi =
    let z : k ≡ 20 = omega arith in
    let e : values ≡ tab 20 0 (λ h. value (field_at t h)) = sym (take_all 20 values (omega arith)) ∙ (rw z at w.made) in
    rw (rw z at w.formed, e)

-- ---- the line
-- none where the date or the row is not in its form; vs is the row that is read past the date
module _ {A V : Type 0} (g : Tag) (m : Form) (l : Line) (row : List V) (read : A) (split : is_formed g l ≡ (is_date_formed l && are_values m (rest_at l 4))) where
  row_undated : dated_read_of l ≡ None → None ≡ where_formed g l read
  row_undated e = unformed g l _ (rw (split, undated l e))

  no_values : None ≡ then_some (are_values m (rest_at l 4)) row → None ≡ where_formed g l read
  no_values e = go (are_values m (rest_at l 4)) refl e
    where
      go : (b : Bool) → are_values m (rest_at l 4) ≡ b → None ≡ then_some b row → None ≡ where_formed g l read
      go true q p = absurd (cc)
      go false q p = unformed g l _ (rw (split, q) (and_false (is_date_formed l)))

  values_read : (d : Date) (vs : List V) (told : A) → dated_read_of l ≡ Some d → Some vs ≡ then_some (are_values m (rest_at l 4)) row
      → (d ≡ date_read_of l → vs ≡ row → told ≡ read) → Some told ≡ where_formed g l read
  values_read d vs told e ev same = go (are_values m (rest_at l 4)) refl ev
    where
      go : (b : Bool) → are_values m (rest_at l 4) ≡ b → Some vs ≡ then_some b row → Some told ≡ where_formed g l read
      go true q p = let pd = dated_on l d e in let c : vs ≡ row = cc in formed g l _ _ (rw (split, pd.0, q)) (same pd.1 c)
      go false q p = absurd (cc)

-- ---- C
formed_points : (l : Line) → is_formed C l ≡ (is_date_formed l && are_values (number_or_dash most_power) (rest_at l 4))
unfolding is_formed forms_of in_form is_date_formed are_values
formed_points l = dated _ _ _ (replicate 20 (number_or_dash most_power)) l

points_row : (l : Line) → row_of point_in (rest_at l 4) ≡ point_row l
unfolding row_of point_in point_row value_at number_at
points_row l = tab_same 20 0 (λ h. point_in (field_at (rest_at l 4) h)) (λ h. point_in (field_at l (4 + h))) (λ h i. rw (field_add 4 h l))

module _ (l : Line) where
  pub points_undated : dated_read_of l ≡ None → None ≡ where_formed C l (points_read_of l)
  points_undated e = row_undated C _ l (point_row l) _ (formed_points l) e

  pub no_points : None ≡ then_some (are_values (number_or_dash most_power) (rest_at l 4)) (row_of point_in (rest_at l 4)) → None ≡ where_formed C l (points_read_of l)
  no_points e = no_values C _ l _ _ (formed_points l) e

  pub points_told : (d : Date) (vs : List (Option Watts)) → dated_read_of l ≡ Some d → Some vs ≡ then_some (are_values (number_or_dash most_power) (rest_at l 4)) (row_of point_in (rest_at l 4))
      → Some (record { date = d; points = vs }) ≡ where_formed C l (points_read_of l)
  unfolding points_read_of
  points_told d vs e ev = values_read C _ l _ _ (formed_points l) d vs (record { date = d; points = vs }) e ev (λ ed ep. rw (ed, ep, points_row l))

-- what the proof of the reader needs
pub ruleset points_parts = (points_undated, no_points, points_told)

-- ---- P
formed_profiles : (l : Line) → is_formed P l ≡ (is_date_formed l && are_values (number 0 most_profile) (rest_at l 4))
unfolding is_formed forms_of in_form is_date_formed are_values
formed_profiles l = dated _ _ _ (replicate 20 (number 0 most_profile)) l

profiles_row : (l : Line) → row_of profile_in (rest_at l 4) ≡ profile_row l
unfolding row_of profile_in profile_row value_at number_at
profiles_row l = tab_same 20 0 (λ h. profile_in (field_at (rest_at l 4) h)) (λ h. profile_in (field_at l (4 + h))) (λ h i. rw (field_add 4 h l))

module _ (l : Line) where
  pub profiles_undated : dated_read_of l ≡ None → None ≡ where_formed P l (profiles_read_of l)
  profiles_undated e = row_undated P _ l (profile_row l) _ (formed_profiles l) e

  pub no_profiles : None ≡ then_some (are_values (number 0 most_profile) (rest_at l 4)) (row_of profile_in (rest_at l 4)) → None ≡ where_formed P l (profiles_read_of l)
  no_profiles e = no_values P _ l _ _ (formed_profiles l) e

  pub profiles_told : (d : Date) (vs : List ℕ) → dated_read_of l ≡ Some d → Some vs ≡ then_some (are_values (number 0 most_profile) (rest_at l 4)) (row_of profile_in (rest_at l 4))
      → Some (record { date = d; values = vs }) ≡ where_formed P l (profiles_read_of l)
  unfolding profiles_read_of
  profiles_told d vs e ev = values_read P _ l _ _ (formed_profiles l) d vs (record { date = d; values = vs }) e ev (λ ed ep. rw (ed, ep, profiles_row l))

pub ruleset profiles_parts = (profiles_undated, no_profiles, profiles_told)
