-- A line of each tag is checked against the numbers of the record that its tag needs: its conditions use no others.
use mathlib.Core.Path.{◌≡◌, refl, sym, ◌∙◌}
use mathlib.Core.Bool.{true, false, not, ◌&&◌}
use mathlib.Core.List.{List, [], ◌∷◌}
use Prim.Native.Nat.{ℕ, zero, suc}
use lib.Dec.{eqb, leb, ltb, eqb-suc-zero}
use Rattle.lists.specs.Lists.{first_of}
use Rattle.calendar.specs.declared.Years.{Years}
use Rattle.calendar.specs.Spans.{years, history_years}
use Rattle.meaning.specs.Filing.{Meter, no_meter}
use Rattle.meaning.specs.Line.{Line, Tag, S, C, X, D, P, B, R, E, is, tag_of, key_of, number_at}
use Rattle.meaning.specs.Refusals.{Before, Reason, illegible, unknown, misplaced, malformed, outside, no_date, not_later, too_soon, falling, too_many, miscounted, holds, order, refusal, is_outside, most_readings}
use Rattle.meaning.specs.File.{is_index_meter}
use Rattle.meaning.specs.Record.{Rec, last_of, misplaced_by, not_later_by, before_of, is_taken, site_of_rec, history_of_site, history_of_rec}
use Rattle.line_form.proofs.Checks.{outside_s, outside_e}
use Rattle.line_checks.specs.Before.{is_not_later, before_like, before_first, before_points, before_rising, before_reading, before_end}
use Rattle.line_checks.proofs.Chain.{agree, misplaced_other, barred_first}

-- ---- two ways to check a line that agree in what its conditions use
module _ (b c : Before) (l : Line) where
  pub same_refusal : b.misplaced (tag_of l) ≡ c.misplaced (tag_of l)
      → (b.misplaced (tag_of l) ≡ false → is_outside b.history l ≡ is_outside c.history l)
      → b.not_later (tag_of l) (key_of (tag_of l) l) ≡ c.not_later (tag_of l) (key_of (tag_of l) l)
      → (is X (tag_of l) && ltb (number_at l 4) b.last_index) ≡ (is X (tag_of l) && ltb (number_at l 4) c.last_index)
      → (is X (tag_of l) && leb most_readings b.readings) ≡ (is X (tag_of l) && leb most_readings c.readings)
      → (is E (tag_of l) && not (eqb (number_at l 1) b.lines)) ≡ (is E (tag_of l) && not (eqb (number_at l 1) c.lines))
      → refusal b l ≡ refusal c l
  unfolding refusal order holds
  same_refusal p o r i n k =
      at illegible _ refl (λ _.
      at unknown _ refl (λ _.
      at misplaced _ p (λ q.
      at malformed _ refl (λ _.
      at outside _ (o q) (λ _.
      at no_date _ refl (λ _.
      at not_later _ r (λ _.
      at too_soon _ refl (λ _.
      at falling _ i (λ _.
      at too_many _ n (λ _.
      at miscounted [] k (λ _. end)))))))))))
    where
      at : (y : Reason) (ys : List Reason) → holds y b l ≡ holds y c l → (holds y b l ≡ false → first_of (λ x. holds x b l) ys ≡ first_of (λ x. holds x c l) ys)
          → first_of (λ x. holds x b l) (y ∷ ys) ≡ first_of (λ x. holds x c l) (y ∷ ys)
      at y ys = agree (λ x. holds x b l) (λ x. holds x c l) y ys

      end : first_of (λ x. holds x b l) [] ≡ first_of (λ x. holds x c l) []
      end = unfold first_of in refl

-- ---- before S is taken every other line is misplaced, so the history is that of S wherever it is used
taken : (n : ℕ) (m : Meter) (t : Tag) → is S t ≡ false → misplaced_by n m t ≡ false → not (eqb n 0) ≡ true
unfolding misplaced_by
taken zero m t s e = sym (rw s at e)
taken (suc n) m t s e = rw (eqb-suc-zero n)

history_taken : (s : Rec) → is_taken s ≡ true → history_of_rec s ≡ history_years s.site.al s.site.filiere
unfolding history_of_rec history_of_site site_of_rec
history_taken s e = rw e

-- ---- a line of a tag other than S; a meter m and numbers i, n, c are the record's where the tag uses them
module _ (s : Rec) (l : Line) (t : Tag) (u : tag_of l ≡ t) (no : is S t ≡ false) (m : Meter) (h : Years) (i n c : ℕ) where
  before_same : (is C t && is_index_meter s.site.meter) ≡ (is C t && is_index_meter m)
      → (history_of_rec s ≡ history_years s.site.al s.site.filiere → is_outside (history_of_rec s) l ≡ is_outside h l)
      → (is X t && ltb (number_at l 4) s.last_index) ≡ (is X t && ltb (number_at l 4) i)
      → (is X t && leb most_readings s.readings) ≡ (is X t && leb most_readings n)
      → (is E t && not (eqb (number_at l 1) s.count)) ≡ (is E t && not (eqb (number_at l 1) c))
      → refusal (before_of s) l ≡ refusal (before_like s.last m h (last_of s.lasts t) i n c) l
  unfolding before_of before_like not_later_by is_not_later is_taken
  before_same p o x y z =
      same_refusal (before_of s) (before_like s.last m h (last_of s.lasts t) i n c) l
      (rw u (misplaced_other s.last s.site.meter t no ∙ rw p (sym (misplaced_other s.last m t no))))
      (λ q. o (history_taken s (taken s.last s.site.meter t no (rw u at q))))
      (rw u refl)
      (rw u x)
      (rw u y)
      (rw u z)

-- ---- by tag
module _ (s : Rec) (l : Line) where
  pub before_s : tag_of l ≡ S → refusal (before_of s) l ≡ refusal (before_first s.last) l
  unfolding before_of before_first before_like not_later_by is_not_later
  before_s u =
      same_refusal (before_of s) (before_first s.last) l
      (rw u (barred_first s.last s.site.meter ∙ sym (barred_first s.last no_meter)))
      (λ _. outside_s (history_of_rec s) l u ∙ sym (outside_s (years 0 0) l u))
      (rw u refl)
      (rw u refl)
      (rw u refl)
      (rw u refl)

  pub before_c : tag_of l ≡ C → refusal (before_of s) l ≡ refusal (before_points s.last s.site.meter (history_years s.site.al s.site.filiere) s.lasts.c) l
  unfolding before_points
  before_c u = before_same s l C u refl s.site.meter _ 0 0 0 refl (λ e. rw e refl) refl refl refl

  pub before_x : tag_of l ≡ X
      → refusal (before_of s) l ≡ refusal (before_reading s.last (history_years s.site.al s.site.filiere) s.lasts.x s.last_index s.readings) l
  unfolding before_reading
  before_x u = before_same s l X u refl no_meter _ s.last_index s.readings 0 refl (λ e. rw e refl) refl refl refl

  pub before_d : tag_of l ≡ D → refusal (before_of s) l ≡ refusal (before_rising s.last (history_years s.site.al s.site.filiere) s.lasts.d) l
  unfolding before_rising
  before_d u = before_same s l D u refl no_meter _ 0 0 0 refl (λ e. rw e refl) refl refl refl

  pub before_p : tag_of l ≡ P → refusal (before_of s) l ≡ refusal (before_rising s.last (history_years s.site.al s.site.filiere) s.lasts.p) l
  unfolding before_rising
  before_p u = before_same s l P u refl no_meter _ 0 0 0 refl (λ e. rw e refl) refl refl refl

  pub before_b : tag_of l ≡ B → refusal (before_of s) l ≡ refusal (before_rising s.last (history_years s.site.al s.site.filiere) s.lasts.b) l
  unfolding before_rising
  before_b u = before_same s l B u refl no_meter _ 0 0 0 refl (λ e. rw e refl) refl refl refl

  pub before_r : tag_of l ≡ R → refusal (before_of s) l ≡ refusal (before_rising s.last (history_years s.site.al s.site.filiere) s.lasts.r) l
  unfolding before_rising
  before_r u = before_same s l R u refl no_meter _ 0 0 0 refl (λ e. rw e refl) refl refl refl

  pub before_e : tag_of l ≡ E → refusal (before_of s) l ≡ refusal (before_end s.last s.count) l
  unfolding before_end
  before_e u = before_same s l E u refl no_meter (years 0 0) 0 0 s.count refl (λ _. outside_e (history_of_rec s) l u ∙ sym (outside_e (years 0 0) l u)) refl refl refl
