-- 5, 6 and 7 of a line of a known tag, from what is read from it.
use mathlib.Core.Path.{◌≡◌, refl, ap, subst, sym, ◌∙◌}
use mathlib.Core.Bool.{Bool, true, false, not, ◌&&◌, ◌||◌}
use Prim.Native.Nat.{ℕ, ◌+◌, ◌≤◌, ◌<◌, min}
use native.Mathlib.Omega.{arith}
use lib.Dec.{T, leb, ltb}
use Rattle.lists.proofs.Tests.{is_true, or_parts, or_false}
use Rattle.calendar.specs.declared.Years.{Years}
use Rattle.calendar.specs.Dates.{is_date}
use Rattle.calendar.specs.Spans.{among, axis_years}
use Rattle.text.specs.Fields.{field_at, rest_at}
use Rattle.text.specs.Numbers.{most}
use Rattle.meaning.specs.Line.{Line, Tag, S, X, D, B, R, E, tag_of, forms_of, in_range, some_field, number_at, year_on, month_on, day_on, site_on, meter_of, has_date_on, is_winter_tag, most_power, most_index, most_daily}
use Rattle.meaning.specs.Refusals.{is_outside, has_no_date}
use Rattle.meaning.specs.Record.{is_within}
use Rattle.rounding.specs.Units.{in_wh}
use Rattle.line_form.specs.Views.{site_view}
use Rattle.line_form.specs.Reads.{capped_at, date_read_of, site_read_of, reading_read_of, daily_read_of, rate_read_of}
use Rattle.line_form.specs.Ranges.{is_site_outside, is_reading_outside, is_daily_outside, is_year_outside, is_rate_outside, is_count_outside, no_date_for}
use Rattle.line_form.proofs.LetterLaws.{shown}
use Rattle.line_form.proofs.Capped.{Early, early_axis, within_capped, within_exact, among_capped, among_exact, above_capped, above_exact, date_capped, date_exact, winter_capped}

-- ---- 6

pub either : {a b c d : Bool} → a ≡ c → b ≡ d → (a || b) ≡ (c || d)
either p q = rw (p, q)

-- a number outside its range, a year outside its span
number_off : (l : Line) (n a b : ℕ) → b < most → not (leb a (number_at l n) && leb (number_at l n) b) ≡ not (is_within a b (capped_at l n))
unfolding capped_at is_within
number_off l n a b h = ap not (sym (within_capped a b (number_at l n) h))

above_off : (l : Line) (n b : ℕ) → b < most → not (leb 0 (number_at l n) && leb (number_at l n) b) ≡ ltb b (capped_at l n)
unfolding capped_at
above_off l n b h = above_capped b (number_at l n) h

pub year_off : (s : Years) (l : Line) (n : ℕ) → s.first + s.count ≤ most → not (among s (number_at l n)) ≡ not (among s (capped_at l n))
unfolding capped_at
year_off s l n h = ap not (sym (among_capped s (number_at l n) h))

pub outside_s : (h : Years) (l : Line) → tag_of l ≡ S → is_outside h l ≡ is_site_outside (site_read_of l)
unfolding is_outside forms_of some_field in_range is_site_outside site_read_of number_at field_at rest_at
outside_s h l e =
    rw e (either (number_off l 2 2021 2026 (omega arith)) (either (number_off l 3 1 11 (omega arith)) (or_false _ ∙ number_off l 5 1 most_power (omega arith))))

pub outside_x : (h : Years) (l : Line) → Early h → tag_of l ≡ X → is_outside h l ≡ is_reading_outside h (reading_read_of l)
unfolding is_outside forms_of some_field in_range is_reading_outside reading_read_of date_read_of number_at field_at rest_at
outside_x h l y e = rw e (either (year_off (axis_years h) l 1 (early_axis h y)) (or_false _ ∙ above_off l 4 most_index (omega arith)))

pub outside_d : (h : Years) (l : Line) → Early h → tag_of l ≡ D → is_outside h l ≡ is_daily_outside h (daily_read_of l)
unfolding is_outside forms_of some_field in_range is_daily_outside daily_read_of date_read_of number_at field_at rest_at
outside_d h l y e = rw e (either (year_off (axis_years h) l 1 (early_axis h y)) (or_false _ ∙ above_off l 4 most_daily (omega arith)))

pub outside_b : (h : Years) (l : Line) → Early h → tag_of l ≡ B → is_outside h l ≡ is_year_outside h (capped_at l 1)
unfolding is_outside forms_of some_field in_range is_year_outside number_at field_at rest_at
outside_b h l y e = rw e (or_false _ ∙ year_off h l 1 (omega arith))

pub outside_r : (h : Years) (l : Line) → Early h → tag_of l ≡ R → is_outside h l ≡ is_rate_outside h (rate_read_of l)
unfolding is_outside forms_of some_field in_range is_rate_outside rate_read_of number_at field_at rest_at
outside_r h l y e = rw e (either (year_off h l 1 (omega arith)) (or_false _ ∙ number_off l 2 10 1000 (omega arith)))

pub outside_e : (h : Years) (l : Line) → tag_of l ≡ E → is_outside h l ≡ is_count_outside (capped_at l 1)
unfolding is_outside forms_of some_field in_range is_count_outside number_at field_at rest_at
outside_e h l e = rw e (or_false _ ∙ above_off l 1 9999 (omega arith))

-- ---- a number that is not outside its range is not capped
holds : (b : Bool) → not b ≡ false → T b
holds true e = tt
holds false e = subst T e tt

number_exact : (l : Line) (n a b : ℕ) → b < most → not (is_within a b (capped_at l n)) ≡ false → capped_at l n ≡ number_at l n
unfolding capped_at
number_exact l n a b h e = within_exact a b (number_at l n) h (holds (is_within a b (min (number_at l n) most)) e)

above_in : (l : Line) (n b : ℕ) → b < most → ltb b (capped_at l n) ≡ false → capped_at l n ≡ number_at l n
unfolding capped_at
above_in l n b h e = above_exact b (number_at l n) h e

pub year_exact : (s : Years) (l : Line) (n : ℕ) → s.first + s.count ≤ most → not (among s (capped_at l n)) ≡ false → capped_at l n ≡ number_at l n
unfolding capped_at
year_exact s l n h e = among_exact s (number_at l n) h (holds (among s (min (number_at l n) most)) e)

pub exact_s : (h : Years) (l : Line) → tag_of l ≡ S → is_outside h l ≡ false → site_view (site_read_of l) ≡ site_on l
unfolding site_read_of site_on is_site_outside
exact_s h l e o =
    let al = not (is_within 2021 2026 (capped_at l 2)) in
    let filiere = not (is_within 1 11 (capped_at l 3)) in
    let ps = not (is_within 1 most_power (capped_at l 5)) in
    let p = or_parts al (filiere || ps) (sym (outside_s h l e) ∙ o) in
    let q = or_parts filiere ps p.1 in
    rw (number_exact l 2 2021 2026 (omega arith) p.0, number_exact l 3 1 11 (omega arith) q.0, number_exact l 5 1 most_power (omega arith) q.1, shown (meter_of (field_at l 4)))

pub exact_x : (h : Years) (l : Line) → Early h → tag_of l ≡ X → is_outside h l ≡ false → ((reading_read_of l).date.year ≡ year_on l) × ((reading_read_of l).index ≡ in_wh (number_at l 4))
unfolding reading_read_of date_read_of is_reading_outside
exact_x h l y e o =
    let p = or_parts _ _ (sym (outside_x h l y e) ∙ o) in
    (year_exact (axis_years h) l 1 (early_axis h y) p.0, ap in_wh (above_in l 4 most_index (omega arith) p.1))

pub exact_d : (h : Years) (l : Line) → Early h → tag_of l ≡ D → is_outside h l ≡ false → ((daily_read_of l).date.year ≡ year_on l) × ((daily_read_of l).sum ≡ number_at l 4)
unfolding daily_read_of date_read_of is_daily_outside
exact_d h l y e o =
    let p = or_parts _ _ (sym (outside_d h l y e) ∙ o) in
    (year_exact (axis_years h) l 1 (early_axis h y) p.0, above_in l 4 most_daily (omega arith) p.1)

pub exact_b : (h : Years) (l : Line) → Early h → tag_of l ≡ B → is_outside h l ≡ false → capped_at l 1 ≡ year_on l
unfolding is_year_outside
exact_b h l y e o = year_exact h l 1 (omega arith) (sym (outside_b h l y e) ∙ o)

pub exact_r : (h : Years) (l : Line) → Early h → tag_of l ≡ R → is_outside h l ≡ false → ((rate_read_of l).year ≡ year_on l) × ((rate_read_of l).rate ≡ number_at l 2)
unfolding rate_read_of is_rate_outside
exact_r h l y e o =
    let p = or_parts _ _ (sym (outside_r h l y e) ∙ o) in
    (year_exact h l 1 (omega arith) p.0, number_exact l 2 10 1000 (omega arith) p.1)

pub exact_e : (h : Years) (l : Line) → tag_of l ≡ E → is_outside h l ≡ false → capped_at l 1 ≡ number_at l 1
unfolding is_count_outside
exact_e h l e o = above_in l 1 9999 (omega arith) (sym (outside_e h l e) ∙ o)

-- ---- 7, y being the year of the line
pub no_date_lem : (t : Tag) (l : Line) (y : ℕ) → tag_of l ≡ t → T (has_date_on t) → y ≡ year_on l → has_no_date l ≡ no_date_for (is_winter_tag t) y (capped_at l 2) (capped_at l 3)
unfolding has_no_date no_date_for capped_at
no_date_lem t l y e d p = rw (e, is_true (has_date_on t) d, p, date_capped (year_on l) (month_on l) (day_on l), winter_capped (month_on l))

-- month and day of a date that exists are not capped
pub exact_date : (t : Tag) (l : Line) → tag_of l ≡ t → T (has_date_on t) → has_no_date l ≡ false → (capped_at l 2 ≡ month_on l) × (capped_at l 3 ≡ day_on l)
unfolding no_date_for capped_at
exact_date t l e d o =
    let p = or_parts _ _ (sym (no_date_lem t l (year_on l) e d refl) ∙ o) in
    date_exact (year_on l) (month_on l) (day_on l) (holds (is_date (year_on l) (min (month_on l) most) (min (day_on l) most)) p.0)
