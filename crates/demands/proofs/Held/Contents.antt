-- What the blocks hold stays in range: at places with a date what the tag can take, elsewhere fresh.
use mathlib.Core.Path.{◌≡◌}
use mathlib.Core.Bool.{Bool, not, ◌&&◌, ◌||◌, cond}
use mathlib.Core.List.{List, []}
use mathlib.Core.Option.{Option, some, none}
use Prim.Native.Nat.{ℕ, ◌+◌, ◌-◌, ◌*◌, ◌/◌, ◌%◌, ◌≤◌, ◌<◌}
use native.Mathlib.Omega.{arith}
use lib.Dec.{T, leb, eqb, le→leb}
use lib.ListN.{length, get_or, set}
use lib.Seq.{sets}
use Rattle.lists.specs.Lists.{all, neighbours}
use Rattle.lists.proofs.Tables.{set_fits_by, sets_fit_by, replicate_fits}
use Rattle.lists.proofs.Tests.{and_parts, and_made, or_right}
use Rattle.calendar.specs.declared.Years.{Years}
use Rattle.calendar.specs.Places.{has_date}
use Rattle.calendar.specs.Spans.{among, year_at, place_at}
use Rattle.calendar.proofs.Laws.Days.{date_day, date_at_place}
use Rattle.calendar.proofs.Laws.Positions.{position_parts}
use Rattle.meaning.specs.Filing.{Site, Reading}
use Rattle.meaning.specs.Line.{Line, C, D, P, is, tag_of, most_power, most_profile, most_daily, number_at, year_on, month_on, day_on, value_at, point_of, winter_on}
use Rattle.meaning.specs.Blocks.{Blocks, missing_point, row_size, points_size, slots_size, daily_size, code_of_point, is_near, near_start, far_start, slots_start, slot_at, readings_of, fresh_blocks}
use Rattle.meaning.specs.Record.{Rec, history_of_site, history_of_rec, axis_of_rec, is_dated, point_fits, points_fit, slots_fit, daily_fits, readings_fit, contents_fit}
use Rattle.meaning.specs.Calls.{point_codes, profile_values, position_on}
use Rattle.meaning.proofs.Accepted.{WinterLine, AxisLine, PointFits}
use Rattle.demands.proofs.Held.Spans.{InRow, near_row, far_row, history_row}
use Rattle.demands.proofs.Held.Earlier.{line_placed, line_dated}
use Rattle.demands.proofs.Held.Rows.{row_of}
use Rattle.demands.proofs.Held.Points.{length_codes, code_of}
use Rattle.demands.proofs.Held.Profiles.{length_values, value_of}

-- ---- the five tests
pub record Contents (h axis : Years) (al : ℕ) (w : Blocks) (rs : List Reading) : Type 0 where
  pub near : T (points_fit h (al - 9) w.near)
  pub far : T (points_fit h (al - 14) w.far)
  pub slots : T (slots_fit h w.slots)
  pub daily : T (daily_fits axis w.daily)
  pub readings : T (readings_fit axis rs)

pub contents_of : (s : Rec) (w : Blocks) → T (contents_fit s w) → Contents (history_of_rec s) (axis_of_rec s) s.site.al w (readings_of w s.readings)
unfolding contents_fit
contents_of s w t =
    let a = and_parts (points_fit (history_of_rec s) (s.site.al - 9) w.near && points_fit (history_of_rec s) (s.site.al - 14) w.far) _ t in
    let b = and_parts (points_fit (history_of_rec s) (s.site.al - 9) w.near) _ a.0 in
    let c = and_parts (slots_fit (history_of_rec s) w.slots && daily_fits (axis_of_rec s) w.daily) _ a.1 in
    let d = and_parts (slots_fit (history_of_rec s) w.slots) _ c.0 in
    record { near = b.0; far = b.1; slots = d.0; daily = d.1; readings = c.1 }

pub contents_fit_lem : (s : Rec) (w : Blocks) → Contents (history_of_rec s) (axis_of_rec s) s.site.al w (readings_of w s.readings) → T (contents_fit s w)
unfolding contents_fit
contents_fit_lem s w c =
    and_made (points_fit (history_of_rec s) (s.site.al - 9) w.near && points_fit (history_of_rec s) (s.site.al - 14) w.far) _
    (and_made (points_fit (history_of_rec s) (s.site.al - 9) w.near) _ c.near c.far)
    (and_made (slots_fit (history_of_rec s) w.slots && daily_fits (axis_of_rec s) w.daily) _
    (and_made (slots_fit (history_of_rec s) w.slots) _ c.slots c.daily) c.readings)

-- ---- fresh blocks
pub fresh_contents : (h axis : Years) (al : ℕ) → Contents h axis al fresh_blocks []
unfolding fresh_blocks points_fit point_fits slots_fit daily_fits readings_fit all neighbours
fresh_contents h axis al = record {
  near = replicate_fits _ 0 points_size missing_point (λ k. tt);
  far = replicate_fits _ 0 points_size missing_point (λ k. tt);
  slots = replicate_fits _ 0 slots_size 0 (λ k. tt);
  daily = replicate_fits _ 0 daily_size 0 (λ k. tt);
  readings = tt;
}

-- ---- points
code_fits : (o : Option ℕ) (b : Bool) → PointFits o → T b → T (point_fits b (code_of_point o))
unfolding point_fits code_of_point PointFits
code_fits none b f t = tt
code_fits (some v) b f t = or_right (eqb v missing_point) (b && leb v most_power) (and_made b (leb v most_power) t (le→leb v most_power f))

code_placed : (h : Years) (first : ℕ) (l : Line) → WinterLine h l → ((k : ℕ) → k < 20 → PointFits (point_of l k)) → InRow 5 first (year_on l) → (k : ℕ) → k < length (point_codes l)
    → T (point_fits (is_dated h (first + (row_size * (year_on l - first) + slot_at (winter_on l) 0 + k) / row_size) ((row_size * (year_on l - first) + slot_at (winter_on l) 0 + k) % row_size / 20))
    (get_or (point_codes l) k missing_point))
code_placed h first l a f i k n =
    let b : k < 20 = omega (arith, length_codes l) in
    let r = row_of (year_on l - first) (winter_on l) k (line_placed a).below b in
    let y : first + (year_on l - first) ≡ year_on l = omega (arith, i.from) in
    rw (r.row, r.place, y, code_of l k b) (code_fits (point_of l k) (is_dated h (year_on l) (winter_on l)) (f k b) (line_dated a))

module _ (t : Site) (l : Line) (a : T (is C (tag_of l)) → WinterLine (history_of_site t) l) (f : T (is C (tag_of l)) → (k : ℕ) → k < 20 → PointFits (point_of l k)) where
  pub near_fits : (xs : List ℕ) → T (points_fit (history_of_site t) (t.al - 9) xs)
      → T (points_fit (history_of_site t) (t.al - 9) (cond (is C (tag_of l) && is_near t.al (year_on l)) (sets xs (near_start t.al (year_on l) + slot_at (winter_on l) 0) (point_codes l)) xs))
  unfolding points_fit near_start
  near_fits xs fit =
      sets_fit_by (is C (tag_of l) && is_near t.al (year_on l)) _ xs _ (point_codes l) missing_point fit
      (λ b. let p = and_parts (is C (tag_of l)) (is_near t.al (year_on l)) b in
      code_placed (history_of_site t) (t.al - 9) l (a p.0) (f p.0) (near_row t (year_on l) (a p.0).year p.1))

  pub far_fits : (xs : List ℕ) → T (points_fit (history_of_site t) (t.al - 14) xs)
      → T (points_fit (history_of_site t) (t.al - 14) (cond (is C (tag_of l) && not (is_near t.al (year_on l))) (sets xs (far_start t.al (year_on l) + slot_at (winter_on l) 0) (point_codes l)) xs))
  unfolding points_fit far_start
  far_fits xs fit =
      sets_fit_by (is C (tag_of l) && not (is_near t.al (year_on l))) _ xs _ (point_codes l) missing_point fit
      (λ b. let p = and_parts (is C (tag_of l)) (not (is_near t.al (year_on l))) b in
      code_placed (history_of_site t) (t.al - 14) l (a p.0) (f p.0) (far_row t (year_on l) (a p.0).year p.1))

-- ---- profile values
value_placed : (h : Years) (l : Line) → WinterLine h l → h.first ≤ year_on l → ((k : ℕ) → k < 20 → value_at l k ≤ most_profile) → (k : ℕ) → k < length (profile_values l)
    → T (eqb (get_or (profile_values l) k 0) 0
    || (is_dated h (h.first + (row_size * (year_on l - h.first) + slot_at (winter_on l) 0 + k) / row_size)
    ((row_size * (year_on l - h.first) + slot_at (winter_on l) 0 + k) % row_size / 20) && leb (get_or (profile_values l) k 0) most_profile))
value_placed h l a i f k n =
    let b : k < 20 = omega (arith, length_values l) in
    let r = row_of (year_on l - h.first) (winter_on l) k (line_placed a).below b in
    let y : h.first + (year_on l - h.first) ≡ year_on l = omega arith in
    rw (r.row, r.place, y, value_of l k b)
    (or_right (eqb (value_at l k) 0) _
    (and_made (is_dated h (year_on l) (winter_on l)) (leb (value_at l k) most_profile) (line_dated a) (le→leb (value_at l k) most_profile (f k b))))

pub slots_fit_lem : (t : Site) (l : Line) → (T (is P (tag_of l)) → WinterLine (history_of_site t) l) → (T (is P (tag_of l)) → (k : ℕ) → k < 20 → value_at l k ≤ most_profile)
    → (xs : List ℕ) → T (slots_fit (history_of_site t) xs)
    → T (slots_fit (history_of_site t) (cond (is P (tag_of l)) (sets xs (slots_start (history_of_site t).first (year_on l) + slot_at (winter_on l) 0) (profile_values l)) xs))
unfolding slots_fit slots_start
slots_fit_lem t l a f xs fit =
    sets_fit_by (is P (tag_of l)) _ xs _ (profile_values l) 0 fit
    (λ p. value_placed (history_of_site t) l (a p) (history_row t (year_on l) (a p).year).from (f p))

-- ---- daily sums, and any place of an axis date
pub record AxisPlaced (axis : Years) (p : ℕ) : Type 0 where
  pub year : T (among axis (year_at axis p))
  pub date : T (has_date (year_at axis p) (place_at p))

pub axis_placed : {axis : Years} {n : ℕ} {l : Line} → AxisLine axis n l → AxisPlaced axis (position_on axis l)
unfolding position_on
axis_placed {axis} {l = l} a =
    let day = date_day (year_on l) (month_on l) (day_on l) a.date in
    let p = position_parts axis (year_on l) (month_on l) (day_on l) a.year day in
    record {
      year = rw p.year a.year;
      date = rw (p.year, p.place, ← date_at_place (year_on l) (month_on l) (day_on l) day) a.date;
    }

pub daily_fits_lem : (axis : Years) (l : Line) → (T (is D (tag_of l)) → AxisLine axis most_daily l) → (xs : List ℕ) → T (daily_fits axis xs)
    → T (daily_fits axis (cond (is D (tag_of l)) (set xs (position_on axis l) (number_at l 4)) xs))
unfolding daily_fits
daily_fits_lem axis l a xs fit =
    set_fits_by (is D (tag_of l)) _ xs (position_on axis l) (number_at l 4) fit
    (λ d. let p = axis_placed (a d) in
    or_right (eqb (number_at l 4) 0) _
    (and_made (among axis (year_at axis (position_on axis l)) && has_date (year_at axis (position_on axis l)) (place_at (position_on axis l))) _
    (and_made (among axis (year_at axis (position_on axis l))) _ p.year p.date) (le→leb (number_at l 4) most_daily (a d).number)))
