-- Daily sums: after a D line the daily block holds what the lines say.
use mathlib.Core.Path.{◌≡◌, refl}
use mathlib.Core.Bool.{false, not, ◌&&◌}
use mathlib.Core.List.{List, [], ◌∷◌, ◌++◌}
use Prim.Native.Nat.{ℕ, ◌+◌, ◌-◌, ◌*◌, ◌<◌}
use native.Mathlib.Omega.{arith}
use lib.Dec.{T, ltb, eqb, ltb→lt, lt→ltb, eqb→eq}
use lib.Seq.{get_or-set_same, get_or-set_other}
use borrow.Author.Tests.{eq-eqb}
use Rattle.lists.specs.Lists.{or_else, Each}
use Rattle.lists.proofs.Laws.{each_map}
use Rattle.lists.proofs.Tables.{found}
use Rattle.lists.proofs.Tests.{is_true, and_parts}
use Rattle.calendar.specs.declared.Years.{Years}
use Rattle.calendar.specs.Spans.{among, axis_years, position_of}
use Rattle.calendar.proofs.Laws.Days.{date_day, day_place}
use Rattle.meaning.specs.Line.{Line, D, is, tag_of, most_daily, number_at, year_on, month_on, day_on, place_on}
use Rattle.meaning.specs.File.{daily_on, daily_in}
use Rattle.meaning.specs.Blocks.{Blocks}
use Rattle.meaning.specs.Record.{Rec, history_of_site, axis_of_rec, daily_held}
use Rattle.meaning.specs.Calls.{position_on, blocks_after}
use Rattle.meaning.proofs.Accepted.{AxisLine}
use Rattle.demands.proofs.Held.Spans.{axis_row}
use Rattle.demands.proofs.Held.Earlier.{Short, fails, short_key, date_key_lem, names, unnamed}
use Rattle.demands.proofs.Held.Rows.{where_same, stored_or_not}
use Rattle.meaning.proofs.Sizes.{Sizes}

-- no earlier D line names the date place
date_free : (l m : Line) (y p : ℕ) → Short D l m → year_on l ≡ y → place_on l ≡ p → (is D (tag_of m) && (eqb (year_on m) y && eqb (place_on m) p)) ≡ false
date_free l m y p short i j =
    fails (is D (tag_of m) && (eqb (year_on m) y && eqb (place_on m) p))
    (λ z. let n = names D m y (eqb (place_on m) p) z in omega (arith, n.year, eqb→eq (place_on m) p n.date, short_key D l m n.tag short, date_key_lem D l tt, date_key_lem D m tt))

is_date_lem : (l : Line) (p : ℕ) → place_on l ≡ p → T (eqb (place_on l) p)
is_date_lem l p e = rw (eq-eqb (place_on l) p e) tt

place_below : {axis : Years} {n : ℕ} {l : Line} → AxisLine axis n l → place_on l < 366
unfolding place_on
place_below {l = l} a = (day_place (month_on l) (day_on l) (date_day (year_on l) (month_on l) (day_on l) a.date)).below

module _ (s : Rec) (w : Blocks) (l : Line) (z : Sizes w) (same : axis_of_rec s ≡ axis_years (history_of_site s.site)) where
  daily_stored : T (is D (tag_of l)) → AxisLine (axis_years (history_of_site s.site)) most_daily l
      → daily_held (axis_years (history_of_site s.site)) (blocks_after (tag_of l) l s w) (year_on l) (place_on l) ≡ number_at l 4
  unfolding daily_held blocks_after position_on position_of place_on
  daily_stored d a =
      rw (
        is_true (among (axis_years (history_of_site s.site)) (year_on l)) a.year,
        is_true (ltb (place_on l) 366) (lt→ltb (place_on l) 366 (place_below a)),
        is_true (is D (tag_of l)) d,
        same,
      )
      (get_or-set_same w.daily (366 * (year_on l - (axis_years (history_of_site s.site)).first) + place_on l) (number_at l 4) 0
      (omega (arith, axis_row s.site (year_on l) a.year, place_below a, z.daily)))

  daily_kept : (T (is D (tag_of l)) → AxisLine (axis_years (history_of_site s.site)) most_daily l) → (y p : ℕ)
      → T (not (is D (tag_of l) && (eqb (year_on l) y && eqb (place_on l) p)))
      → daily_held (axis_years (history_of_site s.site)) (blocks_after (tag_of l) l s w) y p ≡ daily_held (axis_years (history_of_site s.site)) w y p
  unfolding daily_held blocks_after position_on position_of place_on
  daily_kept a y p n =
      rw same (where_same (among (axis_years (history_of_site s.site)) y && ltb p 366) _ _ 0
      (λ t. let i = and_parts (among (axis_years (history_of_site s.site)) y) (ltb p 366) t in
      let k = ltb→lt p 366 i.1 in
      stored_or_not (is D (tag_of l)) w.daily _ _ 0
      (λ d. get_or-set_other w.daily (366 * (year_on l - (axis_years (history_of_site s.site)).first) + place_on l) (366 * (y - (axis_years (history_of_site s.site)).first) + p)
      (number_at l 4) 0
      (λ e. let f = axis_row s.site (year_on l) (a d).year in let g = axis_row s.site y i.0 in let h = place_below (a d) in
      unnamed D l y (eqb (place_on l) p) n d (omega arith) (is_date_lem l p (omega arith))))))

pub daily_step : (ls : List Line) (l : Line) (s : Rec) (w : Blocks) → Sizes w → axis_of_rec s ≡ axis_years (history_of_site s.site)
    → (T (is D (tag_of l)) → AxisLine (axis_years (history_of_site s.site)) most_daily l) → (T (is D (tag_of l)) → Each (Short D l) ls) → (y p : ℕ)
    → daily_held (axis_years (history_of_site s.site)) w y p ≡ daily_in ls y p
    → daily_held (axis_years (history_of_site s.site)) (blocks_after (tag_of l) l s w) y p ≡ daily_in (ls ++ (l ∷ [])) y p
unfolding daily_in daily_on
daily_step ls l s w z same a short y p e =
    found (λ o. or_else o 0) (daily_on y p) ls l (is D (tag_of l) && (eqb (year_on l) y && eqb (place_on l) p)) (number_at l 4)
    (daily_held (axis_years (history_of_site s.site)) (blocks_after (tag_of l) l s w) y p) (daily_held (axis_years (history_of_site s.site)) w y p) refl e
    (λ t. let n = names D l y (eqb (place_on l) p) t in each_map (λ m g. rw (date_free l m y p g n.year (eqb→eq (place_on l) p n.date))) (short n.tag))
    (λ t. let n = names D l y (eqb (place_on l) p) t in rw (← n.year, ← eqb→eq (place_on l) p n.date) (daily_stored s w l z same n.tag (a n.tag)))
    (daily_kept s w l z same a y p)
