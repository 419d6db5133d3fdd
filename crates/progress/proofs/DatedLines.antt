-- An accepted C, P, D or X line: where it is stored, and the resulting step.
use Rattle.std.specs.Prelude.{Option}
use mathlib.Core.Path.{◌≡◌, refl, ◌∙◌}
use mathlib.Core.Bool.{Bool, true, false, not, cond}
use mathlib.Core.List.{List}
use mathlib.Core.Option.{none}
use Prim.Native.Nat.{ℕ, ◌+◌, ◌-◌, ◌≤◌, ◌<◌}
use native.Mathlib.Omega.{arith}
use lib.Dec.{T, leb}
use lib.ListN.{get_or, set}
use lib.Seq.{sets}
use borrow.Author.Tests.{leb-false}
use Rattle.blocks.specs.PointStores.{RowPlace, near_put, far_put}
use Rattle.lists.proofs.Tests.{is_false}
use Rattle.calendar.specs.declared.Years.{Years}
use Rattle.calendar.specs.Dates.{is_date}
use Rattle.calendar.specs.Spans.{among, history_years, axis_years, position_of}
use Rattle.calendar.proofs.Laws.{axis_range, date_day, winter_day_place, position_parts}
use Rattle.text.specs.Fields.{field_at}
use Rattle.meaning.specs.Filing.{Kind}
use Rattle.meaning.specs.Line.{Line, C, X, D, P, tag_of, year_on, month_on, day_on, number_at, winter_on, kind_of, key_of, most_daily}
use Rattle.meaning.specs.Refusals.{refusal, too_many, holds}
use Rattle.meaning.specs.Blocks.{is_near, near_start, far_start, slots_start, slot_at}
use Rattle.meaning.specs.Record.{Rec, in_state, site_of_rec, history_of_site, history_of_rec, axis_of_rec, before_of}
use Rattle.meaning.specs.Calls.{rec_after, blocks_after, last_dates_after, tallies_after, one_more, position_on, point_codes, profile_values}
use Rattle.meaning.proofs.Passed.{passed}
use Rattle.meaning.proofs.Accepted.{accepted_c, accepted_p, accepted_d, accepted_x}
use Rattle.rounding.specs.declared.Watts.{Watts}
use Rattle.line_form.specs.Codes.{point_row, profile_row}
use Rattle.blocks.specs.Stores.{slots_put}
use Rattle.progress.specs.Steps.{with_no_reading, stores_after, step_of, no_block, point_blocks, slot_block, daily_block}
use Rattle.progress.proofs.Steps.{step_took}
use Rattle.progress.proofs.Rows.{Row, history_row, axis_row, row_place, site_given, history_given, axis_given}
use Rattle.progress.proofs.Codes.{codes_c, codes_p}

-- ---- where the line is stored
module _ (s : Rec) (l : Line) (e : refusal (before_of s) l ≡ none) where
  pub points_place : tag_of l ≡ C → RowPlace s.site.al (year_on l) (winter_on l)
  unfolding before_of winter_on history_of_rec history_of_site
  points_place u =
      let a = accepted_c (before_of s) l e u in
      row_place s.site.al s.site.filiere (year_on l) (winter_on l)
      (rw (site_given s (year_on l) a.year) at a.year)
      (winter_day_place (month_on l) (day_on l) (date_day (year_on l) (month_on l) (day_on l) a.date) a.winter).below

  pub profiles_row : tag_of l ≡ P → Row (history_of_rec s).first (year_on l) 10 × (winter_on l < 152)
  unfolding before_of winter_on
  profiles_row u =
      let a = accepted_p (before_of s) l e u in
      (history_row s (year_on l) a.year, (winter_day_place (month_on l) (day_on l) (date_day (year_on l) (month_on l) (day_on l) a.date) a.winter).below)

  pub profiles_history : tag_of l ≡ P → history_years s.site.al s.site.filiere ≡ history_of_rec s
  unfolding before_of
  profiles_history u = history_given s (year_on l) (accepted_p (before_of s) l e u).year

  pub daily_row : tag_of l ≡ D → Row (axis_of_rec s).first (year_on l) 12
  unfolding before_of axis_of_rec
  daily_row u = axis_row s (year_on l) (accepted_d (before_of s) l e u).year

  pub daily_axis : tag_of l ≡ D → axis_years (history_years s.site.al s.site.filiere) ≡ axis_of_rec s
  unfolding before_of axis_of_rec
  daily_axis u = axis_given s (year_on l) (accepted_d (before_of s) l e u).year

  position_below : T (among (axis_of_rec s) (year_on l)) → T (is_date (year_on l) (month_on l) (day_on l)) → position_on (axis_of_rec s) l < 4392
  unfolding position_on axis_of_rec history_of_rec history_of_site
  position_below a d =
      let h = (axis_range (site_of_rec s).al (site_of_rec s).filiere).short in
      let b = (position_parts (axis_years (history_years (site_of_rec s).al (site_of_rec s).filiere)) (year_on l) (month_on l) (day_on l) a (date_day (year_on l) (month_on l) (day_on l) d)).below in
      omega arith

  pub daily_place : tag_of l ≡ D → (position_on (axis_of_rec s) l < 4392) × (number_at l 4 ≤ most_daily)
  unfolding before_of axis_of_rec
  daily_place u = let a = accepted_d (before_of s) l e u in (position_below a.year a.date, a.number)

  pub reading_place : tag_of l ≡ X → (position_on (axis_of_rec s) l < 4392) × (s.readings < 600)
  unfolding before_of axis_of_rec holds
  reading_place u =
      let a = accepted_x (before_of s) l e u in
      (position_below a.year a.date, leb-false 600 s.readings (is_false (leb 600 s.readings) (rw u at (passed (before_of s) l e too_many))))

  -- the position, computed by the checks from the site of the record
  pub position_d : tag_of l ≡ D → position_of (axis_years (history_years s.site.al s.site.filiere)) (year_on l) (month_on l) (day_on l) ≡ position_on (axis_of_rec s) l
  unfolding position_on
  position_d u = rw (daily_axis u)

  pub position_x : tag_of l ≡ X → position_of (axis_years (history_years s.site.al s.site.filiere)) (year_on l) (month_on l) (day_on l) ≡ position_on (axis_of_rec s) l
  unfolding before_of axis_of_rec position_on
  position_x u = rw (axis_given s (year_on l) (accepted_x (before_of s) l e u).year)

  -- ---- answer, record and blocks, from the numbers in the code
  pub took_c : tag_of l ≡ C → (near far near' far' : List ℕ) (points : List (Option Watts)) (y w k : ℕ) → (y ≡ year_on l) × (w ≡ winter_on l) × (k ≡ key_of C l) → points ≡ point_row l
      → near' ≡ near_put s.site.al y w points near → far' ≡ far_put s.site.al y w points far
      → with_no_reading 0 (record {
        state = s.state;
        count = s.count;
        last = 2;
        site = s.site;
        readings = s.readings;
        last_index = s.last_index;
        lasts = record { c = k; x = s.lasts.x; d = s.lasts.d; p = s.lasts.p; b = s.lasts.b; r = s.lasts.r };
        tallies = s.tallies;
      }) (point_blocks near' far')
      ≡ step_of s l (point_blocks near far)
  unfolding rec_after stores_after blocks_after last_dates_after tallies_after in_state near_put far_put
  took_c u near far near' far' points y w k q ec en ef =
      let near-is : near' ≡ cond (is_near s.site.al (year_on l)) (sets near (near_start s.site.al (year_on l) + slot_at (winter_on l) 0) (point_codes l)) near
      = en ∙ rw (q.0, q.1, ec, codes_c (before_of s) l e u) in
      let far-is : far' ≡ cond (not (is_near s.site.al (year_on l))) (sets far (far_start s.site.al (year_on l) + slot_at (winter_on l) 0) (point_codes l)) far
      = ef ∙ rw (q.0, q.1, ec, codes_c (before_of s) l e u) (other (is_near s.site.al (year_on l)) far _) in
      rw (near-is, far-is, q.2) (step_took s l (point_blocks near far) C u e)
    where
      other : (b : Bool) (x y : List ℕ) → cond b x y ≡ cond (not b) y x
      other true x y = refl
      other false x y = refl

  pub took_p : tag_of l ≡ P → (slots slots' values : List ℕ) (h : Years) (y w k : ℕ) → (y ≡ year_on l) × (w ≡ winter_on l) × (k ≡ key_of P l) → h ≡ history_of_rec s → values ≡ profile_row l
      → slots' ≡ slots_put h.first y w values slots
      → with_no_reading 0 (record {
        state = s.state;
        count = s.count;
        last = 5;
        site = s.site;
        readings = s.readings;
        last_index = s.last_index;
        lasts = record { c = s.lasts.c; x = s.lasts.x; d = s.lasts.d; p = k; b = s.lasts.b; r = s.lasts.r };
        tallies = record {
          profile_dates = set s.tallies.profile_dates (y - h.first) (get_or s.tallies.profile_dates (y - h.first) 0 + 1);
          daily_dates = s.tallies.daily_dates;
          breaks = s.tallies.breaks;
          rates = s.tallies.rates;
        };
      }) (slot_block slots')
      ≡ step_of s l (slot_block slots)
  unfolding rec_after stores_after blocks_after last_dates_after tallies_after in_state one_more slots_put
  took_p u slots slots' values h y w k q eh ec es =
      let slots-is : slots' ≡ sets slots (slots_start (history_of_rec s).first (year_on l) + slot_at (winter_on l) 0) (profile_values l)
      = es ∙ rw (q.0, q.1, eh, ec, codes_p (before_of s) l e u) in
      rw (slots-is, q.0, q.2, eh) (step_took s l (slot_block slots) P u e)

  pub took_d : tag_of l ≡ D → (daily daily' : List ℕ) (a : Years) (y p v k : ℕ) → (y ≡ year_on l) × (p ≡ position_on (axis_of_rec s) l) × (v ≡ number_at l 4) × (k ≡ key_of D l) → a ≡ axis_of_rec s
      → daily' ≡ set daily p v
      → with_no_reading 0 (record {
        state = s.state;
        count = s.count;
        last = 4;
        site = s.site;
        readings = s.readings;
        last_index = s.last_index;
        lasts = record { c = s.lasts.c; x = s.lasts.x; d = k; p = s.lasts.p; b = s.lasts.b; r = s.lasts.r };
        tallies = record {
          profile_dates = s.tallies.profile_dates;
          daily_dates = set s.tallies.daily_dates (y - a.first) (get_or s.tallies.daily_dates (y - a.first) 0 + 1);
          breaks = s.tallies.breaks;
          rates = s.tallies.rates;
        };
      }) (daily_block daily')
      ≡ step_of s l (daily_block daily)
  unfolding rec_after stores_after blocks_after last_dates_after tallies_after in_state one_more
  took_d u daily daily' a y p v k q ea ed = rw (ed, q.0, q.1, q.2, q.3, ea) (step_took s l (daily_block daily) D u e)

  pub took_x : tag_of l ≡ X → (p i k : ℕ) (m : Kind)
      → (p ≡ position_on (axis_of_rec s) l) × (i ≡ number_at l 4) × (m ≡ kind_of (field_at l 5)) × (k ≡ key_of X l)
      → record {
        number = 0;
        after = record {
          state = s.state;
          count = s.count;
          last = 3;
          site = s.site;
          readings = s.readings + 1;
          last_index = i;
          lasts = record { c = s.lasts.c; x = k; d = s.lasts.d; p = s.lasts.p; b = s.lasts.b; r = s.lasts.r };
          tallies = s.tallies;
        };
        reads = true;
        position = p;
        index = i;
        kind = m;
        blocks = no_block;
      }
      ≡ step_of s l no_block
  unfolding rec_after stores_after blocks_after last_dates_after tallies_after in_state
  took_x u p i k m q = rw (q.0, q.1, q.2, q.3) (step_took s l no_block X u e)
