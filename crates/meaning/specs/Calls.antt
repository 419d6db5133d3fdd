-- Opening, line and close: answer, record and blocks after each call, for all inputs (document 01, Calls and both sections on stops).
use Rattle.std.specs.Prelude.{◌&&◌, not, cond, List, ℕ, ◌+◌, ◌-◌, set, get_or}
use Rattle.std.proofs.Math.Option.{Option, some, none}
use Rattle.std.proofs.lemmas.List.Edits.{sets}
use Rattle.lists.specs.Lists.{tab}
use Rattle.calendar.specs.declared.Years.{Years}
use Rattle.calendar.specs.Spans.{position_of}
use Rattle.text.specs.Fields.{field_at}
use Rattle.meaning.specs.Filing.{Reading, reading}
use Rattle.meaning.specs.Line.{Line, Tag, S, C, X, D, P, B, R, rank, is, tag_of, number_at, year_on, month_on, day_on, site_on, value_at, point_of, kind_of, key_of, winter_on}
use Rattle.meaning.specs.Refusals.{Reason, number_of, refusal}
use Rattle.meaning.specs.Level.{Report, report_of, curve_of}
use Rattle.meaning.specs.Closing.{CloseReason, close_number, closing_refusal}
use Rattle.meaning.specs.Blocks.{Blocks, sizes_fit, fresh_blocks, code_of_point, is_near, near_start, far_start, slots_start, slot_at}
use Rattle.meaning.specs.Record.{refused_state, closed_state, is_open, Rec, LastDates, Tallies, in_state, fresh_rec, history_of_rec, axis_of_rec, rec_fits, contents_fit, before_of, filing_of}

-- ---- answers: a refusal has document 01's number and the count of lines
pub data Answer : Type 0 where
  accepted : Answer
  refused : ℕ → ℕ → Answer
  reported : Report → Answer

pub record Out : Type 0 where
  pub answer : Answer
  pub after : Rec
  pub blocks : Blocks

abbrev pub out : Answer → Rec → Blocks → Out
out a s w = record { answer = a; after = s; blocks = w }

-- 1 and 13: record and blocks stay, and the count is the record's
unfoldable pub leaves : ℕ → Rec → Blocks → Out
leaves n s w = out (refused n s.count) s w

-- ---- opening: always allowed where the blocks have their sizes
unfoldable pub opening_of : Rec → Blocks → Out
opening_of s w = cond (sizes_fit w) (out accepted fresh_rec fresh_blocks) (leaves 1 s w)

-- ---- what an accepted line changes in the record
unfoldable pub last_dates_after : Tag → Line → LastDates → LastDates
last_dates_after t l k = record {
  c = cond (is C t) (key_of C l) k.c;
  x = cond (is X t) (key_of X l) k.x;
  d = cond (is D t) (key_of D l) k.d;
  p = cond (is P t) (key_of P l) k.p;
  b = cond (is B t) (key_of B l) k.b;
  r = cond (is R t) (key_of R l) k.r;
}

-- one date more in the line's year
unfoldable pub one_more : Years → Line → List ℕ → List ℕ
one_more span l ns = set ns (year_on l - span.first) (get_or ns (year_on l - span.first) 0 + 1)

unfoldable pub tallies_after : Years → Years → Tag → Line → Tallies → Tallies
tallies_after h axis t l k = record {
  profile_dates = cond (is P t) (one_more h l k.profile_dates) k.profile_dates;
  daily_dates = cond (is D t) (one_more axis l k.daily_dates) k.daily_dates;
  breaks = cond (is B t) (set k.breaks (year_on l - h.first) 1) k.breaks;
  rates = cond (is R t) (set k.rates (year_on l - h.first) (number_at l 2)) k.rates;
}

unfoldable pub rec_after : Tag → Line → Rec → Rec
rec_after t l s = record {
  state = s.state;
  count = s.count + 1;
  last = rank t;
  site = cond (is S t) (site_on l) s.site;
  readings = cond (is X t) (s.readings + 1) s.readings;
  last_index = cond (is X t) (number_at l 4) s.last_index;
  lasts = last_dates_after t l s.lasts;
  tallies = tallies_after (history_of_rec s) (axis_of_rec s) t l s.tallies;
}

-- ---- what it changes in the blocks: the places that it names
unfoldable pub point_codes : Line → List ℕ
point_codes l = tab 20 0 (λ h. code_of_point (point_of l h))

unfoldable pub profile_values : Line → List ℕ
profile_values l = tab 20 0 (value_at l)

unfoldable pub position_on : Years → Line → ℕ
position_on axis l = position_of axis (year_on l) (month_on l) (day_on l)

-- the reading of an X line
unfoldable pub reading_at : Years → Line → Reading
reading_at axis l = reading (position_on axis l) (number_at l 4) (kind_of (field_at l 5))

unfoldable pub blocks_after : Tag → Line → Rec → Blocks → Blocks
blocks_after t l s w = record {
  near =
      cond (is C t && is_near s.site.al (year_on l))
      (sets w.near (near_start s.site.al (year_on l) + slot_at (winter_on l) 0) (point_codes l))
      w.near;
  far =
      cond (is C t && not (is_near s.site.al (year_on l)))
      (sets w.far (far_start s.site.al (year_on l) + slot_at (winter_on l) 0) (point_codes l))
      w.far;
  slots = cond (is P t) (sets w.slots (slots_start (history_of_rec s).first (year_on l) + slot_at (winter_on l) 0) (profile_values l)) w.slots;
  daily = cond (is D t) (set w.daily (position_on (axis_of_rec s) l) (number_at l 4)) w.daily;
  readings = cond (is X t) (set w.readings s.readings (reading_at (axis_of_rec s) l)) w.readings;
  curve = w.curve;
}

-- ---- line: 1, 13, then 2 to 12; a refusal by these marks the record refused and counts the line
unfoldable pub line_by : Option Reason → Rec → Line → Blocks → Out
line_by none s l w = out accepted (rec_after (tag_of l) l s) (blocks_after (tag_of l) l s w)
line_by (some y) s l w = out (refused (number_of y) (s.count + 1)) (in_state refused_state (s.count + 1) s) w

unfoldable pub line_of : Rec → Line → Blocks → Out
line_of s l w =
    cond (sizes_fit w && rec_fits s) (cond (is_open s.state) (line_by (refusal (before_of s) l) s l w) (leaves 13 s w)) (leaves 1 s w)

-- ---- close: 1 with the blocks' contents, 13, then 14 to 18; else the curve is set and the record closed
unfoldable pub with_curve : Blocks → List ℕ → Blocks
with_curve w c = record {
  near = w.near;
  far = w.far;
  slots = w.slots;
  daily = w.daily;
  readings = w.readings;
  curve = c;
}

unfoldable pub close_by : Option CloseReason → Rec → Blocks → Out
close_by none s w = out (reported (report_of (filing_of s w))) (in_state closed_state s.count s) (with_curve w (curve_of (filing_of s w)))
close_by (some k) s w = out (refused (close_number k) s.count) (in_state refused_state s.count s) w

unfoldable pub close_of : Rec → Blocks → Out
close_of s w =
    cond (sizes_fit w && (rec_fits s && contents_fit s w))
    (cond (is_open s.state) (close_by (closing_refusal (filing_of s w)) s w) (leaves 13 s w))
    (leaves 1 s w)
