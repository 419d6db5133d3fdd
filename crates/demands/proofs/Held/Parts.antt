-- What it is for a record, and for record and blocks, to hold a file's lines.
use mathlib.Core.Path.{◌≡◌}
use mathlib.Core.List.{List, []}
use Prim.Native.Nat.{◌≤◌}
use lib.Dec.{T, leb}
use lib.ListN.{length}
use Rattle.lists.specs.Lists.{Each}
use Rattle.calendar.specs.declared.Years.{Years}
use Rattle.calendar.specs.Dates.{is_day, is_winter}
use Rattle.meaning.specs.Line.{Line, X, is, tag_of, year_on, month_on, day_on, has_date_on, is_winter_tag}
use Rattle.meaning.specs.File.{site_in, axis_in, before_in, filing_in}
use Rattle.meaning.specs.Blocks.{Blocks, sizes_fit, fresh_blocks}
use Rattle.meaning.specs.Record.{open_state, Rec, Tallies, fresh_rec, history_of_rec, axis_of_rec, each_year, rec_fits, contents_fit, before_of, filing_of}
use Rattle.meaning.specs.Sheet.{no_curve}
use Rattle.demands.proofs.Held.Counts.{dates_by, winter_dates_by, lines_by}

-- the tallies have a number for each year that a file can have
pub record Shaped (k : Tallies) : Type 0 where
  pub profile_dates : length k.profile_dates ≡ 10
  pub daily_dates : length k.daily_dates ≡ 12
  pub breaks : length k.breaks ≡ 10
  pub rates : length k.rates ≡ 10

-- the record checks a further line as the lines do
pub record HeldRec (ls : List Line) (s : Rec) : Type 0 where
  pub opened : s.state ≡ open_state
  pub site : s.site ≡ site_in ls
  pub before : before_of s ≡ before_in ls
  pub shaped : Shaped s.tallies
  pub fits : T (rec_fits s)
  -- a year has no more P dates, and no more D dates, than come at or before the last one
  pub profiled : T (each_year (history_of_rec s) (λ y n. leb n (winter_dates_by y s.lasts.p)) s.tallies.profile_dates)
  pub summed : T (each_year (axis_of_rec s) (λ y n. leb n (dates_by y s.lasts.d)) s.tallies.daily_dates)
  -- nor are there more lines than the tags' last ones leave room for
  pub few : s.count ≤ lines_by s

-- a line's date: a day, a winter day on C and P, and on X of no year before the axis, so that no other date has its place or position
pub record Dated (axis : Years) (l : Line) : Type 0 where
  pub day : T (has_date_on (tag_of l)) → T (is_day (month_on l) (day_on l))
  pub winter : T (is_winter_tag (tag_of l)) → T (is_winter (month_on l))
  pub year : T (is X (tag_of l)) → axis.first ≤ year_on l

-- record and blocks say what the lines say
pub record HeldBlocks (ls : List Line) (s : Rec) (w : Blocks) : Type 0 where
  pub sized : T (sizes_fit w)
  pub filing : filing_of s w ≡ filing_in ls
  pub contents : T (contents_fit s w)
  pub curve : w.curve ≡ no_curve
  -- until a line is taken both are fresh
  pub unread : ls ≡ [] → (s ≡ fresh_rec) × (w ≡ fresh_blocks)
  pub dated : Each (Dated (axis_in ls)) ls
