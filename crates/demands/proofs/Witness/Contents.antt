-- What the lines of the witness say: no reading, break, rate, P or D line; the points of nine days.
use mathlib.Core.Path.{◌≡◌, refl}
use mathlib.Core.Bool.{Bool, false, not, ◌&&◌}
use mathlib.Core.List.{[]}
use mathlib.Core.Option.{none}
use Prim.Native.Nat.{ℕ}
use lib.Dec.{T}
use Rattle.lists.specs.Lists.{any, keep, seek, count, present, flat, sum, tab, range}
use Rattle.calendar.specs.Dates.{longest, month_lengths, is_winter}
use Rattle.calendar.specs.Places.{winter_before, winter_place}
use Rattle.note.specs.Peaks.{annex1, day_counts, has_peaks, peak_count, peak_start, peak_days}
use Rattle.text.specs.Fields.{up_to, past, rest_at, field_at}
use Rattle.text.specs.Numbers.{value_from, value_of, is_dash}
use Rattle.meaning.specs.Filing.{site, curve_meter}
use Rattle.meaning.specs.Line.{P, D, tag_of_letter, tag_of_field, tag_of, meter_of_letter, meter_of, number_at, site_on, point_of, winter_on}
use Rattle.meaning.specs.File.{site_in, point_on, point_in, reading_on, readings_in, broken_in, rate_in, dates_in, ended_in, filing_in}
use Rattle.meaning.specs.Validity.{expected_points, present_points, enough, curve_valid}
use Rattle.demands.specs.Witness.{site_line, curve_line, end_line, witness_lines}

pub its_site : site_in witness_lines ≡ site 2024 2 curve_meter 1000
unfolding witness_lines site_line curve_line end_line flat site_in seek tag_of tag_of_field tag_of_letter up_to past site_on number_at field_at rest_at value_of value_from meter_of meter_of_letter
its_site = refl

pub its_readings : readings_in witness_lines ≡ []
unfolding witness_lines site_line curve_line end_line flat readings_in reading_on present tag_of tag_of_field tag_of_letter up_to
its_readings = refl

pub its_breaks : (y : ℕ) → broken_in witness_lines y ≡ false
unfolding witness_lines site_line curve_line end_line flat broken_in any tag_of tag_of_field tag_of_letter up_to
its_breaks y = refl

pub its_rates : (y : ℕ) → rate_in witness_lines y ≡ none
unfolding witness_lines site_line curve_line end_line flat rate_in seek tag_of tag_of_field tag_of_letter up_to
its_rates y = refl

pub its_profiles : (y : ℕ) → dates_in P witness_lines y ≡ 0
unfolding witness_lines site_line curve_line end_line flat dates_in count tag_of tag_of_field tag_of_letter up_to
its_profiles y = refl

pub its_sums : (y : ℕ) → dates_in D witness_lines y ≡ 0
unfolding witness_lines site_line curve_line end_line flat dates_in count tag_of tag_of_field tag_of_letter up_to
its_sums y = refl

pub its_end : T (ended_in witness_lines)
unfolding witness_lines site_line curve_line end_line flat ended_in any tag_of tag_of_field tag_of_letter up_to
its_end = tt

pub its_points : present_points (filing_in witness_lines) 2019 ≡ 180
unfolding witness_lines site_line curve_line end_line flat present_points filing_in point_in point_on seek tag_of tag_of_field tag_of_letter up_to past number_at field_at rest_at value_of value_from is_dash point_of winter_on winter_place winter_before keep count sum range tab longest month_lengths is_winter annex1 day_counts has_peaks peak_count peak_start peak_days
its_points = refl

-- 180 of 220 points, no break
enough_points : (b : Bool) (n : ℕ) → b ≡ false → n ≡ 180 → T (not b && enough n (expected_points 2019))
unfolding enough expected_points peak_count has_peaks day_counts
enough_points b n e f = rw (e, f) tt

pub its_curve : T (curve_valid (filing_in witness_lines) 2019)
unfolding curve_valid filing_in
its_curve = enough_points (broken_in witness_lines 2019) (present_points (filing_in witness_lines) 2019) (its_breaks 2019) its_points
