-- The examples p1 to p9 and K1's level, computed together.
use mathlib.Core.Path.{◌≡◌, refl}
use Rattle.lists.specs.Lists.{Each, each_nil, each_cons, any, all, keep, first_of, flat, tab, range, present, sum, count, neighbours}
use Rattle.calendar.specs.Dates.{leap, month_lengths, longest, days_in, is_date, is_winter}
use Rattle.calendar.specs.Places.{before, month_of, day_of, has_date, has_winter_date, date_of_winter}
use Rattle.calendar.specs.Spans.{history_length, is_known, history_years, axis_years, year_at, place_at}
use Rattle.note.specs.Peaks.{annex1, day_counts, has_peaks, peak_count, peak_start, peak_days}
use Rattle.note.specs.Coefficients.{columns, column_of, ca_table, ca_in, ca_of, thetas, theta, coefficients, coefficient_c}
use Rattle.rounding.specs.Rounding.{half_up}
use Rattle.rounding.specs.Points.{rounded, profiled, rebuilt, by_default, rated, level}
use Rattle.meaning.specs.Filing.{history_of, axis_of, years_in, history_list, year_of, daily_at}
use Rattle.meaning.specs.Validity.{expected_points, present_points, enough, curve_valid, intervals, days_of, has_day, energy_of, total_between, total_of, is_winter_day, overlaps_winter, winter_days, is_covered, is_sound, index_valid}
use Rattle.meaning.specs.Cases.{curve_case, index_case, case_by, mark_of, marks_of, case_of}
use Rattle.meaning.specs.Points.{fraction_of, position_at, interval_at, profiled_in, profiled_at, read_by, read_at, donor_of, curve_donor, curve_donors, rebuilt_by, history_cas, default_at, source_by, source_at, rounded_origin, donor_cas, donor_points, rounded_point, with_rate}
use Rattle.meaning.specs.Restated.Examples.{plain, wind, solar, sixteen, one_less, only2020, year_of_energy, unread, validity, power, Row, examples}

pub examples_hold : Each (λ (r : Row). r.got ≡ r.says) examples
unfolding any all keep first_of flat tab range present sum count neighbours leap month_lengths longest days_in is_date is_winter before month_of day_of has_date has_winter_date date_of_winter history_length is_known history_years axis_years year_at place_at annex1 day_counts has_peaks peak_count peak_start peak_days columns column_of ca_table ca_in ca_of thetas theta coefficients coefficient_c half_up rounded profiled rebuilt by_default rated level history_of axis_of years_in history_list year_of daily_at expected_points present_points enough curve_valid intervals days_of has_day energy_of total_between total_of is_winter_day overlaps_winter winter_days is_covered is_sound index_valid curve_case index_case case_by mark_of marks_of case_of fraction_of position_at interval_at profiled_in profiled_at read_by read_at donor_of curve_donor curve_donors rebuilt_by history_cas default_at source_by source_at rounded_origin donor_cas donor_points rounded_point with_rate plain wind solar sixteen one_less only2020 year_of_energy unread validity power examples
examples_hold = each_cons refl (each_cons refl (each_cons refl (each_cons refl (each_cons refl (each_cons refl (each_cons refl (each_cons refl (each_cons refl (each_cons refl (each_cons refl each_nil))))))))))
