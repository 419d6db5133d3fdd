-- The laws of the calendar that other crates cite, by subject.
pub mod Months
pub mod Days
pub mod Winter
pub mod Positions
pub mod Answers
pub mod Examples
-- months: their lengths and where they begin
pub use Months.{no_month, longest_31, before_past, month_over}
-- leap years, dates and days, and the places of days
pub use Days.{leap_words, date_words, DayParts, day_parts, DayHasPlace, day_place, PlaceHasDay, place_day, days_in_longest, date_day, date_at_place}
-- the places at which a year has a date, and how many they are
pub use Days.{has_date_rule, has_date_leap, has_date_other, has_date_cases, no_date_past, dates_in_year}
-- an earlier day has a lower place
pub use Days.{earlier_place}
-- the same of winter
pub use Winter.{winter_words, WinterDayHasPlace, winter_day_place, WinterPlaceHasDay, winter_place_day}
pub use Winter.{has_winter_date_rule, has_winter_date_leap, has_winter_date_other, has_winter_date_cases, no_winter_date_past, winter_dates_in_year}
pub use Winter.{winter_parts, winter_rises, earlier_winter_place}
-- history and axis years
pub use Positions.{among_words, axis_among, length_5_10, Known, known_parts, has_history, no_history, known_history}
pub use Positions.{HistoryBounds, history_bounds, history_short, history_year_lem, known_axis, no_axis, AxisBounds, axis_bounds, AxisRange, axis_range}
-- positions on the axis
pub use Positions.{PositionParts, position_parts, position_back, year_among, earlier_position}
-- what an answer says
pub use Answers.{date_place_at, date_place_nowhere, winter_place_at, winter_place_nowhere, winter_date_at, winter_date_nowhere}
pub use Answers.{day_of_lem, day_nowhere, winter_day_of, winter_day_nowhere}
pub use Answers.{position_at_lem, position_nowhere, DateOn, date_on, date_nowhere, place_below}
-- worked examples
pub use Examples.{leap_years, month_days, date_places, winter_places, wind_2025, river_2021, position_2007}
