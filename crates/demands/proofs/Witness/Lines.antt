-- Each line of the witness is accepted.
use mathlib.Core.Path.{refl}
use mathlib.Core.List.{[]}
use Rattle.lists.specs.Lists.{any, all, seek, latest, count, first_of, flat, sum}
use Rattle.calendar.specs.Dates.{leap, month_lengths, longest, days_in, is_date, is_winter}
use Rattle.calendar.specs.Places.{before, date_place}
use Rattle.calendar.specs.Spans.{among, history_length, is_known, history_years}
use Rattle.text.specs.Fields.{up_to, past, tabs, rest_at, field_at, reads, edition, is_invalid}
use Rattle.text.specs.Numbers.{is_digit, is_number, value_from, value_of, is_dash}
use Rattle.meaning.specs.Line.{tag_of_letter, tag_of_field, tag_of, forms_of, meter_of_letter, meter_of, in_form, in_range, some_field, number_at, site_on, date_key, key_of, is_rising}
use Rattle.meaning.specs.Refusals.{is_too_soon, is_illegible, is_unknown, is_malformed, is_outside, has_no_date, holds, order, refusal}
use Rattle.meaning.specs.File.{site_in, history_in, rules_out, misplaced_in, not_later_in, last_index_in, before_in, refusal_at}
use Rattle.demands.specs.Witness.{site_line, curve_line, end_line, witness_lines}
use Rattle.demands.proofs.Witness.Taken.{Taken, after, ended}

pub taken : Taken [] witness_lines
unfolding witness_lines site_line curve_line end_line flat refusal_at before_in misplaced_in rules_out history_in not_later_in last_index_in site_in seek latest count any all refusal order first_of holds is_illegible is_invalid is_unknown tabs tag_of tag_of_field tag_of_letter up_to past is_malformed some_field forms_of in_form reads edition meter_of meter_of_letter is_number is_digit is_dash is_outside in_range value_of value_from has_no_date is_rising is_too_soon site_on number_at field_at rest_at key_of date_key date_place before sum month_lengths longest days_in leap is_date is_winter among history_years history_length is_known
taken = after refl (after refl (after refl (after refl (after refl (after refl (after refl (after refl (after refl (after refl (after refl ended))))))))))
