use mathlib.Core.Path.{◌≡◌, ap, ◌∙◌}
use mathlib.Core.List.{List, map}
use native.Mathlib.Omega.{arith}
use Prim.Native.Nat.{ℕ, ◌*◌, ◌<◌}
use lib.ListN.{length, get_or}
use Rattle.std.proofs.Common.{rules, tests}
use Rattle.std.specs.List.{sum as library_sum}
use Rattle.std.proofs.lemmas.Iterator.{YieldsList-from_slice, YieldsList-from_map}
use Rattle.std.proofs.lemmas.Iterator.Adapters.{serves_from_places}
use Rattle.std.proofs.lemmas.Iterator.Consumers.{sum_from_yields_List, fits_from_yields_list}
use Rattle.lists.proofs.Chains.{sum_listed}
use Rattle.lists.proofs.Ranges.{get_d_any}
use Rattle.note.specs.Peaks.{peak_count, peak_days}
use Rattle.note.proofs.PeakDays.{days_length, most_days, in_winter}
use Rattle.validity.specs.Availability.{present_on_day, present_in_row, availability_of}
use Rattle.meaning.specs.Validity.{expected_points}
use Rattle.validity.proofs.Parts.{year_most}
use Rattle.validity.proofs.curves.availability.Goals as goal

over_days : (row : List ℕ) (y : ℕ) → library_sum (map (present_on_day row) (peak_days y)) ≡ present_in_row row y
unfolding present_in_row
over_days row y = sum_listed (map (present_on_day row) (peak_days y))

day_in : (y k w : ℕ) → k < length (peak_days y) → w ≡ get_or (peak_days y) k w → w < 152
day_in y k w h e = omega (arith, e, get_d_any (peak_days y) k w 0 h, days_length y, in_winter y k (omega (arith, days_length y)))

pub sum-requires-clause-can : goal.sum-requires-clause-can
sum-requires-clause-can c =
    let y = c.args.year in
    (tt, serves_from_places (YieldsList-from_slice (peak_days y) (cc)) (λ x q k. search (rules, tests)) (λ x k h e. let w = day_in y k x.now h e in search (rules, tests)))

pub sum-requires-clause-fits : goal.sum-requires-clause-fits
sum-requires-clause-fits c =
    let row = c.args.row.now in let y = c.args.year in
    fits_from_yields_list _ _ (YieldsList-from_map _ (present_on_day row) (YieldsList-from_slice (peak_days y) (cc)) c.map.ensures.closure (λ x r q k. search (rules, tests)))
    (omega (arith, over_days row y, year_most row y))

pub overflow_mul-result : goal.overflow_mul-result
overflow_mul-result c = omega (arith, most_days c.args.year, days_length c.args.year, ap length c.peak_days-days.ensures)

pub returns : goal.returns
unfolding availability_of expected_points
returns c =
    let row = c.args.row.now in let y = c.args.year in
    let p : c.sum.result ≡ present_in_row row y =
    sum_from_yields_List _ _ c.sum.ensures.ran (YieldsList-from_map _ (present_on_day row) (YieldsList-from_slice (peak_days y) (cc)) c.map.ensures.closure (λ x r q k. search (rules, tests))) ∙ over_days row y in
    let q : 20 * length c.peak_days-days.result.now ≡ 20 * peak_count y = omega (arith, days_length y, ap length c.peak_days-days.ensures) in
    λ i. record { present = p i; expected = q i }
