-- The refusals 14 to 18 of a close, over a filing alone, and its sheet (document 01, Stops that come from the state).
use Rattle.std.specs.Prelude.{Bool, ◌&&◌, ◌||◌, not, List, [], ◌∷◌, ℕ, eqb}
use Rattle.std.proofs.Math.Option.{Option}
use Rattle.lists.specs.Lists.{any, first_of}
use Rattle.calendar.specs.Dates.{all_winter_dates, all_dates}
use Rattle.meaning.specs.Filing.{Filing, history_list, axis_of, years_in}
use Rattle.meaning.specs.Validity.{Interval, intervals, overlaps_winter, touches, total_of, index_valid}
use Rattle.meaning.specs.Cases.{case_of, is_default}
use Rattle.meaning.specs.Points.{CurvePlace, source_exceeds, all_places}

pub data CloseReason : Type 0 where
  no_end partial no_data zero_total too_high : CloseReason

unfoldable pub close_number : CloseReason → ℕ
close_number no_end = 14
close_number partial = 15
close_number no_data = 16
close_number zero_total = 17
close_number too_high = 18

-- ---- 15: some but not all of its dates
unfoldable pub is_partial : ℕ → ℕ → Bool
is_partial n full = not (eqb n 0) && not (eqb n full)

-- ---- 16 and 17: the intervals that a valid index year is profiled from
unfoldable pub some_winter_interval : Filing → (Interval → Bool) → Bool
some_winter_interval F p = any (λ y. index_valid F y && any (λ v. overlaps_winter F y v && p v) (intervals F)) (history_list F)

unfoldable pub lacks_profile : Filing → ℕ → Bool
lacks_profile F y = (index_valid F y || is_default (case_of F y)) && eqb (F.profile_dates y) 0

unfoldable pub lacks_daily : Filing → Interval → Bool
lacks_daily F v = any (λ z. eqb (F.daily_dates z) 0 && touches F z v) (years_in (axis_of F))

unfoldable pub close_holds : CloseReason → Filing → Bool
close_holds no_end F = not F.ended
close_holds partial F =
    any (λ y. is_partial (F.profile_dates y) (all_winter_dates y)) (history_list F)
    || any (λ z. is_partial (F.daily_dates z) (all_dates z)) (years_in (axis_of F))
close_holds no_data F = any (lacks_profile F) (history_list F) || some_winter_interval F (lacks_daily F)
close_holds zero_total F = some_winter_interval F (λ v. eqb (total_of F v) 0)
close_holds too_high F = any (λ (q : CurvePlace). source_exceeds q.source) (all_places F)

unfoldable pub close_order : List CloseReason
close_order = no_end ∷ partial ∷ no_data ∷ zero_total ∷ too_high ∷ []

unfoldable pub closing_refusal : Filing → Option CloseReason
closing_refusal F = first_of (λ k. close_holds k F) close_order
