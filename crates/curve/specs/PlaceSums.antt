-- The places of a curve: their entries, sum and number (document 01, Cases; 18).
use Rattle.std.specs.Prelude.{Bool, true, false, cond, List, map, ℕ, ◌+◌, length, Some, None, Result, Ok, Err}
use Rattle.std.specs.Result.{result_and}
use Rattle.std.proofs.Math.Option.{Option, none}
use Rattle.lists.specs.Lists.{any, present, sum}
use Rattle.meaning.specs.Points.{CurvePlace, Source, source_exceeds, point_at, with_rate}
use Rattle.meaning.specs.Level.{missing_entry, entry_of}
use Rattle.meaning.specs.Record.{rate_of_code}
use Rattle.rounding.specs.Units.{in_mw}
use Rattle.rounding.specs.declared.Power.{Power}
use Rattle.rounding.specs.declared.Exceeds.{Exceeds}
use Rattle.points.specs.PlacePoints.{PlacePoint}
use Rattle.curve.specs.declared.place_sums.PlaceSum.{PlaceSum}

abbrev pub place_sum : Result (Unit {0}) Exceeds → Power → ℕ → PlaceSum
place_sum l s n = record { limit = l; sum = s; counted = n }

-- within the limit, or not: 18 as the code has it
unfoldable pub limit_where : Bool → Result (Unit {0}) Exceeds
limit_where true = Err (record {})
limit_where false = Ok tt

-- a place, from its year's rate, 0 for none
abbrev pub place : ℕ → Source → CurvePlace
place rate s = record { rate = rate_of_code rate; source = s }

-- the point after its rate; none where 18 holds
unfoldable pub point_in : CurvePlace → Option ℕ
point_in q = cond (source_exceeds q.source) none (point_at q)

unfoldable pub exceeds_in : CurvePlace → Bool
exceeds_in q = source_exceeds q.source

unfoldable pub place_sum_of : List CurvePlace → PlaceSum
place_sum_of qs = place_sum (limit_where (any exceeds_in qs)) (in_mw (sum (present (map point_in qs)))) (length (present (map point_in qs)))

unfoldable pub entry_in : CurvePlace → ℕ
entry_in q = entry_of (point_in q)

unfoldable pub entries_of : List CurvePlace → List ℕ
entries_of qs = map entry_in qs

-- no place
abbrev pub nothing : PlaceSum
nothing = place_sum (Ok tt) (in_mw 0) 0

-- two sums added
unfoldable pub plus : PlaceSum → PlaceSum → PlaceSum
plus a b = place_sum (result_and a.limit b.limit) (in_mw (a.sum.0 + b.sum.0)) (a.counted + b.counted)

-- ---- the point of a place
-- after its year's rate, 0 for none
unfoldable pub after_rate : ℕ → PlacePoint → PlacePoint
after_rate rate (Ok None) = Ok None
after_rate rate (Err e) = Err e
after_rate rate (Ok (Some p)) = Ok (Some (in_mw (with_rate (rate_of_code rate) p.0)))

-- its entry in the curve
unfoldable pub entry_of_point : PlacePoint → ℕ
entry_of_point (Ok None) = missing_entry
entry_of_point (Err e) = missing_entry
entry_of_point (Ok (Some p)) = p.0

-- what it adds to the sums: it is counted where it is present
unfoldable pub sum_of_point : PlacePoint → PlaceSum
sum_of_point (Ok None) = nothing
sum_of_point (Err e) = place_sum (Err e) (in_mw 0) 0
sum_of_point (Ok (Some p)) = place_sum (Ok tt) p 1
