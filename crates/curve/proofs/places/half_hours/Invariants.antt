use Prim.Native.Nat.{◌+◌}
use Rattle.history.specs.Cases.{case_view}
use Rattle.points.specs.Days.{day_view}
use Rattle.curve.specs.YearPlaces.{places_on}
use Rattle.curve.proofs.Walking.{Walked, hours_left}
use Rattle.curve.proofs.places.half_hours.Given as goal

abbrev pub invariant-loop-h : goal.invariant-loop-h
invariant-loop-h l =
    Walked l.h l.at (places_on l.day.site.now (day_view l.day) (case_view l.target.case) l.target.rate l.target.k l.day.w) (hours_left l.day.site.now (day_view l.day) (case_view l.target.case) l.target.rate l.target.k l.day.w l.h) l.initial.curve l.curve (l.at + l.h) l.t
