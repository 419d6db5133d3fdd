use Prim.Native.Nat.{◌+◌, ◌*◌}
use Rattle.history.specs.Cases.{case_view}
use Rattle.curve.specs.Files.{file_view}
use Rattle.curve.specs.YearPlaces.{places_in}
use Rattle.curve.proofs.Walking.{Walked, days_left}
use Rattle.curve.proofs.places.year_places.Given as goal

abbrev pub invariant-loop-j : goal.invariant-loop-j
invariant-loop-j l =
    Walked (20 * l.j) (440 * l.target.k) (places_in l.site_file.site.now (file_view l.site_file.file.now l.site_file.cas.now) (case_view l.target.case) l.target.rate l.target.k) (days_left l.site_file.site.now (file_view l.site_file.file.now l.site_file.cas.now) (case_view l.target.case) l.target.rate l.target.k l.j) l.initial.curve l.curve (440 * l.target.k + 20 * l.j) l.t
