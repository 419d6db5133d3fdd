use mathlib.Core.Path.{◌≡◌, sym, subst}
use mathlib.Core.List.{List}
use Prim.Native.Nat.{ℕ, ◌+◌}
use native.Mathlib.Nat.{add-zero}
use native.Mathlib.Omega.{arith}
use lib.ListN.{set}
use Rattle.meaning.specs.Points.{CurvePlace}
use Rattle.history.specs.Cases.{case_view}
use Rattle.points.specs.Sources.{source_in}
use Rattle.points.specs.Days.{day_view}
use Rattle.curve.specs.PlaceSums.{nothing, after_rate, entry_of_point, sum_of_point}
use Rattle.curve.specs.YearPlaces.{places_on}
use Rattle.curve.specs.PlaceSumFits.{PlaceSumFits}
use Rattle.curve.specs.PlaceFits.{Entered}
use Rattle.curve.proofs.PlaceSums.{one_fits}
use Rattle.curve.proofs.Walking.{Walked, not_begun, walk_on, walk_over, one_entered, hours_left, hours_all, hours_on, hours_over}
use Rattle.curve.proofs.places.half_hours.Goals as goal

pub loop-h-init : goal.loop-h-init
loop-h-init c =
    let a = c.args in
    let b = a.day.now.site.now in
    let d = day_view a.day.now in
    let w = a.day.now.w in
    let x = case_view a.target.case in
    let all = places_on b d x a.target.rate a.target.k w in
    subst (λ (qs : List CurvePlace). Walked 0 a.at all qs a.curve.now a.curve.now (a.at + 0) nothing) (sym (hours_all b d x a.target.rate a.target.k w))
    (not_begun a.at all a.curve.now (a.at + 0) (add-zero a.at))

pub plus-t-requires : goal.plus-t-requires
plus-t-requires c =
    let f = c.loop-h.invariant.fits in
    let p = c.point_of in
    let g : PlaceSumFits 1 c.of.result = rw (c.of.ensures, c.after_rate-point.ensures) (one_fits c.args.target.rate p.result c.requires.rate_fits p.ensures.fits) in
    (omega (arith, f.sum, g.sum, f.counted, g.counted, c.loop-h-test.true), omega (arith, f.counted, g.counted, c.loop-h-test.true))

pub loop-h-preserved : goal.loop-h-preserved
loop-h-preserved c =
    let a = c.args in
    let b = a.day.now.site.now in
    let d = day_view a.day.now in
    let w = a.day.now.w in
    let x = case_view a.target.case in
    let all = places_on b d x a.target.rate a.target.k w in
    let h = c.loop-h.h in
    let p = c.point_of in
    let r = after_rate a.target.rate p.result in
    let one = one_entered a.target.rate (source_in b d x a.target.k w h) p.result (a.at + h) c.loop-h.curve p.ensures c.requires.rate_fits in
    let here = subst (λ (qs : List CurvePlace). Walked h a.at all qs a.curve.now c.loop-h.curve (a.at + h) c.loop-h.t) (hours_on b d x a.target.rate a.target.k w h c.loop-h-test.true) c.loop-h.invariant in
    rw (c.plus-t.ensures, c.of.ensures, c.entry_of.ensures, c.after_rate-point.ensures)
    (walk_on h a.at 1 all _ (hours_left b d x a.target.rate a.target.k w (h + 1)) a.curve.now c.loop-h.curve (set c.loop-h.curve (a.at + h) (entry_of_point r)) (a.at + h) (a.at + (h + 1)) c.loop-h.t (sum_of_point r) here one (omega arith))

pub returns : goal.returns
returns c =
    let a = c.args in
    let b = a.day.now.site.now in
    let d = day_view a.day.now in
    let w = a.day.now.w in
    let x = case_view a.target.case in
    let all = places_on b d x a.target.rate a.target.k w in
    let h = c.loop-h.h in
    let g : h ≡ 20 = omega (arith, c.loop-h-test.false) in
    subst (λ (n : ℕ). Entered n a.at all a.curve.now c.loop-h.curve c.loop-h.t) g
    (walk_over h a.at all a.curve.now c.loop-h.curve (a.at + h) c.loop-h.t
    (subst (λ (qs : List CurvePlace). Walked h a.at all qs a.curve.now c.loop-h.curve (a.at + h) c.loop-h.t) (hours_over b d x a.target.rate a.target.k w h c.loop-h-test.false) c.loop-h.invariant))
