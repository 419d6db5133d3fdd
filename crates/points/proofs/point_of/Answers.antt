use mathlib.Core.Path.{◌≡◌, subst}
use mathlib.Core.Logic.{◌⊎◌, ⊎_elim}
use Prim.Native.Nat.{ℕ, ◌+◌}
use lib.ListN.{get_or}
use Rattle.std.proofs.Common.{rules}
use Rattle.meaning.specs.Points.{Source, own, rebuilt_by}
use Rattle.meaning.specs.Blocks.{slot_at}
use Rattle.history.specs.declared.cases.Case.{Case}
use Rattle.history.specs.declared.cases.Case.TheVariants.{T1, T3, T4, P, I5, I6}
use Rattle.points.specs.declared.own.SiteFactors.{SiteFactors}
use Rattle.history.specs.Cases.{case_view}
use Rattle.points.specs.OwnPoints.{code_in, read_in, profiled_on}
use Rattle.points.specs.DonorOrigins.{curve_origin, index_origin}
use Rattle.points.specs.Sources.{Day, curve_donors_in, index_donors_in, default_in, source_in}
use Rattle.points.specs.Days.{day_view}
use Rattle.points.specs.OwnFits.{PlacePointIs}
use Rattle.points.proofs.point_of.Goals as goal

-- ---- the cases with the same kind of source
profiled-source : (b : SiteFactors) (d : Day) (x : Case) (k w h : ℕ) → (x ≡ T1) ⊎ (x ≡ P)
    → own (profiled_on d.slots d.years k w h) ≡ source_in b d (case_view x) k w h
unfolding source_in
profiled-source b d x k w h e = ⊎_elim (λ q. rw q) (λ q. rw q) e

index-source : (b : SiteFactors) (d : Day) (x : Case) (k w h : ℕ) → (x ≡ T3) ⊎ (x ≡ I5)
    → rebuilt_by (get_or d.cas k 0) (index_donors_in b d w h) ≡ source_in b d (case_view x) k w h
unfolding source_in
index-source b d x k w h e = ⊎_elim (λ q. rw q) (λ q. rw q) e

default_source : (b : SiteFactors) (d : Day) (x : Case) (k w h : ℕ) → (x ≡ T4) ⊎ (x ≡ I6)
    → default_in b d k w h ≡ source_in b d (case_view x) k w h
unfolding source_in
default_source b d x k w h e = ⊎_elim (λ q. rw q) (λ q. rw q) e

pub measured-requires : goal.measured-requires
unfolding code_in
measured-requires c = rw c.code.ensures (c.args.day.now.fits.points (c.args.day.now.site.now.first + c.args.target.k) (slot_at c.args.day.now.w c.args.h))

pub returns-in-M : goal.returns-in-M
unfolding source_in read_in
returns-in-M c = rw c.in-M.is (rw c.code.ensures at c.measured.ensures)

pub returns-in-T1 : goal.returns-in-T1
returns-in-T1 c =
    let a = c.args in
    subst (λ (x : Source). PlacePointIs x c.profiled.result)
    (profiled-source a.day.now.site.now (day_view a.day.now) a.target.case a.target.k a.day.now.w a.h c.in-T1.is)
    c.profiled.ensures

pub returns-in-T2 : goal.returns-in-T2
unfolding source_in curve_donors_in
returns-in-T2 c =
    let s = c.args.day.now.site.now in
    let d = day_view c.args.day.now in
    rw c.in-T2.is (c.rebuilt_point.ensures (curve_origin s.al s.first d.near d.far d.curves c.args.day.now.w c.args.h) (λ k r l p. search rules))

pub returns-in-T3 : goal.returns-in-T3
unfolding index_donors_in
returns-in-T3 c =
    let a = c.args in
    let d = a.day.now in
    subst (λ (x : Source). PlacePointIs x c.rebuilt_point-in-T3.result)
    (index-source a.day.now.site.now (day_view d) a.target.case a.target.k d.w a.h c.in-T3.is)
    (c.rebuilt_point-in-T3.ensures (index_origin (day_view d).slots (day_view d).years d.w a.h) (λ k r l p. search rules))

pub returns-in-T4 : goal.returns-in-T4
unfolding default_in
returns-in-T4 c =
    let a = c.args in
    subst (λ (x : Source). PlacePointIs x c.by_default.result)
    (default_source a.day.now.site.now (day_view a.day.now) a.target.case a.target.k a.day.now.w a.h c.in-T4.is)
    (rw c.profile.ensures.is at c.by_default.ensures)
