-- The point of a place, for each way to compute it.
use mathlib.Core.Path.{◌≡◌, refl}
use mathlib.Core.Bool.{Bool, true, false}
use mathlib.Core.Option.{some}
use Rattle.std.specs.Prelude.{Result, Ok, Err, Some, None}
use Prim.Native.Nat.{ℕ, ◌+◌, ◌*◌, ◌≤◌}
use native.Mathlib.Nat.{div-zero}
use native.Mathlib.Omega.{arith}
use lib.Dec.{T, ltb, leb→le}
use borrow.Author.Tests.{ltb-false, ne_eqb, eq-eqb}
use Rattle.rounding.specs.Rounding.{half_up}
use Rattle.rounding.specs.Points.{over, rounded, profiled, exceeds, most_point}
use Rattle.rounding.specs.Units.{in_mw}
use Rattle.rounding.specs.Answers.{limit_view, limited, limited_point}
use Rattle.rounding.specs.declared.Power.{Power}
use Rattle.rounding.specs.declared.Exceeds.{Exceeds}
use Rattle.rounding.proofs.Laws.{half_up_only}
use Rattle.meaning.specs.Points.{Source, own, by_profile, own_of, read_by, rounded_point, source_exceeds, origin_exceeds, rounded_origin, fraction_of}
use Rattle.meaning.specs.Blocks.{missing_point, point_of_code}
use Rattle.points.specs.PlacePoints.{PlacePoint, point_repr, limited_place}
use Rattle.points.specs.OwnFits.{is_point, PlacePointFits, PlacePointIs}

-- ---- a rounded number of mW
-- a rounded point as the point of a place
abbrev pub some_point : Result Power Exceeds → PlacePoint
some_point (Ok p) = Ok (Some p)
some_point (Err e) = Err e

pub some_limited : (q : Result Power Exceeds) (n : ℕ) → limit_view q ≡ limited_point n → limit_view (some_point q) ≡ limited_place n
unfolding limit_view limited limited_point limited_place
some_limited q n e = go (exceeds n) q e
  where
    go : (b : Bool) (q : Result Power Exceeds) → limit_view q ≡ limited b (in_mw n) → limit_view (some_point q) ≡ limited b (Some (in_mw n))
    go true (Ok p) e = cc
    go true (Err x) e = cc
    go false (Ok p) e = cc
    go false (Err x) e = cc

-- it is at most the limit
pub limited_fits : (r : PlacePoint) (n : ℕ) → limit_view r ≡ limited_place n → PlacePointFits r
unfolding limit_view limited limited_place exceeds
limited_fits r n e = go (ltb most_point n) refl r e
  where
    go : (b : Bool) → ltb most_point n ≡ b → (r : PlacePoint) → limit_view r ≡ limited b (Some (in_mw n)) → PlacePointFits r
    go b t (Err x) e = tt
    go b t (Ok None) e = tt
    go true t (Ok (Some p)) e = cc
    go false t (Ok (Some p)) e = let v : p ≡ in_mw n = cc in rw v (ltb-false most_point n t)

-- a source with this number and no other
pub place_filled : (s : Source) (n : ℕ) (q : Result Power Exceeds) (r : PlacePoint) → source_exceeds s ≡ exceeds n → rounded_point s ≡ some n
    → limit_view q ≡ limited_point n → r ≡ some_point q → PlacePointIs s r
unfolding point_repr limited_place
place_filled s n q r e p l h =
    let i = some_limited q n l in
    rw h (record { is = rw (e, p) i; fits = limited_fits (some_point q) n i })

-- ---- an interval without daily sums: a division by 0 gives 0
no_total : (e p : ℕ) → rounded (profiled e p 0) ≡ 0
unfolding rounded profiled half_up
no_total e p = div-zero (2 * (2000 * e * p) + 0)

pub empty_filled : (e p t : ℕ) → t ≡ 0 → PlacePointIs (own (by_profile e p t)) (Ok (Some (in_mw 0)))
unfolding limit_view limited point_repr source_exceeds origin_exceeds rounded_point rounded_origin fraction_of exceeds
empty_filled e p t h = record { is = rw (h, no_total e p); fits = omega arith }

-- ---- a point as read
read_mw : (v : ℕ) → rounded (over (1000 * v) 1) ≡ 1000 * v
unfolding rounded
read_mw v = half_up_only (1000 * v) 1 (1000 * v) (omega arith) (omega arith)

pub point_most : (v : ℕ) → T (is_point v) → (v ≡ missing_point → ⊥) → v ≤ 100000000
unfolding is_point
point_most v t h = leb→le v 100000000 (rw (ne_eqb v missing_point h) at t)

pub missing_filled : (v : ℕ) → v ≡ missing_point → PlacePointIs (own_of (read_by (point_of_code v))) (Ok None)
unfolding limit_view limited point_repr own_of read_by point_of_code source_exceeds rounded_point
missing_filled v h = record { is = rw (eq-eqb v missing_point h); fits = tt }

pub read_filled : (v : ℕ) → T (is_point v) → (v ≡ missing_point → ⊥) → PlacePointIs (own_of (read_by (point_of_code v))) (Ok (Some (in_mw (1000 * v))))
unfolding limit_view limited point_repr own_of read_by point_of_code source_exceeds origin_exceeds rounded_point rounded_origin fraction_of
read_filled v t h =
    record {
      is = rw (ne_eqb v missing_point h, read_mw v);
      fits = omega (arith, point_most v t h);
    }
