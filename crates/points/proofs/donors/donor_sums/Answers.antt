use mathlib.Core.Path.{◌≡◌, refl}
use native.Mathlib.Omega.{arith}
use lib.ListN.{get_or}
use Rattle.std.specs.Prelude.{Result, Ok, Err}
use Rattle.std.specs.Result.{IsErr}
use Rattle.rounding.specs.declared.Exceeds.{Exceeds}
use Rattle.points.specs.declared.donors.DonorSums.{DonorSums}
use Rattle.points.proofs.Gathered.{none_yet, gather_on, gather_high, gathered, fit_on, fit_more}
use Rattle.points.proofs.donors.donor_sums.Goals as goal

-- there is one error
err_is : (r : Result DonorSums Exceeds) → IsErr r → r ≡ Err (record {})
err_is (Ok d) h = cc
err_is (Err e) h = refl

pub loop-k-init : goal.loop-k-init
loop-k-init g c = record { fit = record { points = omega arith; cas = omega arith }; are = λ given h. none_yet c.args.n c.args.cas.now given }

pub returns-in_err-donor : goal.returns-in_err-donor
returns-in_err-donor g c =
    let k = c.loop-k.k in
    let e = err_is c.from_residual.result c.from_residual.ensures.0 in
    record {
      fit = rw e tt;
      are = λ given h. rw e (gather_high c.args.n c.args.cas.now given k c.loop-k.sums (record {}) c.loop-k-test.true (h k (Err (record {})) c.loop-k-test.true c.in_err-donor.ensures) (c.loop-k.invariant.are given h));
    }

pub loop-k-preserved : goal.loop-k-preserved
loop-k-preserved g c =
    let k = c.loop-k.k in
    let t = c.loop-k-test.true in
    let p = c.in_ok-donor.field-0 in
    let ca = get_or c.args.cas.now k 0 in
    record {
      fit = rw c.with_donor-sums.ensures (fit_on k c.loop-k.sums ca p c.loop-k.invariant.fit (c.requires.bounds.1 k) (c.requires.fits k (Ok p) t c.in_ok-donor.ensures));
      are = λ given h. rw c.with_donor-sums.ensures (gather_on c.args.n c.args.cas.now given k c.loop-k.sums p t (h k (Ok p) t c.in_ok-donor.ensures) (c.loop-k.invariant.are given h));
    }

pub returns : goal.returns
returns g c = record {
  are = λ given h. gathered c.args.n c.args.cas.now given c.loop-k.k c.loop-k.sums (omega arith) (c.loop-k.invariant.are given h);
  fit = fit_more c.loop-k.k c.args.n c.loop-k.sums (omega arith) c.loop-k.invariant.fit;
}
