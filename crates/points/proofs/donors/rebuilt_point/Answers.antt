use lib.ListN.{get_or}
use Rattle.std.proofs.Common.{rules}
use Rattle.std.specs.Prelude.{Ok, Err}
use Rattle.rounding.specs.Answers.{limit_view}
use Rattle.points.proofs.Gathered.{fit_more, rebuilt_filled, rebuilt_of}
use Rattle.points.proofs.donors.rebuilt_point.Goals as goal

pub rebuilt-requires : goal.rebuilt-requires
rebuilt-requires g c =
    (c.requires.bounds.2.most c.args.k, fit_more c.args.n 10 _ c.requires.bounds.1 c.in_ok-donor_sums.ensures.fit)

pub returns-in_err-donor_sums : goal.returns-in_err-donor_sums
unfolding rebuilt_of limit_view
returns-in_err-donor_sums g c = λ given h.
    rebuilt_filled c.args.n (get_or c.args.cas.now c.args.k 0) c.args.cas.now given (Err (record {})) c.from_residual.result c.requires.bounds.2 (c.in_err-donor_sums.ensures.are given h) (search rules)

pub returns : goal.returns
unfolding rebuilt_of limit_view
returns g c = λ given h.
    rebuilt_filled c.args.n (get_or c.args.cas.now c.args.k 0) c.args.cas.now given (Ok c.in_ok-donor_sums.field-0) c.rebuilt.result c.requires.bounds.2 (c.in_ok-donor_sums.ensures.are given h) c.rebuilt.ensures
