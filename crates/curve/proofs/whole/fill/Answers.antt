use mathlib.Core.Path.{ap, ◌∙◌}
use Rattle.history.specs.Years.{cas_sum}
use Rattle.curve.specs.Places.{site_factors_of}
use Rattle.curve.proofs.Sites.{basis_fits, cas_most, held_fits}
use Rattle.curve.proofs.whole.fill.Goals as goal

pub cas_from-cas-requires : goal.cas_from-cas-requires
unfolding site_factors_of
cas_from-cas-requires c =
    let s = c.args.site in
    rw c.history-history.ensures (basis_fits s.al s.filiere s.ps.0 c.requires.site_fits.0).first

pub cas_sum-requires : goal.cas_sum-requires
unfolding site_factors_of
cas_sum-requires c =
    let s = c.args.site in
    (rw c.history-history.ensures (basis_fits s.al s.filiere s.ps.0 c.requires.site_fits.0).count, rw c.cas_from-cas.ensures (cas_most c.history-history.result.first s.filiere))

pub invariant_of-site_file : goal.invariant_of-site_file
unfolding site_factors_of
invariant_of-site_file c =
    let s = c.args.site in
    let l = c.args.file.now in
    let e = c.cas_sum.ensures.is ∙ ap (cas_sum c.history-history.result.count) c.cas_from-cas.ensures in
    record {
      site_fits = rw (e, c.theta.ensures, c.history-history.ensures) (basis_fits s.al s.filiere s.ps.0 c.requires.site_fits.0);
      fits = rw (c.cas_from-cas.ensures, e, c.theta.ensures, c.history-history.ensures)
          (held_fits s.al s.filiere s.ps.0 c.requires.site_fits.0 l.blocks.now.near.now l.blocks.now.far.now l.blocks.now.slots.now l.energies.now l.totals.now l.valid.now.curves l.valid.now.indexes c.args.rates.now c.requires.site_fits.1 c.requires.index_years.nonzero);
    }

pub returns : goal.returns
unfolding site_factors_of
returns c =
    let e = c.cas_sum.ensures.is ∙ ap (cas_sum c.history-history.result.count) c.cas_from-cas.ensures in
    rw (e, c.theta.ensures, c.cas_from-cas.ensures, c.history-history.ensures) at c.all_years.ensures
