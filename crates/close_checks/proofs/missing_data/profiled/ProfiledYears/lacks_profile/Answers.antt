use Rattle.std.proofs.Common.{rules, tests}
use Rattle.lists.proofs.Chains.{any_below}
use Rattle.validity.specs.Dates.{lacks_profile_at, lacks_profiles}
use Rattle.close_checks.proofs.missing_data.profiled.ProfiledYears.lacks_profile.Goals as goal

pub returns : goal.returns
unfolding lacks_profiles lacks_profile_at
returns c =
    let y = c.args.self.now in
    any_below (lacks_profile_at y.valid c.args.defaults.now c.args.profile_dates.now) y.history.count _ _ _ c.any.ensures.ran (cc) (λ x b q k. search (rules, tests))
