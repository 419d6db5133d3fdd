use mathlib.Core.Path.{ap, sym, ◌∙◌}
use Prim.Native.Nat.{ℕ, ◌+◌}
use lib.ListN.{get_or}
use borrow.Author.Tests.{eq-eqb}
use Rattle.std.proofs.Common.{rules, tests}
use Rattle.calendar.specs.Dates.{all_winter_dates, all_dates}
use Rattle.meaning.specs.Closing.{is_partial}
use Rattle.lists.proofs.Chains.{any_below}
use Rattle.validity.specs.Dates.{some_partial}
use Rattle.close_checks.proofs.PartialYears.{partial_profile, partial_none, partial_days}
use Rattle.close_checks.proofs.missing_data.dates.partial.Goals as goal

pub returns-then-any : goal.returns-then-any
unfolding some_partial
returns-then-any c =
    let a = c.args in
    let p = any_below (λ k. is_partial (get_or a.tallies.now.profile_dates k 0) (all_winter_dates (a.history.first + k))) a.history.count _ _ _ c.any.ensures.ran (cc) (λ x b q k. search (rules, tests)) in
    c.if-any.true ∙ partial_profile a.history.first a.history.count a.tallies.now.profile_dates a.tallies.now.daily_dates (sym p ∙ c.if-any.true)

pub returns-then-years-ne0 : goal.returns-then-years-ne0
unfolding some_partial
returns-then-years-ne0 c =
    let a = c.args in let z = c.saturating_sub-axis_first.result in
    let p = any_below (λ k. is_partial (get_or a.tallies.now.profile_dates k 0) (all_winter_dates (a.history.first + k))) a.history.count _ _ _ c.any.ensures.ran (cc) (λ x b q k. search (rules, tests)) in
    let d = any_below (λ k. is_partial (get_or a.tallies.now.daily_dates k 0) (all_dates (z + k))) (a.history.count + 2) _ _ _ c.any-then-years-ne0.ensures.ran (cc) (λ x b q k. search (rules, tests)) in
    d ∙ ap (λ (m : ℕ). some_partial all_dates m (a.history.count + 2) a.tallies.now.daily_dates) c.saturating_sub-axis_first.ensures
    ∙ partial_days a.history.first a.history.count a.tallies.now.profile_dates a.tallies.now.daily_dates (sym p ∙ c.if-any.false) c.if-years-ne0.true

pub returns-else-years-ne0 : goal.returns-else-years-ne0
unfolding some_partial
returns-else-years-ne0 c =
    let a = c.args in
    let p = any_below (λ k. is_partial (get_or a.tallies.now.profile_dates k 0) (all_winter_dates (a.history.first + k))) a.history.count _ _ _ c.any.ensures.ran (cc) (λ x b q k. search (rules, tests)) in
    simp (eq-eqb a.history.count 0 c.if-years-ne0.false) (partial_none a.history.first a.history.count a.tallies.now.profile_dates a.tallies.now.daily_dates (sym p ∙ c.if-any.false) c.if-years-ne0.false)
