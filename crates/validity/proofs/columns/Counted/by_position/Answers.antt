use mathlib.Core.Path.{◌≡◌, ◌∙◌, ap, ap₂}
use mathlib.Core.List.{List}
use native.Mathlib.Omega.{arith}
use Prim.Native.Nat.{ℕ, ◌+◌, ◌-◌, ◌<◌}
use lib.ListN.{length, get_or}
use Rattle.rounding.specs.declared.Energy.{Energy}
use Rattle.rounding.specs.Units.{in_wh}
use Rattle.validity.specs.Days.{energy_in, energy_at, energies_of, sum_between, total_in, total_at, totals_of}
use Rattle.validity.proofs.Fills.{filled_length, first_there, first_within, spread_start, spread_on, spread_end, total_listed}
use Rattle.validity.proofs.columns.Counted.by_position.Goals as goal

pub fill-requires : goal.fill-requires
fill-requires c =
    let w = first_within c.args.self.now.positions.now c.args.self.now.n c.requires.rising.0 in
    (omega arith, (omega arith, omega (arith, c.first_place-at.ensures), c.requires.daily_len.1))

pub fill-requires-2 : goal.fill-requires-2
fill-requires-2 c =
    let w = first_within c.args.self.now.positions.now c.args.self.now.n c.requires.rising.0 in
    (omega arith, (omega arith, omega (arith, c.first_place-at.ensures), c.requires.daily_len.2))

pub loop-i-init : goal.loop-i-init
loop-i-init c =
    let ps = c.args.self.now.positions.now in let n = c.args.self.now.n in let r = c.requires.rising.0 in
    let e = c.first_place-at.ensures in
    let w = first_within ps n r in
    record {
      at = λ h. e ∙ first_there ps n h;
      on_axis = omega arith;
      energies_long = ap length c.fill.ensures ∙ filled_length _ _ _ _ (omega arith) (omega arith) ∙ c.requires.daily_len.1;
      totals_long = ap length c.fill-2.ensures ∙ filled_length _ _ _ _ (omega arith) (omega arith) ∙ c.requires.daily_len.2;
      energies = λ q h. ap (λ (l : List Energy). get_or l q (in_wh 0)) c.fill.ensures ∙ spread_start ps n r (in_wh 0) (energy_in c.args.self.now.indexes.now) _ _ c.requires.daily_len.1 (omega arith) (λ p. e ∙ first_there ps n p) q h;
      totals = λ q h. ap (λ (l : List ℕ). get_or l q 0) c.fill-2.ensures ∙ spread_start ps n r 0 (total_in ps c.args.daily.now) _ _ c.requires.daily_len.2 (omega arith) (λ p. e ∙ first_there ps n p) q h;
    }

pub loop-i-preserved : goal.loop-i-preserved
unfolding total_in energy_in
loop-i-preserved c =
    let l = c.loop-i in let ps = c.args.self.now.positions.now in let ds = c.args.daily.now in let n = c.args.self.now.n in let r = c.requires.rising.0 in
    let h : l.i + 1 < n = omega arith in
    let e = c.position-next.ensures.is in
    let at = l.invariant.at (omega arith) in
    let total = total_listed ds l.at c.position-next.result (omega (arith, at, e, r.rises l.i h)) (omega (arith, e, r.below (l.i + 1) h, c.requires.daily_len.0)) in
    record {
      at = λ p. e;
      on_axis = omega (arith, e, r.below (l.i + 1) h);
      energies_long = ap length c.fill-in-loop-i.ensures ∙ filled_length _ _ _ _ (omega (arith, at, e, r.rises l.i h)) (omega (arith, e, r.below (l.i + 1) h)) ∙ l.invariant.energies_long;
      totals_long = ap length c.fill-in-loop-i-2.ensures ∙ filled_length _ _ _ _ (omega (arith, at, e, r.rises l.i h)) (omega (arith, e, r.below (l.i + 1) h)) ∙ l.invariant.totals_long;
      energies = λ q k. ap (λ (x : List Energy). get_or x q (in_wh 0)) c.fill-in-loop-i.ensures ∙ spread_on ps n r (in_wh 0) (energy_in c.args.self.now.indexes.now) _ l.i _ _ _ l.invariant.energies_long h at e (ap₂ (λ (x y : Energy). in_wh (x.0 - y.0)) c.index.ensures c.index-in-loop-i.ensures) l.invariant.energies q k;
      totals = λ q k. ap (λ (x : List ℕ). get_or x q 0) c.fill-in-loop-i-2.ensures ∙ spread_on ps n r 0 (total_in ps ds) _ l.i _ _ _ l.invariant.totals_long h at e (c.total-total.ensures ∙ total ∙ ap₂ (sum_between ds) at e) l.invariant.totals q k;
    }

pub overflow_sub-energy : goal.overflow_sub-energy
overflow_sub-energy c = omega (arith, ap (λ (x : Energy). x.0) c.index.ensures, ap (λ (x : Energy). x.0) c.index-in-loop-i.ensures, c.requires.rising.1.climbs c.loop-i.i (omega arith))

pub returns-clause-energies : goal.returns-clause-energies
unfolding energies_of energy_at
returns-clause-energies c =
    let l = c.loop-i in let ps = c.args.self.now.positions.now in let n = c.args.self.now.n in
    let k : l.i ≡ n - 1 = omega arith in
    c.fill-3.ensures ∙ spread_end ps n c.requires.rising.0 (in_wh 0) (energy_in c.args.self.now.indexes.now) l.energies l.at l.invariant.energies_long l.invariant.on_axis (λ p. l.invariant.at p ∙ ap (λ (j : ℕ). get_or ps j 0) k) l.invariant.energies

pub returns-clause-totals : goal.returns-clause-totals
unfolding totals_of total_at
returns-clause-totals c =
    let l = c.loop-i in let ps = c.args.self.now.positions.now in let n = c.args.self.now.n in
    let k : l.i ≡ n - 1 = omega arith in
    c.fill-4.ensures ∙ spread_end ps n c.requires.rising.0 0 (total_in ps c.args.daily.now) l.totals l.at l.invariant.totals_long l.invariant.on_axis (λ p. l.invariant.at p ∙ ap (λ (j : ℕ). get_or ps j 0) k) l.invariant.totals
