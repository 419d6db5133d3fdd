use mathlib.Core.Path.{◌≡◌}
use Prim.Native.Nat.{◌≤◌, ◌<◌}
use lib.ListN.{length, get_or}
use Rattle.rounding.specs.Units.{in_wh}
use Rattle.validity.specs.Days.{energy_in, total_in}
use Rattle.validity.proofs.Fills.{Spread}
use Rattle.validity.proofs.columns.Counted.by_position.Given as goal

abbrev pub invariant-loop-i : goal.invariant-loop-i
invariant-loop-i l = record {
  at : 0 < l.self.n → l.at ≡ get_or l.self.positions.now l.i 0;
  on_axis : l.at ≤ 4392;
  energies_long : length l.energies ≡ 4392;
  totals_long : length l.totals ≡ 4392;
  energies : Spread l.self.positions.now l.self.n (in_wh 0) (energy_in l.self.indexes.now) l.at l.energies;
  totals : Spread l.self.positions.now l.self.n 0 (total_in l.self.positions.now l.daily) l.at l.totals;
}
