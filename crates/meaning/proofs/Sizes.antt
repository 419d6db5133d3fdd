-- The sizes of the lent blocks, one by one, and the test of all of them.
use mathlib.Core.Path.{◌≡◌}
use lib.Dec.{T, eqb, eqb→eq}
use lib.ListN.{length}
use borrow.Author.Tests.{eq-eqb}
use Rattle.lists.proofs.Tests.{and_parts}
use Rattle.meaning.specs.Blocks.{Blocks, points_size, slots_size, daily_size, readings_size, curve_size, sizes_fit}

pub record Sizes (w : Blocks) : Type 0 where
  pub near : length w.near ≡ points_size
  pub far : length w.far ≡ points_size
  pub slots : length w.slots ≡ slots_size
  pub daily : length w.daily ≡ daily_size
  pub readings : length w.readings ≡ readings_size
  pub curve : length w.curve ≡ curve_size

pub sizes_of : (w : Blocks) → T (sizes_fit w) → Sizes w
unfolding sizes_fit
sizes_of w t =
    let a = and_parts (eqb (length w.near) points_size) _ t in
    let b = and_parts (eqb (length w.far) points_size) _ a.1 in
    let c = and_parts (eqb (length w.slots) slots_size) _ b.1 in
    let d = and_parts (eqb (length w.daily) daily_size) _ c.1 in
    let e = and_parts (eqb (length w.readings) readings_size) _ d.1 in
    record {
      near = eqb→eq _ _ a.0;
      far = eqb→eq _ _ b.0;
      slots = eqb→eq _ _ c.0;
      daily = eqb→eq _ _ d.0;
      readings = eqb→eq _ _ e.0;
      curve = eqb→eq _ _ e.1;
    }

pub sizes_fit_lem : (w : Blocks) → Sizes w → T (sizes_fit w)
unfolding sizes_fit
sizes_fit_lem w z =
    rw (
      eq-eqb (length w.near) points_size z.near,
      eq-eqb (length w.far) points_size z.far,
      eq-eqb (length w.slots) slots_size z.slots,
      eq-eqb (length w.daily) daily_size z.daily,
      eq-eqb (length w.readings) readings_size z.readings,
      eq-eqb (length w.curve) curve_size z.curve,
    ) tt
