-- The blocks that a run is opened with have their sizes.
use mathlib.Core.Path.{◌≡◌, ◌∙◌}
use mathlib.Core.List.{List}
use Prim.Native.Nat.{ℕ}
use lib.Dec.{T}
use lib.ListN.{length, length-replicate}
use Rattle.meaning.specs.Blocks.{sizes_fit}
use Rattle.readings.specs.Readings.{readings_view, fresh, fresh_readings}
use Rattle.readings.specs.Columns.{lent_blocks}
use Rattle.readings.proofs.Laws.{seen_length}

fresh_length : length fresh_readings ≡ 600
unfolding fresh_readings
fresh_length = length-replicate 600 fresh

pub fresh_sized : (near far slots daily curve : List ℕ) → length near ≡ 15200 → length far ≡ 15200 → length slots ≡ 30400 → length daily ≡ 4392 → length curve ≡ 4400
    → T (sizes_fit (lent_blocks near far slots daily (readings_view fresh_readings) curve))
unfolding sizes_fit
fresh_sized near far slots daily curve a b c d e = rw (a, b, c, d, seen_length fresh_readings ∙ fresh_length, e) tt
