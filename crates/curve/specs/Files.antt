-- What the curve of a file is computed from, as the code lends it, and CA by history year.
use Rattle.std.specs.Prelude.{List, ℕ}
use Rattle.curve.specs.declared.FileData.{FileData as LentData}
use Rattle.curve.specs.YearPlaces.{FileData, file_data_with}

abbrev pub file_view : LentData → List ℕ → FileData
file_view d cas = file_data_with d.blocks.now.near.now d.blocks.now.far.now d.blocks.now.slots.now d.energies.now d.totals.now d.valid.now cas
