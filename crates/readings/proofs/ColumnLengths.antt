-- The columns passed to a function have 600 places each, by what it knows of the struct.
use mathlib.Core.Path.{◌≡◌}
use mathlib.Core.List.{List}
use lib.ListN.{length}
use mir.Val.{Val}
use denote.Laws.{Is}
use denote.Struct.Laws as LL
use Rattle.readings.specs.declared.Columns.{Columns}
use Rattle.readings.specs.contracts.Columns as B
use Rattle.readings.proofs.Columns.TheLaws as B'

pub long_columns : (k : Columns) (vs : List Val) → Is B.the_row k vs → (length k.positions ≡ 600) × (length k.indexes ≡ 600) × (length k.kinds ≡ 600)
long_columns k vs is =
    let a = LL.owed B.the_type B'.the_laws k vs is in
    (a.0.1.0.1, a.1.0.1.0.1, a.1.1.0.1.0.1)
