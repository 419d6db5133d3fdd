-- The lent lists of a close, from the blocks that it reads, the readings and the curve (document 01, Calls).
use Rattle.std.specs.Prelude.{List, ℕ}
use Rattle.meaning.specs.Filing.{Reading}
use Rattle.meaning.specs.Blocks.{Blocks}
use Rattle.blocks.specs.declared.lent.ReadBlocks.{ReadBlocks}
use Rattle.readings.specs.declared.Columns.{Columns}
use Rattle.readings.specs.Columns.{lent_blocks, lent_blocks_in}

abbrev pub lent_lists : ReadBlocks → List Reading → List ℕ → Blocks
lent_lists b rs c = lent_blocks b.near.now b.far.now b.slots.now b.daily.now rs c

-- the same, of the 600 readings of columns
abbrev pub lent_columns : ReadBlocks → Columns → List ℕ → Blocks
lent_columns b k c = lent_blocks_in b.near.now b.far.now b.slots.now b.daily.now k.positions k.indexes k.kinds c
