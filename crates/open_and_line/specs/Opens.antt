-- What opening does to the lent blocks (document 01, Calls).
use Rattle.std.specs.Prelude.{cond, ◌≡◌, Result, Ok}
use Rattle.meaning.specs.Blocks.{Blocks, sizes_fit, fresh_blocks}
use Rattle.refusals.specs.declared.Refusal.{Refusal}
use Rattle.refusals.specs.Refusals.{refused_by}

-- 1 where the blocks have not their sizes, and the blocks before and after
abbrev pub Opens : Result (Unit {0}) Refusal → Blocks → Blocks → Type 0
Opens r w v = (r ≡ cond (sizes_fit w) (Ok tt) (refused_by 1)) × (v ≡ cond (sizes_fit w) fresh_blocks w)
