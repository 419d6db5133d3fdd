-- Columns of 600 and the lists that they stand for.
use mathlib.Core.Path.{◌≡◌, ◌∙◌}
use mathlib.Core.List.{List}
use Prim.Native.Nat.{ℕ, ◌≤◌}
use native.Mathlib.Omega.{arith}
use lib.ListN.{length, get_or}
use Rattle.lists.specs.Lists.{tab}
use Rattle.lists.proofs.Laws.{get_d_tab0}
use Rattle.lists.proofs.Tables.{tab_same}
use Rattle.meaning.specs.Blocks.{readings_size, fresh_reading, readings_of}
use Rattle.readings.specs.declared.Reading.{Reading}
use Rattle.readings.specs.Readings.{readings_view, positions_of, counts_of, letters_of}
use Rattle.readings.specs.Columns.{reading_in, readings_in, lent_blocks_in, Columned}
use Rattle.readings.proofs.Laws.{columns_seen, seen_length, tab_all}

-- the first of them are the first of the list
pub first_read : (near far slots daily ps xs ks curve : List ℕ) (n : ℕ) → n ≤ readings_size → readings_of (lent_blocks_in near far slots daily ps xs ks curve) n ≡ readings_in ps xs ks n
unfolding readings_of readings_in
first_read near far slots daily ps xs ks curve n few =
    tab_same n 0 (λ i. get_or (tab readings_size 0 (reading_in ps xs ks)) i fresh_reading) (reading_in ps xs ks)
    (λ i l. get_d_tab0 readings_size (reading_in ps xs ks) i fresh_reading (omega (arith, l, few)))

pub columned : (near far slots daily ps xs ks curve : List ℕ) (n : ℕ) → n ≤ readings_size
    → length ps ≡ readings_size → length xs ≡ readings_size → length ks ≡ readings_size → Columned (lent_blocks_in near far slots daily ps xs ks curve) n ps xs ks
columned near far slots daily ps xs ks curve n few a b c = record {
  positions = a;
  indexes = b;
  kinds = c;
  read = first_read near far slots daily ps xs ks curve n few;
}

-- a list of 600 is what its columns say
pub seen_in : (rs : List Reading) → length rs ≡ readings_size → readings_in (positions_of rs) (counts_of rs) (letters_of rs) readings_size ≡ readings_view rs
unfolding readings_in
seen_in rs e = columns_seen rs readings_size ∙ tab_all readings_size (readings_view rs) fresh_reading (seen_length rs ∙ e)
