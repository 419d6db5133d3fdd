-- The columns of a list while it is copied: from a fresh start, one reading after the other.
use mathlib.Core.Path.{◌≡◌, refl, sym, ap, ap₂, ◌∙◌}
use mathlib.Core.Bool.{Bool, true, false}
use mathlib.Core.List.{List, [], map}
use Prim.Native.Nat.{ℕ, ◌+◌, ◌<◌, min}
use native.Mathlib.Omega.{arith}
use lib.Dec.{ltb}
use lib.ListN.{length, get_or, set, replicate, length-replicate, take}
use Rattle.std.proofs.lemmas.List.{length-take-le, get_or-take, get_or_default, get_or_past}
use borrow.Author.Tests.{ltb-true, ltb-false}
use Rattle.lists.specs.Lists.{tab}
use Rattle.lists.proofs.FilledTables.{set_tab}
use Rattle.lists.proofs.Ranges.{map_tab}
use Rattle.lists.proofs.Tables.{tab_same, get_d_fresh}
use Rattle.readings.specs.declared.Reading.{Reading}
use Rattle.readings.specs.declared.Columns.{Columns}
use Rattle.readings.specs.Readings.{fresh, letter, positions_of, counts_of, letters_of, first_readings, columns_of}
use Rattle.readings.proofs.Laws.{map_replicate, tab_all}

-- a field of the first n readings, of a fresh one where the list has no more
abbrev column : (Reading → ℕ) → ℕ → List Reading → List ℕ
column f n rs = map f (tab n 0 (λ i. get_or rs i fresh))

column_none : (f : Reading → ℕ) (n : ℕ) → replicate n (f fresh) ≡ column f n []
column_none f n =
    sym (map_replicate f n fresh)
    ∙ ap (λ (rs : List Reading). map f rs) (sym (tab_all n (replicate n fresh) fresh (length-replicate n fresh)) ∙ tab_same n 0 (λ i. get_or (replicate n fresh) i fresh) (λ i. get_or [] i fresh) (λ k l. get_d_fresh n k fresh))

column_more : (f : Reading → ℕ) (n : ℕ) (rs : List Reading) (i : ℕ) → i < n → i < length rs → set (column f n (take i rs)) i (f (get_or rs i fresh)) ≡ column f n (take (i + 1) rs)
column_more f n rs i h l =
    ap (λ (xs : List ℕ). set xs i (f (get_or rs i fresh))) (map_tab f n 0 (λ j. get_or (take i rs) j fresh))
    ∙ set_tab n (λ j. f (get_or (take i rs) j fresh)) (λ j. f (get_or (take (i + 1) rs) j fresh)) i (f (get_or rs i fresh)) 0 h
    (ap f (sym (get_or-take (i + 1) rs i fresh (omega arith)))) (λ j other. ap f (same j other (ltb j i) refl))
    ∙ sym (map_tab f n 0 (λ j. get_or (take (i + 1) rs) j fresh))
  where
    same : (j : ℕ) → (j ≡ i → ⊥) → (b : Bool) → ltb j i ≡ b → get_or (take i rs) j fresh ≡ get_or (take (i + 1) rs) j fresh
    same j other true e = let k = ltb-true j i e in get_or-take i rs j fresh k ∙ sym (get_or-take (i + 1) rs j fresh (omega arith))
    same j other false e =
        let k = ltb-false j i e in
        get_or_past (take i rs) j fresh (omega (arith, length-take-le i rs (omega arith)))
        ∙ sym (get_or_past (take (i + 1) rs) j fresh (omega (arith, other, length-take-le (i + 1) rs (omega arith))))

-- ---- all three
pub columns_none : (k : Columns) → k ≡ record { positions = replicate 600 0; indexes = replicate 600 0; kinds = replicate 600 69 } → k ≡ columns_of []
unfolding columns_of positions_of counts_of letters_of first_readings
columns_none k e = e ∙ (λ i. record {
  positions = column_none (λ r. r.position) 600 i;
  indexes = column_none (λ r. r.count.0) 600 i;
  kinds = column_none letter 600 i;
})

pub columns_more : (rs : List Reading) (i : ℕ) (d : Reading) → i < 600 → i < length rs → (k z : Columns) → k ≡ columns_of (take i rs)
    → z.positions ≡ set k.positions i (get_or rs i d).position → z.indexes ≡ set k.indexes i (get_or rs i d).count.0 → z.kinds ≡ set k.kinds i (letter (get_or rs i d))
    → z ≡ columns_of (take (i + 1) rs)
unfolding columns_of positions_of counts_of letters_of first_readings
columns_more rs i d h l k z e p x q =
    let r : get_or rs i d ≡ get_or rs i fresh = get_or_default rs i d fresh l in
    λ j. record {
      positions = (p ∙ ap₂ (λ (y : Columns) (v : Reading). set y.positions i v.position) e r ∙ column_more (λ r. r.position) 600 rs i h l) j;
      indexes = (x ∙ ap₂ (λ (y : Columns) (v : Reading). set y.indexes i v.count.0) e r ∙ column_more (λ r. r.count.0) 600 rs i h l) j;
      kinds = (q ∙ ap₂ (λ (y : Columns) (v : Reading). set y.kinds i (letter v)) e r ∙ column_more letter 600 rs i h l) j;
    }

-- all of the first 600: no reading past them is seen
pub columns_first : (rs : List Reading) (n i : ℕ) → n ≡ min (length rs) 600 → i ≡ length (take n rs) → columns_of (take i (take n rs)) ≡ columns_of rs
unfolding columns_of first_readings
columns_first rs n i e f =
    ap (λ (xs : List Reading). record { positions = positions_of xs; indexes = counts_of xs; kinds = letters_of xs })
    (tab_same 600 0 (λ k. get_or (take i (take n rs)) k fresh) (λ k. get_or rs k fresh) (λ k l. at k l (ltb k n) refl))
  where
    long : i ≡ n
    long = f ∙ length-take-le n rs (omega (arith, e))

    at : (k : ℕ) → k < 600 → (b : Bool) → ltb k n ≡ b → get_or (take i (take n rs)) k fresh ≡ get_or rs k fresh
    at k l true q = let p = ltb-true k n q in get_or-take i (take n rs) k fresh (omega (arith, long)) ∙ get_or-take n rs k fresh p
    at k l false q =
        let p = ltb-false k n q in
        get_or_past (take i (take n rs)) k fresh (omega (arith, long, f, length-take-le i (take n rs) (omega (arith, f)))) ∙ sym (get_or_past rs k fresh (omega (arith, e)))
