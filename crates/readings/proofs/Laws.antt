-- Laws of the lent list: what it is after a store and when it is fresh, as a list that the definitions read and as columns.
use mathlib.Core.Path.{◌≡◌, refl, sym, ap, ◌∙◌}
use mathlib.Core.List.{List, ◌∷◌, map}
use Prim.Native.Nat.{ℕ, zero, suc}
use native.Mathlib.Omega.{arith}
use lib.Dec.{T}
use lib.ListN.{length, get_or, set, replicate, length-map, get_or-map}
use lib.Seq.{ext_get_or}
use Rattle.std.proofs.lemmas.List.{map-set}
use Rattle.lists.specs.Lists.{tab}
use Rattle.lists.proofs.Laws.{length_tab, get_d_tab0}
use Rattle.lists.proofs.Tables.{tab_same}
use Rattle.meaning.specs.Filing as meant
use Rattle.meaning.specs.Filing.{real, corrected, estimated, no_kind, reading}
use Rattle.meaning.specs.Line.{kind_of_letter, is_kind}
use Rattle.meaning.specs.Blocks.{letter_of_kind}
use Rattle.rounding.specs.Units.{in_wh}
use Rattle.readings.specs.declared.Kind.{Kind}
use Rattle.readings.specs.declared.Kind.TheVariants.{R, C, E}
use Rattle.readings.specs.declared.Reading.{Reading}
use Rattle.readings.proofs.LetterKinds.{back}
use Rattle.readings.specs.Readings.{kind_view, reading_view, kind_repr, fresh, readings_view, freshened, letter, positions_of, counts_of, letters_of, first_readings, columns_of}

-- ---- any field of each reading
pub map_replicate : {A B : Type 0} (f : A → B) (n : ℕ) (x : A) → map f (replicate n x) ≡ replicate n (f x)
map_replicate f zero x = refl
map_replicate {B = B} f (suc n) x = ap (λ (zs : List B). f x ∷ zs) (map_replicate f n x)

-- ---- the list as the definitions read it
pub seen_put : (rs : List Reading) (i : ℕ) (r : Reading) → readings_view (set rs i r) ≡ set (readings_view rs) i (reading_view r)
unfolding readings_view
seen_put rs i r = map-set reading_view rs i r

pub seen_length : (rs : List Reading) → length (readings_view rs) ≡ length rs
unfolding readings_view
seen_length rs = length-map rs reading_view

pub seen_fresh : (rs : List Reading) → readings_view (freshened rs) ≡ replicate (length rs) (reading 0 0 estimated)
unfolding readings_view freshened
seen_fresh rs = map_replicate reading_view (length rs) fresh

-- ---- the columns of 600 readings are those of the whole list
pub tab_all : {A : Type 0} (n : ℕ) (xs : List A) (d : A) → length xs ≡ n → tab n 0 (λ i. get_or xs i d) ≡ xs
tab_all n xs d e = ext_get_or d (tab n 0 (λ i. get_or xs i d)) xs (length_tab n 0 (λ i. get_or xs i d) ∙ sym e) (λ k l. get_d_tab0 n (λ i. get_or xs i d) k d (omega (arith, l, length_tab n 0 (λ i. get_or xs i d))))

pub all_readings : (rs : List Reading) → length rs ≡ 600 → first_readings rs ≡ rs
unfolding first_readings
all_readings rs e = tab_all 600 rs fresh e

pub columns_all : (rs : List Reading) → length rs ≡ 600 → columns_of rs ≡ record { positions = positions_of rs; indexes = counts_of rs; kinds = letters_of rs }
unfolding columns_of
columns_all rs e = λ i. record { positions = positions_of (all_readings rs e i); indexes = counts_of (all_readings rs e i); kinds = letters_of (all_readings rs e i) }

-- ---- a reading is what its columns say
pub letter_back : (k : Kind) → kind_of_letter (letter_of_kind (kind_view k)) ≡ kind_view k
unfolding kind_of_letter
letter_back R = refl
letter_back C = refl
letter_back E = refl

-- the first n readings, out of the columns
pub columns_seen : (rs : List Reading) (n : ℕ)
    → tab n 0 (λ i. reading (get_or (positions_of rs) i 0) (get_or (counts_of rs) i 0) (kind_of_letter (get_or (letters_of rs) i 69))) ≡ tab n 0 (λ i. get_or (readings_view rs) i (reading_view fresh))
unfolding positions_of counts_of letters_of readings_view
columns_seen rs n = tab_same n 0 _ _ (λ i l. at i)
  where
    at : (i : ℕ) → reading (get_or (map (λ (x : Reading). x.position) rs) i 0) (get_or (map (λ (x : Reading). x.count.0) rs) i 0) (kind_of_letter (get_or (map letter rs) i 69)) ≡ get_or (map reading_view rs) i (reading_view fresh)
    at i =
        rw (get_or-map (λ (x : Reading). x.position) rs i fresh, get_or-map (λ (x : Reading). x.count.0) rs i fresh, get_or-map letter rs i fresh, get_or-map reading_view rs i fresh, letter_back (get_or rs i fresh).kind) refl

-- ---- kinds
pub kind_shown : (k : meant.Kind) → T (is_kind k) → kind_view (kind_repr k) ≡ k
kind_shown real t = refl
kind_shown corrected t = refl
kind_shown estimated t = refl
kind_shown no_kind t = absurd t

-- ---- lists with the same view are the same
pub same_reading : (r q : Reading) → reading_view r ≡ reading_view q → r ≡ q
same_reading r q e = λ i. record {
  position = ap (λ (x : meant.Reading). x.position) e i;
  count = in_wh (ap (λ (x : meant.Reading). x.index) e i);
  kind = (sym (back r.kind) ∙ ap (λ (x : meant.Reading). kind_repr x.kind) e ∙ back q.kind) i;
}

pub same_readings : (rs qs : List Reading) → readings_view rs ≡ readings_view qs → rs ≡ qs
unfolding readings_view
same_readings rs qs e = ext_get_or fresh rs qs same (λ i l. same_reading (get_or rs i fresh) (get_or qs i fresh)
    (sym (get_or-map reading_view rs i fresh) ∙ ap (λ (xs : List meant.Reading). get_or xs i (reading_view fresh)) e ∙ get_or-map reading_view qs i fresh))
  where
    same : length rs ≡ length qs
    same = sym (length-map rs reading_view) ∙ ap length e ∙ length-map qs reading_view
