-- The lines of a sheet put one after the other.
use mathlib.Core.Path.{◌≡◌, refl, ap, sym, ◌∙◌}
use mathlib.Core.Bool.{Bool, true, false, cond}
use mathlib.Core.List.{List, [], ◌∷◌, ◌++◌, append_assoc, append-nil, map}
use Prim.Native.Nat.{ℕ, ◌+◌, ◌*◌, ◌^◌, ◌≤◌, ◌<◌}
use native.Mathlib.Numerals.{add-one}
use native.Mathlib.Omega.{arith}
use lib.Dec.{eqb}
use lib.ListN.{length, take, get_or, length-append}
use lib.Seq.{take-suc, take_all}
use borrow.Author.Tests.{eq-eqb, ne_eqb}
use Rattle.lists.specs.Lists.{flat}
use Rattle.meaning.specs.Text.{level_text, year_text, refusal_line}
use Rattle.sheet.proofs.Chains.{tabbed_length}
use Rattle.close.specs.declared.outcome.file.YearRow.{YearRow}
use Rattle.sheet.specs.SheetTexts.{line_text, row_text, rows_text}

-- ---- how long a line is
pub level_length : (al f n k : ℕ) → al < 2 ^ 64 → f < 2 ^ 64 → n < 2 ^ 64 → k < 2 ^ 64 → length (level_text al f n k) ≤ 86
unfolding level_text
level_length al f n k a b c d =
    simp length-append (omega (arith, tabbed_length al a, tabbed_length f b, tabbed_length n c, tabbed_length k d))

pub refusal_length : (n k : ℕ) → n < 2 ^ 64 → k < 2 ^ 64 → length (refusal_line n k) ≤ 44
unfolding refusal_line
refusal_length n k a b = simp length-append (omega (arith, tabbed_length n a, tabbed_length k b))

year_length : (y c k : ℕ) → y < 2 ^ 64 → k < 2 ^ 64 → length (year_text y c k) ≤ 46
unfolding year_text
year_length y c k a b = simp length-append (omega (arith, tabbed_length y a, tabbed_length k b))

-- ---- the lines Z and N are letters and numbers
pub refusal_is : (n k : ℕ) → line_text 90 (n ∷ k ∷ []) ≡ refusal_line n k
unfolding line_text refusal_line flat
refusal_is n k = simp append_assoc

pub level_is : (al f n k : ℕ) → line_text 78 (al ∷ f ∷ n ∷ k ∷ []) ≡ level_text al f n k
unfolding line_text level_text flat
level_is al f n k = simp append_assoc

-- ---- a year's line, or none
pub row_none : (y : YearRow) → y.year ≡ 0 → row_text y ≡ []
unfolding row_text
row_none y e = rw (eq-eqb y.year 0 e)

pub row_some : (y : YearRow) → (y.year ≡ 0 → ⊥) → row_text y ≡ year_text y.year y.case y.present
unfolding row_text
row_some y e = rw (ne_eqb y.year 0 e)

pub row_length : (y : YearRow) → y.year < 2 ^ 64 → y.present < 2 ^ 64 → length (row_text y) ≤ 46
unfolding row_text
row_length y a b = go (eqb y.year 0)
  where
    go : (c : Bool) → length (cond c [] (year_text y.year y.case y.present)) ≤ 46
    go true = omega arith
    go false = year_length y.year y.case y.present a b

-- ---- rows one after the other
flat_one : (xs : List (List ℕ)) (x : List ℕ) → flat (xs ++ (x ∷ [])) ≡ flat xs ++ x
unfolding flat
flat_one [] x = append-nil x
flat_one (y ∷ xs) x = ap (λ (l : List ℕ). y ++ l) (flat_one xs x) ∙ sym (append_assoc y (flat xs) x)

map_one : {A : Type 0} (f : A → List ℕ) (ys : List A) (y : A) → map f (ys ++ (y ∷ [])) ≡ map f ys ++ (f y ∷ [])
map_one f [] y = refl
map_one f (x ∷ ys) y = ap (λ (l : List (List ℕ)). f x ∷ l) (map_one f ys y)

pub texts_next : {A : Type 0} (f : A → List ℕ) (ys : List A) (i : ℕ) (d : A) → i < length ys → flat (map f (take (i + 1) ys)) ≡ flat (map f (take i ys)) ++ f (get_or ys i d)
texts_next f ys i d h = rw (add-one i, take-suc ys i d h, map_one f (take i ys) (get_or ys i d)) (flat_one (map f (take i ys)) (f (get_or ys i d)))

pub texts_none : {A : Type 0} (f : A → List ℕ) (ys : List A) → flat (map f (take 0 ys)) ≡ []
unfolding flat
texts_none f ys = refl

pub texts_all : {A : Type 0} (f : A → List ℕ) (ys : List A) (i : ℕ) → length ys ≤ i → flat (map f (take i ys)) ≡ flat (map f ys)
texts_all f ys i h = ap (λ (l : List _). flat (map f l)) (take_all i ys h)

pub rows_none : (ys : List YearRow) → rows_text (take 0 ys) ≡ []
unfolding rows_text
rows_none = texts_none row_text

pub rows_next : (ys : List YearRow) (i : ℕ) (d : YearRow) → i < length ys → rows_text (take (i + 1) ys) ≡ rows_text (take i ys) ++ row_text (get_or ys i d)
unfolding rows_text
rows_next = texts_next row_text

pub rows_more : (ys : List YearRow) (i : ℕ) (d : YearRow) → i < length ys → length (rows_text (take i ys)) ≤ 46 * i → length (row_text (get_or ys i d)) ≤ 46
    → length (rows_text (take (i + 1) ys)) ≤ 46 * (i + 1)
rows_more ys i d h a b = rw (rows_next ys i d h) (omega (arith, a, b, length-append (rows_text (take i ys)) (row_text (get_or ys i d))))

pub rows_all : (ys : List YearRow) (i : ℕ) → length ys ≤ i → rows_text (take i ys) ≡ rows_text ys
rows_all ys i h = ap rows_text (take_all i ys h)
