-- CA (3.3) as document 01 has it: within a column, over the years used, no CA is above twice another, and none is 0.
use mathlib.Core.Path.{◌≡◌, refl}
use mathlib.Core.Bool.{Bool, true, false, ◌&&◌, cond}
use mathlib.Core.List.{List, [], ◌∷◌}
use Prim.Native.Nat.{ℕ, zero, suc, ◌+◌, ◌-◌, ◌*◌, ◌/◌, ◌%◌, min, ◌≤◌, ◌<◌}
use native.Mathlib.Nat.{add-zero, add-suc, suc-add, le_of_suc-le-suc, not-suc-le-zero}
use native.Mathlib.Omega.{arith}
use lib.Dec.{T, eqb, leb, ltb, leb→le, ltb→lt, lit≤}
use lib.ListN.{length, get_or}
use borrow.Author.Tests.{le-leb, lt-ltb, eq-eqb}
use Rattle.lists.specs.Lists.{all, tab, range, Each, each_nil, each_cons}
use Rattle.lists.proofs.Laws.{get_d_tab0, length_tab}
use Rattle.lists.proofs.Reflect.{of_all, of_le}
use Rattle.lists.proofs.Tests.{and_parts}
use Rattle.note.specs.Coefficients.{ca_table, ca_in, first_used, is_used}
use Rattle.note.proofs.Table.{each_at}

-- ---- the rule as one test of a whole table
-- whether place k of the table is of a column, in a year used
in_column : ℕ → ℕ → Bool
in_column c k = eqb (k % 7) c && is_used c (2007 + k / 7)

-- the entries of a column in its years used, in one walk from place k on
used_from : ℕ → ℕ → List ℕ → List ℕ
used_from c k [] = []
used_from c k (x ∷ xs) = cond (in_column c k) (x ∷ used_from c (suc k) xs) (used_from c (suc k) xs)

-- the least of m and the entries
least_from : ℕ → List ℕ → ℕ
least_from m [] = m
least_from m (x ∷ xs) = least_from (min m x) xs

-- the least is not 0, and no entry is above twice the least
close : List ℕ → Bool
close xs = leb 1 (least_from 9999 xs) && all (λ x. leb x (2 * least_from 9999 xs)) xs

is_twofold : List ℕ → Bool
is_twofold table = all (λ c. close (used_from c 0 table)) (range 0 7)

tested : T (is_twofold ca_table)
unfolding is_twofold close in_column used_from least_from is_used first_used all range tab ca_table
tested = tt

table_length : length ca_table ≡ 126
unfolding ca_table
table_length = refl

-- ---- the years used
pub used_years : (c y : ℕ) → T (is_used c y) → (c < 7) × (first_used c ≤ y) × (y ≤ 2021)
unfolding is_used
used_years c y t =
    let s = and_parts (ltb c 7) (leb (first_used c) y && leb y 2021) t in
    let u = and_parts (leb (first_used c) y) (leb y 2021) s.1 in
    (ltb→lt c 7 s.0, leb→le (first_used c) y u.0, leb→le y 2021 u.1)

either : (m : ℕ) (b : Bool) (x y : ℕ) → m ≤ x → m ≤ y → m ≤ cond b x y
either m true x y h g = h
either m false x y h g = g

pub first_used_lem : (c : ℕ) → 2007 ≤ first_used c
unfolding first_used
first_used_lem c = either 2007 (eqb c 2) _ _ (lit≤ tt) (either 2007 (ltb c 2) _ _ (lit≤ tt) (lit≤ tt))

-- ---- the entry of a year and a column
pub entry : (table : List ℕ) (y c : ℕ) → 2007 ≤ y → y ≤ 2024 → c < 7 → ca_in table y c ≡ get_or table (7 * (y - 2007) + c) 0
unfolding ca_in
entry table y c h g l = rw (le-leb 2007 y h, le-leb y 2024 g, lt-ltb c 7 l)

-- ---- what the test says of a table
-- what holds of each used entry of a column holds of the entry at each of its places
apart : (P : ℕ → Type 0) (b : Bool) (x : ℕ) (xs : List ℕ) → Each P (cond b (x ∷ xs) xs) → (T b → P x) × Each P xs
apart P true x xs (each_cons p r) = (λ _. p, r)
apart P false x xs r = (λ t. absurd t, r)

used_at : (P : ℕ → Type 0) (c i : ℕ) (xs : List ℕ) → Each P (used_from c i xs) → (k : ℕ) → k < length xs → T (in_column c (i + k)) → P (get_or xs k 0)
unfolding used_from
used_at P c i [] e k h t = absurd (not-suc-le-zero h)
used_at P c i (x ∷ xs) e zero h t = (apart P (in_column c i) x (used_from c (suc i) xs) e).0 (rw add-zero at t)
used_at P c i (x ∷ xs) e (suc k) h t =
    used_at P c (suc i) xs (apart P (in_column c i) x (used_from c (suc i) xs) e).1 k (le_of_suc-le-suc h) (rw (add-suc, ← suc-add) at t)

-- the least is at most each
least_start : (m : ℕ) (xs : List ℕ) → least_from m xs ≤ m
unfolding least_from
least_start m [] = omega arith
least_start m (x ∷ xs) = omega (arith, least_start (min m x) xs)

least_each : (m : ℕ) (xs : List ℕ) → Each (λ x. least_from m xs ≤ x) xs
unfolding least_from
least_each m [] = each_nil
least_each m (x ∷ xs) = each_cons {x = x} (omega (arith, least_start (min m x) xs)) (least_each (min m x) xs)

-- the place of a year and a column
place : (c y : ℕ) → T (is_used c y) → T (in_column c (0 + (7 * (y - 2007) + c)))
unfolding in_column
place c y u =
    let r = used_years c y u in
    let k = 0 + (7 * (y - 2007) + c) in
    let m : k % 7 ≡ c = omega arith in
    let d : 2007 + k / 7 ≡ y = omega (arith, first_used_lem c) in
    rw (m, d, eq-eqb c c refl) u

-- every entry of a column lies between its least and twice that
column_close : (table : List ℕ) → T (is_twofold table) → (c : ℕ) → c < 7 → T (close (used_from c 0 table))
unfolding is_twofold range
column_close table t c h =
    rw (get_d_tab0 7 (λ k. k) c 0 h) at
    (each_at ((of_all (λ c. close (used_from c 0 table)) (λ c. (λ u. u, λ u. u)) (tab 7 0 (λ k. k))).0 t) c 0 (rw (length_tab 7 0 (λ k. k)) h))

module _ (table : List ℕ) (long : 126 ≤ length table) (t : T (is_twofold table)) where
  between : (c y : ℕ) → T (is_used c y) → let m = least_from 9999 (used_from c 0 table) in (0 < m) × (m ≤ ca_in table y c) × (ca_in table y c ≤ 2 * m)
  unfolding close
  between c y u =
      let xs = used_from c 0 table in
      let m = least_from 9999 xs in
      let r = used_years c y u in
      let s = and_parts (leb 1 m) (all (λ x. leb x (2 * m)) xs) (column_close table t c r.0) in
      let k = 7 * (y - 2007) + c in
      let e = entry table y c (omega (arith, first_used_lem c)) (omega arith) r.0 in
      let i = place c y u in
      let l : k < length table = omega (arith, first_used_lem c) in (
        leb→le 1 m s.0,
        rw e (used_at (λ x. m ≤ x) c 0 table (least_each 9999 xs) k l i),
        rw e (used_at (λ x. x ≤ 2 * m) c 0 table ((of_all (λ x. leb x (2 * m)) (λ x. of_le x (2 * m)) xs).0 s.1) k l i),
      )

  twofold_in : (c y z : ℕ) → T (is_used c y) → T (is_used c z) → ca_in table y c ≤ 2 * ca_in table z c
  twofold_in c y z u v = let a = between c y u in let b = between c z v in omega arith

  not_zero_in : (c y : ℕ) → T (is_used c y) → 0 < ca_in table y c
  not_zero_in c y u = let a = between c y u in omega arith

-- ---- the note's table
pub twofold : (c y z : ℕ) → T (is_used c y) → T (is_used c z) → ca_in ca_table y c ≤ 2 * ca_in ca_table z c
twofold = twofold_in ca_table (omega (arith, table_length)) tested

pub not_zero : (c y : ℕ) → T (is_used c y) → 0 < ca_in ca_table y c
not_zero = not_zero_in ca_table (omega (arith, table_length)) tested

-- no CA has more than four digits
small : T (all (λ x. leb x 9999) ca_table)
unfolding all ca_table
small = tt

outside : (table : List ℕ) (y c : ℕ) → ((leb 2007 y && leb y 2024) && ltb c 7) ≡ false → ca_in table y c ≡ 0
unfolding ca_in
outside table y c e = rw e

pub at_most : (y c : ℕ) → ca_in ca_table y c ≤ 9999
at_most y c = go ((leb 2007 y && leb y 2024) && ltb c 7) refl
  where
    go : (b : Bool) → ((leb 2007 y && leb y 2024) && ltb c 7) ≡ b → ca_in ca_table y c ≤ 9999
    go true e =
        let s = and_parts (leb 2007 y && leb y 2024) (ltb c 7) (rw e tt) in
        let u = and_parts (leb 2007 y) (leb y 2024) s.0 in
        let h = leb→le 2007 y u.0 in
        let g = leb→le y 2024 u.1 in
        let l = ltb→lt c 7 s.1 in
        rw (entry ca_table y c h g l)
        (each_at ((of_all (λ x. leb x 9999) (λ x. of_le x 9999) ca_table).0 small) (7 * (y - 2007) + c) 0 (omega (arith, table_length)))
    go false e = omega (arith, outside ca_table y c e)
