-- What a history year has: peak days, and a CA that the twofold rule covers, wherever document 01 accepts the AL and the filière.
use mathlib.Core.Path.{◌≡◌, refl}
use mathlib.Core.Bool.{Bool, true, false, ◌&&◌, cond}
use Prim.Native.Nat.{ℕ, ◌+◌, ◌-◌, ◌*◌, ◌≤◌, ◌<◌}
use native.Mathlib.Omega.{arith}
use lib.Dec.{T, leb, ltb, leb→le, ltb→lt, le→leb}
use lib.ListN.{length, get_or}
use borrow.Author.Tests.{leb-true}
use Rattle.lists.proofs.Reflect.{of_and, of_le, of_lt}
use Rattle.lists.proofs.Tests.{and_parts}
use Rattle.calendar.specs.Spans.{among, history_length, is_known, history_years}
use Rattle.calendar.proofs.Laws.{among_words, known_parts, known_history, has_history, history_year_lem}
use Rattle.note.specs.Coefficients.{columns, column_of, ca_of, first_used, is_used}
use Rattle.note.proofs.Table.{implied, given, every, at}
use Rattle.note.proofs.Annual.{twofold, not_zero, at_most}

-- ---- the one test of the columns
-- the first AL that document 01 accepts for a filière (refusal 9)
first_al : ℕ → ℕ
first_al f = cond (leb 6 f) 2023 2021

right : ℕ → ℕ → Bool
right f c = implied (leb 1 f) (ltb c 7 && leb (first_used c) (first_al f - (history_length f + 4)))

tested : T (every right 0 columns)
unfolding right first_al first_used history_length columns
tested = tt

columns_length : length columns ≡ 12
unfolding columns
columns_length = refl

column_right : (f : ℕ) → 1 ≤ f → f ≤ 11 → (column_of f < 7) × (first_used (column_of f) ≤ first_al f - (history_length f + 4))
unfolding right column_of
column_right f h g =
    let c = get_or columns f 7 in
    let b = first_al f - (history_length f + 4) in
    let s = and_parts (ltb c 7) (leb (first_used c) b) (given (leb 1 f) (ltb c 7 && leb (first_used c) b) (at right columns tested f 7 (omega (arith, columns_length))) (le→leb 1 f h)) in
    (ltb→lt c 7 s.0, leb→le (first_used c) b s.1)

-- ---- history years
-- only an AL and a filière that document 01 knows have a history year
pub known : (al f y : ℕ) → T (among (history_years al f) y) → T (is_known al f)
known al f y t = let s = (among_words (history_years al f) y).0 t in has_history al f (λ e. omega arith)

starts : (al f y : ℕ) → T (among (history_years al f) y) → al - (history_length f + 4) ≤ y
starts al f y t = rw (known_history al f (known al f y t)) at ((among_words (history_years al f) y).0 t).0

first_al_lem : (al f : ℕ) → T (is_known al f) → (6 ≤ f → 2023 ≤ al) → first_al f ≤ al
unfolding first_al
first_al_lem al f t a = go (leb 6 f) refl
  where
    go : (b : Bool) → leb 6 f ≡ b → cond b 2023 2021 ≤ al
    go true e = a (leb-true 6 f e)
    go false e = (known_parts al f t).first_al_lem

-- filières 6 to 11 are accepted from AL 2023 on
pub used : (al f y : ℕ) → (6 ≤ f → 2023 ≤ al) → T (among (history_years al f) y) → T (is_used (column_of f) y)
unfolding is_used
used al f y a t =
    let k = known_parts al f (known al f y t) in
    let c = column_right f k.first_filiere k.last_filiere in
    let s = starts al f y t in
    let e = first_al_lem al f (known al f y t) a in
    (of_and (ltb (column_of f) 7) (leb (first_used (column_of f)) y && leb y 2021) (of_lt (column_of f) 7)
    (of_and (leb (first_used (column_of f)) y) (leb y 2021) (of_le (first_used (column_of f)) y) (of_le y 2021))
    ).1
    (c.0, (omega arith, (history_year_lem al f y t).1))

pub ca_not_zero : (al f y : ℕ) → (6 ≤ f → 2023 ≤ al) → T (among (history_years al f) y) → 0 < ca_of y f
unfolding ca_of
ca_not_zero al f y a t = not_zero (column_of f) y (used al f y a t)

pub ca_twofold :
    (al f y z : ℕ) → (6 ≤ f → 2023 ≤ al) → T (among (history_years al f) y) → T (among (history_years al f) z) → ca_of y f ≤ 2 * ca_of z f
unfolding ca_of
ca_twofold al f y z a s t = twofold (column_of f) y z (used al f y a s) (used al f z a t)

pub ca_at_most : (y f : ℕ) → ca_of y f ≤ 9999
unfolding ca_of
ca_at_most y f = at_most y (column_of f)

pub column_within : (f : ℕ) → 1 ≤ f → f ≤ 11 → column_of f < 7
column_within f h g = (column_right f h g).0
