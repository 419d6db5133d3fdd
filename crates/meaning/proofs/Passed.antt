-- What an accepted line passed: no condition of 2 to 12 holds of it, and what that says of each of its fields.
use mathlib.Core.Path.{◌≡◌, refl}
use mathlib.Core.Bool.{Bool, not}
use mathlib.Core.List.{List, [], ◌∷◌}
use mathlib.Core.Option.{none}
use Prim.Native.Nat.{ℕ, zero, suc, ◌<◌}
use native.Mathlib.Nat.{le_of_suc-le-suc, not-suc-le-zero}
use lib.Dec.{T}
use lib.ListN.{length, get_or}
use Rattle.lists.specs.Lists.{Each, each_cons}
use Rattle.lists.proofs.Laws.{first_none}
use Rattle.lists.proofs.Tests.{or_split, not_not}
use Rattle.text.specs.Fields.{up_to, past, rest_at, field_at}
use Rattle.meaning.specs.Line.{Line, Form, edition, some_field, forms_of, in_form, in_range, tag_of}
use Rattle.meaning.specs.Refusals.{Before, Reason, illegible, unknown, misplaced, malformed, outside, no_date, not_later, too_soon, falling, too_many, miscounted, holds, order, refusal, is_malformed, is_outside}

-- the first of each, and the rest
pub each_head : {A : Type 0} {P : A → Type 0} {x : A} {xs : List A} → Each P (x ∷ xs) → P x
each_head (each_cons q r) = q

pub each_tail : {A : Type 0} {P : A → Type 0} {x : A} {xs : List A} → Each P (x ∷ xs) → Each P xs
each_tail (each_cons q r) = r

-- what holds of each in the order holds of every reason
pub each_reason : {Q : Reason → Type 0} → Each Q order → (y : Reason) → Q y
unfolding order
each_reason e illegible = each_head e
each_reason e unknown = each_head (each_tail e)
each_reason e misplaced = each_head (each_tail (each_tail e))
each_reason e malformed = each_head (each_tail (each_tail (each_tail e)))
each_reason e outside = each_head (each_tail (each_tail (each_tail (each_tail e))))
each_reason e no_date = each_head (each_tail (each_tail (each_tail (each_tail (each_tail e)))))
each_reason e not_later = each_head (each_tail (each_tail (each_tail (each_tail (each_tail (each_tail e))))))
each_reason e too_soon = each_head (each_tail (each_tail (each_tail (each_tail (each_tail (each_tail (each_tail e)))))))
each_reason e falling = each_head (each_tail (each_tail (each_tail (each_tail (each_tail (each_tail (each_tail (each_tail e))))))))
each_reason e too_many = each_head (each_tail (each_tail (each_tail (each_tail (each_tail (each_tail (each_tail (each_tail (each_tail e)))))))))
each_reason e miscounted = each_head (each_tail (each_tail (each_tail (each_tail (each_tail (each_tail (each_tail (each_tail (each_tail (each_tail e))))))))))

-- none of the reasons holds
pub passed : (b : Before) (l : Line) → refusal b l ≡ none → (y : Reason) → T (not (holds y b l))
unfolding refusal
passed b l e = each_reason (first_none (λ y. holds y b l) order e)

-- ---- each field passed its test
no_field : (fails : Form → List ℕ → Bool) (ms : List Form) (l : List ℕ) → T (not (some_field fails ms l)) → (k : ℕ) → k < length ms
    → T (not (fails (get_or ms k edition) (up_to (rest_at l k))))
unfolding some_field rest_at
no_field fails [] l t k h = absurd (not-suc-le-zero h)
no_field fails (m ∷ ms) l t zero h = (or_split (fails m (up_to l)) (some_field fails ms (past l)) t).0
no_field fails (m ∷ ms) l t (suc k) h = no_field fails ms (past l) (or_split (fails m (up_to l)) (some_field fails ms (past l)) t).1 k (le_of_suc-le-suc h)

field_after : (l : Line) (k : ℕ) → field_at l (suc k) ≡ up_to (rest_at (past l) k)
unfolding field_at rest_at
field_after l k = refl

-- the field after the k-th, from the tag on, is in its form, and its number within its range
pub in_form_lem : (b : Before) (l : Line) → refusal b l ≡ none → (k : ℕ) → k < length (forms_of (tag_of l)) → T (in_form (get_or (forms_of (tag_of l)) k edition) (field_at l (suc k)))
unfolding holds is_malformed
in_form_lem b l e k h =
    rw (field_after l k) (not_not (in_form (get_or (forms_of (tag_of l)) k edition) (up_to (rest_at (past l) k)))
    (no_field (λ m f. not (in_form m f)) (forms_of (tag_of l)) (past l) (passed b l e malformed) k h))

pub in_range_lem : (b : Before) (l : Line) → refusal b l ≡ none → (k : ℕ) → k < length (forms_of (tag_of l))
    → T (in_range b.history (get_or (forms_of (tag_of l)) k edition) (field_at l (suc k)))
unfolding holds is_outside
in_range_lem b l e k h =
    rw (field_after l k) (not_not (in_range b.history (get_or (forms_of (tag_of l)) k edition) (up_to (rest_at (past l) k)))
    (no_field (λ m f. not (in_range b.history m f)) (forms_of (tag_of l)) (past l) (passed b l e outside) k h))
