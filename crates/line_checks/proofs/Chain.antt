-- The first check that holds gives the refusal, where each check equals its condition unless an earlier one holds.
use mathlib.Core.Path.{◌≡◌, refl, ap, sym, subst, ◌∙◌}
use Rattle.std.specs.Prelude.{Result, Ok, Err}
use Rattle.std.specs.Bool.{then_some}
use Rattle.std.specs.Result.{is_ok}
use mathlib.Core.Bool.{Bool, true, false, not, ◌&&◌, ◌||◌, cond}
use mathlib.Core.List.{List, [], ◌∷◌}
use mathlib.Core.Option.{Option, some, none}
use Prim.Native.Nat.{ℕ, zero, suc}
use native.Mathlib.Omega.{arith}
use lib.Dec.{T, eqb, ltb, eqb-suc-zero, eqb→eq}
use borrow.Author.Tests.{eq-eqb}
use Rattle.lists.specs.Lists.{first_of}
use Rattle.lists.proofs.Tests.{same, is_false}
use Rattle.meaning.specs.Filing.{Meter, no_meter}
use Rattle.meaning.specs.Line.{Line, Tag, S, C, X, E, is, tag_of, has_date_on}
use Rattle.meaning.specs.Refusals.{Before, Reason, illegible, unknown, misplaced, malformed, outside, no_date, not_later, too_soon, falling, too_many, miscounted, number_of, has_no_date, holds, order, refusal}
use Rattle.meaning.specs.File.{is_index_meter}
use Rattle.meaning.specs.Record.{misplaced_by}
use Rattle.meaning.proofs.Passed.{passed}
use Rattle.line_checks.specs.Before.{Known, is_not_later}
use Rattle.refusals.specs.declared.Refusal.{Refusal}
use Rattle.refusals.specs.declared.Refusal.TheVariants.{Misplaced, Malformed, Outside, NoDate, NotLater, TooSoon, Falling, TooMany, Miscounted}
use Rattle.refusals.specs.Refusals.{refused_if, of_reason, unless_reason}
use Rattle.calendar.specs.declared.Date.{Date}
use Rattle.line_form.specs.Ranges.{no_date_for}
use Rattle.line_checks.specs.Places.{key_for, dated_checks}
use Rattle.line_checks.specs.Order.{Checks, asked, first_refusal, and_then, in_order, rising_checks, is_misplaced}

-- ---- the refusal by the checks in order, and what is told where none holds
abbrev pub in_turn : {A : Type 0} → Checks → A → Result A Refusal
in_turn c a =
    cond c.misplaced (Err Misplaced) (cond c.malformed (Err Malformed) (cond c.outside (Err Outside) (cond c.no_date (Err NoDate) (cond c.not_later (Err NotLater)
    (cond c.too_soon (Err TooSoon) (cond c.falling (Err Falling) (cond c.too_many (Err TooMany) (cond c.miscounted (Err Miscounted) (Ok a)))))))))

by_cond : {A : Type 0} (b : Bool) (y : Reason) (o : Option Reason) (a : A) → unless_reason (cond b (some y) o) a ≡ cond b (Err (of_reason y)) (unless_reason o a)
unfolding unless_reason
by_cond true y o a = refl
by_cond false y o a = refl

pub first_is : {A : Type 0} (c : Checks) (a : A) → unless_reason (first_refusal c) a ≡ in_turn c a
unfolding first_refusal first_of order asked of_reason unless_reason
first_is c a =
    rw (
      by_cond c.misplaced misplaced _ a,
      by_cond c.malformed malformed _ a,
      by_cond c.outside outside _ a,
      by_cond c.no_date no_date _ a,
      by_cond c.not_later not_later _ a,
      by_cond c.too_soon too_soon _ a,
      by_cond c.falling falling _ a,
      by_cond c.too_many too_many _ a,
      by_cond c.miscounted miscounted _ a,
    )

-- ---- two tests that agree wherever no earlier one holds find the same
pub agree : {A : Type 0} (f g : A → Bool) (x : A) (xs : List A) → f x ≡ g x → (f x ≡ false → first_of f xs ≡ first_of g xs) → first_of f (x ∷ xs) ≡ first_of g (x ∷ xs)
unfolding first_of
agree f g x xs e r = rw (← e) (go (f x) refl)
  where
    go : (b : Bool) → f x ≡ b → cond b (some x) (first_of f xs) ≡ cond b (some x) (first_of g xs)
    go true q = refl
    go false q = r q

-- each check is the condition of its number; outside their ranges, or without a date, the numbers in the code need not be the line's
pub record Asks (b : Before) (l : Line) (c : Checks) : Type 0 where
  pub misplaced_is : holds misplaced b l ≡ c.misplaced
  pub malformed_is : holds malformed b l ≡ c.malformed
  pub outside_is : holds outside b l ≡ c.outside
  pub date_is : holds outside b l ≡ false → holds no_date b l ≡ c.no_date
  pub later_is : holds outside b l ≡ false → holds no_date b l ≡ false → holds not_later b l ≡ c.not_later
  pub soon_is : holds outside b l ≡ false → holds too_soon b l ≡ c.too_soon
  pub falling_is : holds outside b l ≡ false → holds falling b l ≡ c.falling
  pub excess_is : holds too_many b l ≡ c.too_many
  pub count_is : holds outside b l ≡ false → holds miscounted b l ≡ c.miscounted

pub chain : (t : Tag) (b : Before) (l : Line) (c : Checks) → Known t l → Asks b l c → refusal b l ≡ first_of (asked c) order
unfolding refusal order asked holds
chain t b l c k a =
    at illegible _ k.legible (λ _.
    at unknown _ k.known (λ _.
    at misplaced _ a.misplaced_is (λ _.
    at malformed _ a.malformed_is (λ _.
    at outside _ a.outside_is (λ o.
    at no_date _ (a.date_is o) (λ d.
    at not_later _ (a.later_is o d) (λ _.
    at too_soon _ (a.soon_is o) (λ _.
    at falling _ (a.falling_is o) (λ _.
    at too_many _ a.excess_is (λ _.
    at miscounted [] (a.count_is o) (λ _. end)))))))))))
  where
    at : (y : Reason) (ys : List Reason) → holds y b l ≡ asked c y → (holds y b l ≡ false → first_of (λ x. holds x b l) ys ≡ first_of (asked c) ys)
        → first_of (λ x. holds x b l) (y ∷ ys) ≡ first_of (asked c) (y ∷ ys)
    at y ys = agree (λ x. holds x b l) (asked c) y ys

    end : first_of (λ x. holds x b l) [] ≡ first_of (asked c) []
    end = unfold first_of in refl

-- ---- the checks in steps: 4 and 5, then 6, 7 and 8
pub first_two : {A B : Type 0} (m f : Bool) (x : A) (g : A → Result B Refusal) → cond m (Err Misplaced) (cond (not f) (Err Malformed) (g x)) ≡ and_then (in_order m (then_some f x)) g
unfolding in_order
first_two true f x g = refl
first_two false true x g = refl
first_two false false x g = refl

pub next_one : {A : Type 0} (b : Bool) (y : Refusal) (r : Result A Refusal) → cond b (Err y) r ≡ and_then (refused_if b y) (λ _. r)
unfolding refused_if
next_one true y r = refl
next_one false y r = refl

pub next_three : {A : Type 0} (o d : Bool) (last k : ℕ) (r : Result A Refusal)
    → cond o (Err Outside) (cond d (Err NoDate) (cond (is_not_later last k) (Err NotLater) r)) ≡ and_then (rising_checks o d last k) (λ _. r)
unfolding rising_checks refused_if
next_three true d last k r = refl
next_three false true last k r = refl
next_three false false last k r = next_one (is_not_later last k) NotLater r

-- a step whose value the rest takes
then_ok : {A B C : Type 0} (r : Result A Refusal) (x : B) (g : B → Result C Refusal) → and_then r (λ _. g x) ≡ and_then (and_then r (λ _. Ok x)) g
then_ok (Ok a) x g = refl
then_ok (Err y) x g = refl

pub next_dated : {A : Type 0} (o winter : Bool) (d : Date) (last : ℕ) (g : ℕ → Result A Refusal) (r : Result A Refusal) → r ≡ g (key_for d.year d.month d.day)
    → cond o (Err Outside) (cond (no_date_for winter d.year d.month d.day) (Err NoDate) (cond (is_not_later last (key_for d.year d.month d.day)) (Err NotLater) r))
    ≡ and_then (dated_checks o winter d last) g
unfolding dated_checks
next_dated o winter d last g r e =
    let v = key_for d.year d.month d.day in
    let n = no_date_for winter d.year d.month d.day in
    next_three o n last v r ∙ ap (λ q. and_then (rising_checks o n last v) (λ _. q)) e ∙ then_ok (rising_checks o n last v) v g

pub after_two : {A B : Type 0} (m f : Bool) (x : A) (g : A → Result B Refusal) (r : Result B Refusal) → r ≡ g x
    → cond m (Err Misplaced) (cond (not f) (Err Malformed) r) ≡ and_then (in_order m (then_some f x)) g
after_two m f x g r e = ap (λ q. cond m (Err Misplaced) (cond (not f) (Err Malformed) q)) e ∙ first_two m f x g

-- the result of a line, from its checks
pub told : {A : Type 0} (t : Tag) (b : Before) (l : Line) (c : Checks) (a : A) → Known t l → Asks b l c → unless_reason (refusal b l) a ≡ in_turn c a
unfolding first_refusal
told t b l c a k s = ap (λ (o : Option Reason). unless_reason o a) (chain t b l c k s) ∙ first_is c a

-- what is told of an accepted line alone
pub told_same : {A : Type 0} (o : Option Reason) (a d : A) → (o ≡ none → a ≡ d) → unless_reason o a ≡ unless_reason o d
unfolding unless_reason
told_same none a d e = rw (e refl)
told_same (some y) a d e = refl

-- ---- what a result says about the refusal
ok_in : {A : Type 0} → A → Result A Refusal → A
ok_in d (Ok x) = x
ok_in d (Err y) = d

err_in : {A : Type 0} → Refusal → Result A Refusal → Refusal
err_in d (Ok x) = d
err_in d (Err y) = y

pub told_ok : {A : Type 0} (o : Option Reason) (a d : A) → Ok d ≡ unless_reason o a → (o ≡ none) × (d ≡ a)
unfolding unless_reason ok_in
told_ok none a d e = (refl, ap (ok_in d) e)
told_ok (some y) a d e = absurd (subst T (ap is_ok e) tt)

pub told_err : {A : Type 0} (o : Option Reason) (a : A) (d : Refusal) → Err d ≡ unless_reason o a → (y : Reason) × (o ≡ some y) × (d ≡ of_reason y)
unfolding unless_reason err_in
told_err none a d e = absurd (subst T (sym (ap is_ok e)) tt)
told_err (some y) a d e = (y, refl, ap (err_in d) e)

-- ---- no refusal has number 0
pub number_above : (y : Reason) → number_of y ≡ 0 → ⊥
unfolding number_of
number_above illegible e = omega arith
number_above unknown e = omega arith
number_above misplaced e = omega arith
number_above malformed e = omega arith
number_above outside e = omega arith
number_above no_date e = omega arith
number_above not_later e = omega arith
number_above too_soon e = omega arith
number_above falling e = omega arith
number_above too_many e = omega arith
number_above miscounted e = omega arith

-- where there is no refusal no condition holds
pub clear : (b : Before) (l : Line) → refusal b l ≡ none → (y : Reason) → holds y b l ≡ false
clear b l e y = is_false (holds y b l) (passed b l e y)

-- ---- 4 by ranks
eqb_sym : (m n : ℕ) → eqb m n ≡ eqb n m
eqb_sym m n = same (eqb m n) (eqb n m) (λ t. rw (eq-eqb n m (sym (eqb→eq m n t))) tt) (λ t. rw (eq-eqb m n (sym (eqb→eq n m t))) tt)

or_and_false : (a b : Bool) → (a || (b && false)) ≡ a
or_and_false true b = refl
or_and_false false true = refl
or_and_false false false = refl

-- C is also misplaced in an I file
pub misplaced_other : (last : ℕ) (m : Meter) (t : Tag) → is S t ≡ false → misplaced_by last m t ≡ (is_misplaced last t || (is C t && is_index_meter m))
unfolding misplaced_by is_misplaced
misplaced_other zero m t s = rw s
misplaced_other (suc n) m t s = rw (s, eqb-suc-zero n, eqb_sym 8 (suc n))

pub misplaced_rank : (last : ℕ) (t : Tag) → is S t ≡ false → misplaced_by last no_meter t ≡ is_misplaced last t
misplaced_rank last t s = misplaced_other last no_meter t s ∙ or_and_false (is_misplaced last t) (is C t)

pub barred_first : (last : ℕ) (m : Meter) → misplaced_by last m S ≡ not (eqb last 0)
unfolding misplaced_by
barred_first zero m = refl
barred_first (suc n) m = rw (eqb-suc-zero n, or_true (ltb 1 (suc n)))
  where
    or_true : (b : Bool) → (b || true) ≡ true
    or_true true = refl
    or_true false = refl

-- ---- conditions that hold for no line of a tag
module _ (b : Before) (l : Line) (t : Tag) (u : tag_of l ≡ t) where
  pub needs_no_date : has_date_on t ≡ false → holds no_date b l ≡ false
  unfolding holds has_no_date
  needs_no_date h = rw (u, h)

  pub never_soon : is S t ≡ false → holds too_soon b l ≡ false
  unfolding holds
  never_soon h = rw (u, h)

  pub never_falling : is X t ≡ false → holds falling b l ≡ false
  unfolding holds
  never_falling h = rw (u, h)

  pub never_many : is X t ≡ false → holds too_many b l ≡ false
  unfolding holds
  never_many h = rw (u, h)

  pub no_count : is E t ≡ false → holds miscounted b l ≡ false
  unfolding holds
  no_count h = rw (u, h)
