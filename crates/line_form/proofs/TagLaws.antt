-- Laws of tags.
use mathlib.Core.Path.{◌≡◌, refl, ap}
use mathlib.Core.Bool.{Bool, true, false, not, cond}
use Prim.Native.Nat.{ℕ, ◌+◌, ◌-◌, ◌≤◌}
use native.Mathlib.Omega.{arith}
use lib.Dec.{T, eqb, eqb→eq}
use Rattle.std.specs.Bool.{then_some}
use Rattle.text.specs.Fields.{up_to, tabs}
use Rattle.meaning.specs.Line.{Line, Tag, other, is, size, tag_of, tag_of_field}
use Rattle.meaning.specs.Refusals.{is_unknown}
use Rattle.line_form.specs.Tags.{known_tag}
use Rattle.line_form.specs.Views.{tag_view, known_view}
use Rattle.line_form.specs.declared.Tag as form
use Rattle.line_form.specs.declared.Tag.TheVariants.{S, C, X, D, P, B, R, E}
use Rattle.lists.proofs.Tests.{same}
use Rattle.lists.proofs.Reflect.{of_eq}
use Rattle.std.specs.Prelude.{Option, Some, None}

-- ---- the tag of a line, by that of its first field and by the number of its tabs
pub some_fields : (t : form.Tag) → 1 ≤ size (tag_view t)
some_fields S = omega arith
some_fields C = omega arith
some_fields X = omega arith
some_fields D = omega arith
some_fields P = omega arith
some_fields B = omega arith
some_fields R = omega arith
some_fields E = omega arith

pub untold : (l : Line) (o r : Option form.Tag) → o ≡ None → known_view o ≡ tag_of_field (up_to l) → r ≡ None → known_view r ≡ known_tag l
unfolding known_tag is_unknown tag_of
untold l o r p e q =
    let none : other ≡ tag_of_field (up_to l) = rw p at e in
    rw (q, ← none) (go (not (eqb (tabs l + 1) (size other))))
  where
    go : (b : Bool) → other ≡ cond b other other
    go true = refl
    go false = refl

pub told : (l : Line) (o r : Option form.Tag) (t : form.Tag) (n m : ℕ) → o ≡ Some t → known_view o ≡ tag_of_field (up_to l) → m ≡ size (tag_view t) → n ≡ tabs l → r ≡ then_some (eqb n (m - 1)) t
    → known_view r ≡ known_tag l
unfolding known_tag is_unknown tag_of
told l o r t n m p e pm pn q =
    let tag : tag_view t ≡ tag_of_field (up_to l) = rw p at e in
    rw (q, ← tag, pn, pm, one_fewer (tabs l) (size (tag_view t)) (some_fields t)) (go (eqb (tabs l + 1) (size (tag_view t))))
  where
    one_fewer : (a b : ℕ) → 1 ≤ b → eqb a (b - 1) ≡ eqb (a + 1) b
    one_fewer a b h = same (eqb a (b - 1)) (eqb (a + 1) b) (λ t. (of_eq (a + 1) b).1 (omega (arith, eqb→eq a (b - 1) t))) (λ t. (of_eq a (b - 1)).1 (omega (arith, eqb→eq (a + 1) b t)))

    go : (b : Bool) → known_view (then_some b t) ≡ cond (not b) other (tag_view t)
    go true = refl
    go false = refl

-- what the proof of the tag needs
pub ruleset tag_parts = (some_fields, untold)

-- ---- 3, by the known tag
-- a line with no known tag is unknown
pub unknown : (l : Line) → known_tag l ≡ other → is_unknown l ≡ true
unfolding known_tag is_unknown
unknown l e = go (tag_of l) (tabs l) e
  where
    go : (t : Tag) (n : ℕ) → cond (not (eqb (n + 1) (size t))) other t ≡ other → not (eqb (n + 1) (size t)) ≡ true
    go t n h = at t (eqb (n + 1) (size t)) refl h
      where
        at : (t : Tag) (b : Bool) → eqb (n + 1) (size t) ≡ b → cond (not b) other t ≡ other → not b ≡ true
        at t false q h = refl
        at t true q h = absurd (omega (arith, eqb→eq (n + 1) 0 (rw (← ap size h, q) tt)))

-- a line with a known tag has that tag, and is not unknown
pub known_tag_lem : (t : Tag) (l : Line) → known_tag l ≡ t → T (not (is t other)) → (tag_of l ≡ t) × (is_unknown l ≡ false)
unfolding known_tag
known_tag_lem t l e h = go (is_unknown l) refl e
  where
    go : (b : Bool) → is_unknown l ≡ b → cond b other (tag_of l) ≡ t → (tag_of l ≡ t) × (is_unknown l ≡ false)
    go true q r = absurd (rw (← r) at h)
    go false q r = (r, q)
