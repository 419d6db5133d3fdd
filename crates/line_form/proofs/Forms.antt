-- Laws of forms: the fields of a line one by one.
use mathlib.Core.Path.{◌≡◌, refl, ap, sym, ◌∙◌}
use mathlib.Core.Bool.{Bool, true, false, not, ◌&&◌, ◌||◌}
use mathlib.Core.List.{List, [], ◌∷◌}
use Prim.Native.Nat.{ℕ, zero, suc}
use lib.ListN.{replicate}
use Rattle.lists.proofs.Tests.{and_true, and_assoc}
use Rattle.text.specs.Fields.{up_to, past, rest_at, field_at, reads, edition}
use Rattle.text.specs.Numbers.{is_number}
use Rattle.meaning.specs.Line.{Line, Tag, S, X, D, B, R, E, Form, forms_of, in_form, some_field, tag_of, meter_of, is_meter, kind_of, is_kind}
use Rattle.meaning.specs.Refusals.{is_malformed}
use Rattle.line_form.specs.Reads.{in_forms, is_formed, is_date_formed}

-- ---- one more field, at the front and at the end
pub in_forms_cons : (m : Form) (ms : List Form) (t : List ℕ) → in_forms (m ∷ ms) t ≡ (in_form m (up_to t) && in_forms ms (past t))
unfolding in_forms some_field
in_forms_cons m ms t = go (in_form m (up_to t)) (some_field (λ k f. not (in_form k f)) ms (past t))
  where
    go : (a b : Bool) → not (not a || b) ≡ (a && not b)
    go true b = refl
    go false b = refl

in_forms_nil : (t : List ℕ) → in_forms [] t ≡ true
unfolding in_forms some_field
in_forms_nil t = refl

pub in_forms_snoc : (k : ℕ) (m : Form) (t : List ℕ) → in_forms (replicate (suc k) m) t ≡ (in_forms (replicate k m) t && in_form m (field_at t k))
unfolding field_at rest_at
in_forms_snoc zero m t = in_forms_cons m [] t ∙ rw (in_forms_nil (past t), in_forms_nil t) (and_true (in_form m (up_to t)))
in_forms_snoc (suc k) m t =
    in_forms_cons m (replicate (suc k) m) t ∙ ap (λ (b : Bool). in_form m (up_to t) && b) (in_forms_snoc k m (past t))
    ∙ sym (and_assoc (in_form m (up_to t)) (in_forms (replicate k m) (past t)) (in_form m (field_at (past t) k)))
    ∙ ap (λ (b : Bool). b && in_form m (field_at (past t) k)) (sym (in_forms_cons m (replicate k m) t))

-- ---- 5, by whether each field is in its form for the tag
pub malformed : (t : Tag) (l : Line) → tag_of l ≡ t → is_malformed l ≡ not (is_formed t l)
unfolding is_malformed is_formed in_forms
malformed t l e = rw e (sym (twice (some_field (λ m f. not (in_form m f)) (forms_of t) (past l))))
  where
    twice : (b : Bool) → not (not b) ≡ b
    twice true = refl
    twice false = refl

-- ---- the fields of each tag
pub formed_site : (l : Line) → is_formed S l ≡ (reads (field_at l 1) edition && (is_number (field_at l 2) && (is_number (field_at l 3) && (is_meter (meter_of (field_at l 4)) && is_number (field_at l 5)))))
unfolding is_formed forms_of in_form field_at rest_at edition
formed_site l =
    let t1 = past l in
    let t2 = past t1 in
    let t3 = past t2 in
    let t4 = past t3 in
    let t5 = past t4 in
    rw (in_forms_cons _ _ t1, in_forms_cons _ _ t2, in_forms_cons _ _ t3, in_forms_cons _ _ t4, in_forms_cons _ [] t5, in_forms_nil (past t5), and_true (is_number (up_to t5)))

pub formed_year : (l : Line) → is_formed B l ≡ is_number (field_at l 1)
unfolding is_formed forms_of in_form field_at rest_at
formed_year l = rw (in_forms_cons _ [] (past l), in_forms_nil (past (past l))) (and_true (is_number (up_to (past l))))

pub formed_rate : (l : Line) → is_formed R l ≡ (is_number (field_at l 1) && is_number (field_at l 2))
unfolding is_formed forms_of in_form field_at rest_at
formed_rate l = let t1 = past l in let t2 = past t1 in rw (in_forms_cons _ _ t1, in_forms_cons _ [] t2, in_forms_nil (past t2), and_true (is_number (up_to t2)))

pub formed_count : (l : Line) → is_formed E l ≡ is_number (field_at l 1)
unfolding is_formed forms_of in_form field_at rest_at
formed_count l = rw (in_forms_cons _ [] (past l), in_forms_nil (past (past l))) (and_true (is_number (up_to (past l))))

-- year, month and day, then the rest
pub dated : (y m d : Form) (ms : List Form) (l : Line)
    → in_forms (y ∷ m ∷ d ∷ ms) (past l) ≡ ((in_form y (field_at l 1) && (in_form m (field_at l 2) && in_form d (field_at l 3))) && in_forms ms (rest_at l 4))
unfolding field_at rest_at
dated y m d ms l =
    let t1 = past l in
    let t2 = past t1 in
    let t3 = past t2 in
    rw (in_forms_cons y (m ∷ d ∷ ms) t1, in_forms_cons m (d ∷ ms) t2, in_forms_cons d ms t3)
    (go (in_form y (up_to t1)) (in_form m (up_to t2)) (in_form d (up_to t3)) (in_forms ms (past t3)))
  where
    go : (a b c r : Bool) → (a && (b && (c && r))) ≡ ((a && (b && c)) && r)
    go true true c r = refl
    go true false c r = refl
    go false b c r = refl

pub formed_reading : (l : Line) → is_formed X l ≡ (is_date_formed l && (is_number (field_at l 4) && is_kind (kind_of (field_at l 5))))
unfolding is_formed forms_of in_form is_date_formed field_at rest_at
formed_reading l =
    let t4 = rest_at l 4 in
    dated _ _ _ _ l ∙ ap (λ (b : Bool). is_date_formed l && b)
    (in_forms_cons _ _ t4 ∙ ap (λ (b : Bool). is_number (up_to t4) && b) (in_forms_cons _ [] (past t4) ∙ rw (in_forms_nil (past (past t4))) (and_true (is_kind (kind_of (up_to (past t4)))))))

pub formed_daily : (l : Line) → is_formed D l ≡ (is_date_formed l && is_number (field_at l 4))
unfolding is_formed forms_of in_form is_date_formed field_at rest_at
formed_daily l =
    let t4 = rest_at l 4 in
    dated _ _ _ _ l ∙ ap (λ (b : Bool). is_date_formed l && b) (in_forms_cons _ [] t4 ∙ rw (in_forms_nil (past t4)) (and_true (is_number (up_to t4))))
