-- The tables are document 01's.
use mathlib.Core.Path.{◌≡◌, refl, ap, sym, ◌∙◌}
use mathlib.Core.Logic.{◌≢◌, ◌↔◌}
use mathlib.Core.Bool.{Bool, true, false, not, cond}
use mathlib.Core.List.{List, [], ◌∷◌}
use Prim.Native.Nat.{ℕ, ◌+◌}
use lib.Dec.{T, eqb}
use lib.ListN.{get_or, length}
use borrow.Author.Tests.{eqb-true}
use Rattle.lists.proofs.Reflect.{of_eq}
use Rattle.lists.proofs.Tests.{both_not}
use Rattle.text.specs.Fields.{up_to, rest_at, field_at}
use Rattle.meaning.specs.Line.{Line, Tag, S, C, X, D, P, B, R, E, other, rank, is, tag_of_letter, tag_of_field, tag_of, size, forms_of}
use Rattle.meaning.specs.Refusals.{number_of}
use Rattle.meaning.specs.Closing.{close_number}
use Rattle.meaning.specs.Restated.Tables.{NumberWords, TagWords}

pub number_words : NumberWords
unfolding number_of close_number forms_of
number_words = record { line = refl; close = refl; fields = refl; forms = sized }
  where
    sized : (t : Tag) → t ≢ other → size t ≡ length (forms_of t) + 1
    sized S n = refl
    sized C n = refl
    sized X n = refl
    sized D n = refl
    sized P n = refl
    sized B n = refl
    sized R n = refl
    sized E n = refl
    sized other n = absurd (n refl)

-- ---- a tag is known by its rank
by_rank : ℕ → Tag
by_rank n = get_or (other ∷ S ∷ C ∷ X ∷ D ∷ P ∷ B ∷ R ∷ E ∷ []) n other

rank_back : (t : Tag) → by_rank (rank t) ≡ t
unfolding by_rank
rank_back S = refl
rank_back C = refl
rank_back X = refl
rank_back D = refl
rank_back P = refl
rank_back B = refl
rank_back R = refl
rank_back E = refl
rank_back other = refl

pub of_is : (k t : Tag) → T (is k t) ↔ (t ≡ k)
of_is k t = (λ s. sym (rank_back t) ∙ ap by_rank (sym ((of_eq (rank k) (rank t)).0 s)) ∙ rank_back k, λ e. (of_eq (rank k) (rank t)).1 (ap rank (sym e)))

-- ---- letters
letter : Tag → ℕ
letter t = get_or (0 ∷ 83 ∷ 67 ∷ 88 ∷ 68 ∷ 80 ∷ 66 ∷ 82 ∷ 69 ∷ []) (rank t) 0

-- of eight letters tried in order, the one that fits is the tag's own
letter_is : (t : Tag) → t ≢ other → (b : ℕ) → tag_of_letter b ≡ t → b ≡ letter t
unfolding tag_of_letter letter
letter_is t n b e =
    try 83 S refl (cond (eqb b 67) C (cond (eqb b 88) X (cond (eqb b 68) D (cond (eqb b 80) P (cond (eqb b 66) B (cond (eqb b 82) R (cond (eqb b 69) E other)))))))
    (try 67 C refl (cond (eqb b 88) X (cond (eqb b 68) D (cond (eqb b 80) P (cond (eqb b 66) B (cond (eqb b 82) R (cond (eqb b 69) E other))))))
    (try 88 X refl (cond (eqb b 68) D (cond (eqb b 80) P (cond (eqb b 66) B (cond (eqb b 82) R (cond (eqb b 69) E other)))))
    (try 68 D refl (cond (eqb b 80) P (cond (eqb b 66) B (cond (eqb b 82) R (cond (eqb b 69) E other))))
    (try 80 P refl (cond (eqb b 66) B (cond (eqb b 82) R (cond (eqb b 69) E other)))
    (try 66 B refl (cond (eqb b 82) R (cond (eqb b 69) E other))
    (try 82 R refl (cond (eqb b 69) E other) (try 69 E refl other (λ k. absurd (n (sym k))))))))))
    e
  where
    try : (a : ℕ) (u : Tag) → a ≡ letter u → (rest : Tag) → (rest ≡ t → b ≡ letter t) → cond (eqb b a) u rest ≡ t → b ≡ letter t
    try a u h rest r k = go (eqb b a) refl k
      where
        go : (c : Bool) → eqb b a ≡ c → cond c u rest ≡ t → b ≡ letter t
        go true q k = eqb-true b a q ∙ h ∙ ap letter k
        go false q k = r k

letter_of : (t : Tag) → t ≢ other → tag_of_letter (letter t) ≡ t
unfolding tag_of_letter letter
letter_of S n = refl
letter_of C n = refl
letter_of X n = refl
letter_of D n = refl
letter_of P n = refl
letter_of B n = refl
letter_of R n = refl
letter_of E n = refl
letter_of other n = absurd (n refl)

tag_letter : (t : Tag) → t ≢ other → (f : List ℕ) → (tag_of_field f ≡ t) ↔ (f ≡ letter t ∷ [])
unfolding tag_of_field
tag_letter t n f = (one f, λ e. ap tag_of_field e ∙ letter_of t n)
  where
    one : (f : List ℕ) → tag_of_field f ≡ t → f ≡ letter t ∷ []
    one [] e = absurd (n (sym e))
    one (b ∷ []) e = ap (λ (x : ℕ). x ∷ []) (letter_is t n b e)
    one (b ∷ c ∷ g) e = absurd (n (sym e))

-- a rank is not 0
apart : (t : Tag) → T (not (eqb (rank t) 0)) → t ≢ other
apart t h e = both_not (eqb (rank t) 0) ((of_eq (rank t) 0).1 (ap rank e)) h

pub tag_words : (l : Line) → TagWords l
unfolding tag_of field_at rest_at letter
tag_words l = record {
  s = tag_letter S (apart S tt) (up_to l);
  c = tag_letter C (apart C tt) (up_to l);
  x = tag_letter X (apart X tt) (up_to l);
  d = tag_letter D (apart D tt) (up_to l);
  p = tag_letter P (apart P tt) (up_to l);
  b = tag_letter B (apart B tt) (up_to l);
  r = tag_letter R (apart R tt) (up_to l);
  e = tag_letter E (apart E tt) (up_to l);
}
