-- The NCC that a run prints lies within the bound of demand 3: the text of a level is read back field by field.
use mathlib.Core.Path.{◌≡◌, refl, ap, sym, ◌∙◌}
use mathlib.Core.List.{List, [], ◌∷◌, ◌++◌, append_assoc, map}
use Prim.Native.Nat.{ℕ, ◌≤◌}
use native.Mathlib.Omega.{arith}
use Rattle.lists.specs.Lists.{Each, each_nil, each_cons, flat}
use Rattle.text.specs.Fields.{field_at, up_to, past}
use Rattle.text.specs.Numbers.{value_of}
use Rattle.text.proofs.Laws.{up_joined, field_first, field_next}
use Rattle.text.specs.Digits.{digits_of}
use Rattle.text.proofs.Digits.{digits_each, value_digits}
use Rattle.meaning.specs.Line.{Line, number_at}
use Rattle.meaning.specs.Input.{lines_of}
use Rattle.meaning.specs.File.{filing_in}
use Rattle.meaning.specs.Level.{lowest_rate}
use Rattle.demands.specs.Exact.{exact_fraction}
use Rattle.meaning.specs.Text.{tabbed, level_text, level_line, year_line, refusal_line, text_of}
use Rattle.meaning.specs.Sheet.{Sheet, refused_sheet, level, sheet_of}
use Rattle.demands.specs.Demands.{Within}
use Rattle.pieces.specs.Promise.{NccBounded}
use Rattle.pieces.proofs.Pieces.{pieces_text}
use Rattle.pieces.proofs.Levels.{level_bounded}

no_tab : {l : List ℕ} → Each (λ b. (48 ≤ b) × (b ≤ 57)) l → Each (λ b. b ≡ 9 → ⊥) l
no_tab each_nil = each_nil
no_tab (each_cons {x = x} h r) = each_cons (λ (e : x ≡ 9). omega (arith, h)) (no_tab r)

-- ---- a number after a tab
digits_first : (n : ℕ) (l : List ℕ) → up_to (digits_of n ++ (9 ∷ l)) ≡ digits_of n
digits_first n l = (up_joined (digits_of n) l (no_tab (digits_each n))).0

digits_past : (n : ℕ) (l : List ℕ) → past (digits_of n ++ (9 ∷ l)) ≡ l
digits_past n l = (up_joined (digits_of n) l (no_tab (digits_each n))).1

one_letter : (b : ℕ) (l : List ℕ) → (b ≡ 9 → ⊥) → (up_to ((b ∷ []) ++ (9 ∷ l)) ≡ b ∷ []) × (past ((b ∷ []) ++ (9 ∷ l)) ≡ l)
one_letter b l h = up_joined (b ∷ []) l (each_cons h each_nil)

-- ---- the third number of an N line
level_parts : (al f n k : ℕ) (l : List ℕ)
    → level_text al f n k ++ l ≡ (78 ∷ []) ++ (9 ∷ (digits_of al ++ (9 ∷ (digits_of f ++ (9 ∷ (digits_of n ++ (9 ∷ (digits_of k ++ (10 ∷ l)))))))))
unfolding level_text tabbed
level_parts al f n k l = simp append_assoc

third : (x : List ℕ) (a f n : ℕ) (l : List ℕ) → x ≡ (78 ∷ []) ++ (9 ∷ (digits_of a ++ (9 ∷ (digits_of f ++ (9 ∷ (digits_of n ++ (9 ∷ l)))))))
    → number_at x 3 ≡ n
unfolding number_at
third x a f n l e =
    let p1 : past x ≡ digits_of a ++ (9 ∷ (digits_of f ++ (9 ∷ (digits_of n ++ (9 ∷ l))))) = ap past e ∙ (one_letter 78 _ (λ z. omega arith)).1 in
    let p2 : past (past x) ≡ digits_of f ++ (9 ∷ (digits_of n ++ (9 ∷ l))) = ap past p1 ∙ digits_past a _ in
    let p3 : past (past (past x)) ≡ digits_of n ++ (9 ∷ l) = ap past p2 ∙ digits_past f _ in
    ap value_of (field_next x 2 ∙ field_next (past x) 1 ∙ field_next (past (past x)) 0 ∙ field_first (past (past (past x))) ∙ ap up_to p3 ∙ digits_first n l)
    ∙ value_digits n

-- ---- by what the sheet is
not_level : (n c : ℕ) → field_at (refusal_line n c) 0 ≡ 78 ∷ [] → ⊥
unfolding refusal_line tabbed
not_level n c e =
    let q : ◌≡◌ {A = List ℕ} (90 ∷ []) (78 ∷ []) = sym (one_letter 90 _ (λ z. omega arith)).0 ∙ sym (field_first _) ∙ e in
    let z : ◌≡◌ {A = ℕ} 90 78 = cc in
    absurd (omega arith)

Shown : Sheet → List Line → Type 0
Shown x ls = field_at (text_of x) 0 ≡ 78 ∷ [] → Within 3 1 (lowest_rate (filing_in ls)) (number_at (text_of x) 3) (exact_fraction (filing_in ls))

by_sheet : (x : Sheet) (bs : List ℕ) → sheet_of (lines_of bs) ≡ x → Shown x (lines_of bs)
unfolding Shown text_of level_line
by_sheet (refused_sheet n c) bs e h = absurd (not_level n c h)
by_sheet (level r) bs e h =
    rw (third _ r.al r.filiere r.level _ (level_parts r.al r.filiere r.level r.points (flat (map year_line r.years)))) (level_bounded bs r e)

-- on the sheet of an input
pub ncc_shown : (bs : List ℕ) → field_at (text_of (sheet_of (lines_of bs))) 0 ≡ 78 ∷ []
    → Within 3 1 (lowest_rate (filing_in (lines_of bs))) (number_at (text_of (sheet_of (lines_of bs))) 3) (exact_fraction (filing_in (lines_of bs)))
unfolding Shown
ncc_shown bs = by_sheet (sheet_of (lines_of bs)) bs refl

-- in the text of a run
pub ncc_bounded : NccBounded
ncc_bounded s w t ps = rw (pieces_text s w t ps) (ncc_shown (flat ps))
