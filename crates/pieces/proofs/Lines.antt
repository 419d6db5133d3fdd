-- The lines of an input whose first bytes are pending.
use mathlib.Core.Path.{◌≡◌, refl, ap, ◌∙◌}
use mathlib.Core.Logic.{◌≢◌}
use mathlib.Core.List.{List, [], ◌∷◌, ◌++◌}
use Prim.Native.Nat.{ℕ}
use Rattle.lists.specs.Lists.{Each, each_nil, each_cons}
use Rattle.meaning.specs.Line.{Line}
use Rattle.meaning.specs.Input.{ahead, lines_of}
use Rattle.meaning.proofs.Lines.{lines_next}

-- no byte ends the line
abbrev pub Endless : Line → Type 0
Endless l = Each (λ b. b ≢ 10) l

pub endless_more : (b : ℕ) {l : Line} → Endless l → b ≢ 10 → Endless (l ++ (b ∷ []))
endless_more b each_nil h = each_cons h each_nil
endless_more b (each_cons x r) h = each_cons x (endless_more b r h)

-- bytes in front of the first line
unfoldable pub joined : Line → List Line → List Line
joined c [] = c ∷ []
joined c (l ∷ ls) = (c ++ l) ∷ ls

ahead_first : (b : ℕ) (ls : List Line) → ahead b ls ≡ joined (b ∷ []) ls
unfolding ahead joined
ahead_first b [] = refl
ahead_first b (l ∷ ls) = refl

ahead_joined : (b : ℕ) (c : Line) (ls : List Line) → ahead b (joined c ls) ≡ joined (b ∷ c) ls
unfolding ahead joined
ahead_joined b c [] = refl
ahead_joined b c (l ∷ ls) = refl

pub lines_begun : (b : ℕ) (c : Line) (bs : List ℕ) → Endless (b ∷ c) → lines_of ((b ∷ c) ++ bs) ≡ joined (b ∷ c) (lines_of bs)
lines_begun b [] bs (each_cons h r) = lines_next b bs h ∙ ahead_first b (lines_of bs)
lines_begun b (d ∷ c) bs (each_cons h r) =
    lines_next b ((d ∷ c) ++ bs) h ∙ ap (ahead b) (lines_begun d c bs r) ∙ ahead_joined b (d ∷ c) (lines_of bs)
