-- The lines of an input are what the words say.
use mathlib.Core.Path.{◌≡◌, refl, ap, ◌∙◌}
use mathlib.Core.Logic.{◌≢◌}
use mathlib.Core.List.{List, [], ◌∷◌, ◌++◌}
use Prim.Native.Nat.{ℕ}
use Rattle.lists.specs.Lists.{Each, each_nil, each_cons}
use Rattle.meaning.specs.Input.{ahead, lines_of}
use Rattle.meaning.specs.Restated.Input.{InputWords}
use Rattle.meaning.proofs.Lines.{lines_next}

ten : (bs : List ℕ) → lines_of (10 ∷ bs) ≡ [] ∷ lines_of bs
unfolding lines_of
ten bs = refl

lines_more : (bs : List ℕ) {l : List ℕ} → Each (λ b. b ≢ 10) l → lines_of (l ++ (10 ∷ bs)) ≡ l ∷ lines_of bs
unfolding ahead
lines_more bs each_nil = ten bs
lines_more bs (each_cons {x = b} {xs = l} h r) = lines_next b (l ++ (10 ∷ bs)) h ∙ ap (ahead b) (lines_more bs r)

lines_last : (b : ℕ) (l : List ℕ) → Each (λ x. x ≢ 10) (b ∷ l) → lines_of (b ∷ l) ≡ (b ∷ l) ∷ []
unfolding ahead lines_of
lines_last b [] (each_cons h r) = lines_next b [] h
lines_last b (d ∷ l) (each_cons h r) = lines_next b (d ∷ l) h ∙ ap (ahead b) (lines_last d l r)

pub input_words : InputWords
unfolding lines_of
input_words = record { none = refl; more = λ l bs e. lines_more bs e; last = lines_last }
