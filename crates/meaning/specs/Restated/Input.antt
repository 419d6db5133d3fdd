-- The lines of an input, in words: a line ends at its byte 10, or at the input's end (document 01, The printed sheet).
use Rattle.std.specs.Prelude.{◌≡◌, ◌≢◌, List, [], ◌∷◌, ◌++◌, ℕ}
use Rattle.lists.specs.Lists.{Each}
use Rattle.meaning.specs.Input.{lines_of}

pub record InputWords : Type 0 where
  pub none : lines_of [] ≡ []
  pub more : (l bs : List ℕ) → Each (λ b. b ≢ 10) l → lines_of (l ++ (10 ∷ bs)) ≡ l ∷ lines_of bs
  pub last : (b : ℕ) (l : List ℕ) → Each (λ x. x ≢ 10) (b ∷ l) → lines_of (b ∷ l) ≡ (b ∷ l) ∷ []
