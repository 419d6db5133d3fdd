-- The refusals' numbers and each tag's letter and fields, as document 01 lists them.
use Rattle.std.specs.Prelude.{◌≡◌, ◌≢◌, ◌↔◌, [], ◌∷◌, map, ℕ, ◌+◌, length}
use Rattle.text.specs.Fields.{field_at}
use Rattle.meaning.specs.Line.{Line, Tag, S, C, X, D, P, B, R, E, other, tag_of, size, forms_of}
use Rattle.meaning.specs.Refusals.{illegible, unknown, misplaced, malformed, outside, no_date, not_later, too_soon, falling, too_many, miscounted, number_of}
use Rattle.meaning.specs.Closing.{no_end, partial, no_data, zero_total, too_high, close_number}

pub record NumberWords : Type 0 where
  pub line :
      map number_of (illegible ∷ unknown ∷ misplaced ∷ malformed ∷ outside ∷ no_date ∷ not_later ∷ too_soon ∷ falling ∷ too_many ∷ miscounted ∷ [])
      ≡ 2 ∷ 3 ∷ 4 ∷ 5 ∷ 6 ∷ 7 ∷ 8 ∷ 9 ∷ 10 ∷ 11 ∷ 12 ∷ []
  pub close : map close_number (no_end ∷ partial ∷ no_data ∷ zero_total ∷ too_high ∷ []) ≡ 14 ∷ 15 ∷ 16 ∷ 17 ∷ 18 ∷ []
  -- fields, the tag included
  pub fields : map size (S ∷ C ∷ X ∷ D ∷ P ∷ B ∷ R ∷ E ∷ []) ≡ 6 ∷ 24 ∷ 6 ∷ 5 ∷ 24 ∷ 2 ∷ 3 ∷ 2 ∷ []
  pub forms : (t : Tag) → t ≢ other → size t ≡ length (forms_of t) + 1

-- a tag is one letter, the whole first field
abbrev pub Letter : ℕ → Line → Type 0
Letter b l = field_at l 0 ≡ b ∷ []

pub record TagWords (l : Line) : Type 0 where
  pub s : (tag_of l ≡ S) ↔ Letter 83 l
  pub c : (tag_of l ≡ C) ↔ Letter 67 l
  pub x : (tag_of l ≡ X) ↔ Letter 88 l
  pub d : (tag_of l ≡ D) ↔ Letter 68 l
  pub p : (tag_of l ≡ P) ↔ Letter 80 l
  pub b : (tag_of l ≡ B) ↔ Letter 66 l
  pub r : (tag_of l ≡ R) ↔ Letter 82 l
  pub e : (tag_of l ≡ E) ↔ Letter 69 l
