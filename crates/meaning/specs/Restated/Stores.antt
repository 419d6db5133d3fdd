-- What an accepted line stores in the lent blocks, in words (document 01, Calls and the lines of a file).
use Rattle.std.specs.Prelude.{◌≡◌, ◌⊎◌, List, ℕ, ◌+◌, ◌-◌, ◌*◌, ◌≤◌, ◌<◌, length, get_or}
use Rattle.std.proofs.Math.Option.{none}
use Rattle.calendar.specs.Spans.{position_of}
use Rattle.text.specs.Fields.{field_at}
use Rattle.meaning.specs.Filing.{reading}
use Rattle.meaning.specs.Line.{Line, C, X, D, P, tag_of, number_at, year_on, month_on, day_on, value_at, point_of, kind_of, winter_on}
use Rattle.meaning.specs.Refusals.{refusal}
use Rattle.meaning.specs.Blocks.{Blocks, missing_point, fresh_reading, code_of_point}
use Rattle.meaning.specs.Record.{open_state, Rec, history_of_rec, axis_of_rec, before_of}
use Rattle.meaning.specs.Calls.{line_of}
use Rattle.meaning.specs.Restated.Calls.{Fit}

-- ys is xs but where c holds: then it has f 0 to f (n - 1) from place p on
pub record Put {A : Type 0} (c : Type 0) (d : A) (p n : ℕ) (f : ℕ → A) (xs ys : List A) : Type 0 where
  pub there : c → (h : ℕ) → h < n → p + n ≤ length xs → get_or ys (p + h) d ≡ f h
  pub elsewhere : (i : ℕ) → (c → (i < p) ⊎ (p + n ≤ i)) → get_or ys i d ≡ get_or xs i d

-- rows of 152 dates of 20 half-hours: C in the near block from AL-9 on, else in the far block, which runs from AL-14; P from the oldest history year
pub record Stores (l : Line) (s : Rec) (w v : Blocks) : Type 0 where
  pub near :
      Put ((tag_of l ≡ C) × (s.site.al - 9 ≤ year_on l)) missing_point (3040 * (year_on l - (s.site.al - 9)) + 20 * winter_on l) 20
      (λ h. code_of_point (point_of l h)) w.near v.near
  pub far :
      Put ((tag_of l ≡ C) × (year_on l < s.site.al - 9)) missing_point (3040 * (year_on l - (s.site.al - 14)) + 20 * winter_on l) 20
      (λ h. code_of_point (point_of l h)) w.far v.far
  pub slots : Put (tag_of l ≡ P) 0 (3040 * (year_on l - (history_of_rec s).first) + 20 * winter_on l) 20 (value_at l) w.slots v.slots
  pub daily : Put (tag_of l ≡ D) 0 (position_of (axis_of_rec s) (year_on l) (month_on l) (day_on l)) 1 (λ h. number_at l 4) w.daily v.daily
  pub readings :
      Put (tag_of l ≡ X) fresh_reading s.readings 1 (λ h. reading (position_of (axis_of_rec s) (year_on l) (month_on l) (day_on l)) (number_at l 4) (kind_of (field_at l 5)))
      w.readings v.readings
  pub curve : v.curve ≡ w.curve

abbrev pub StoreWords : Type 0
StoreWords = (s : Rec) (l : Line) (w : Blocks) → Fit s w → s.state ≡ open_state → refusal (before_of s) l ≡ none → Stores l s w (line_of s l w).blocks
