-- What the lines of a file say, in words: each look-up by the line that gives it (document 01, What demand 3 compares).
use Rattle.std.specs.Prelude.{◌≡◌, ◌↔◌, ◌⊎◌, List, [], ◌∷◌, ◌++◌, map, ℕ, ◌+◌, ◌<◌, T, length}
use Rattle.std.proofs.Math.Option.{some, none}
use Rattle.lists.specs.Lists.{keep, Some}
use Rattle.lists.specs.Restated.{CountIs}
use Rattle.calendar.specs.Spans.{position_of}
use Rattle.note.specs.Coefficients.{ca_of}
use Rattle.text.specs.Fields.{field_at}
use Rattle.meaning.specs.Filing.{curve_meter, index_meter, real, corrected, estimated, Reading, reading}
use Rattle.meaning.specs.Line.{Line, Tag, S, C, X, D, P, B, R, E, is, tag_of, number_at, year_on, month_on, day_on, site_on, kind_of, winter_on, place_on}
use Rattle.meaning.specs.Refusals.{Reason, number_of}
use Rattle.meaning.specs.File.{axis_in, refusal_at, dates_in, filing_in}
use Rattle.meaning.specs.Sheet.{outcome_of, refused_at, closing_of}
use Rattle.meaning.specs.Restated.Lines.{Dash}

-- a file whose lines are all accepted, each after those before it
pub data AllAccepted : List Line → Type 0 where
  fine_nil : AllAccepted []
  fine_snoc : (ls : List Line) (l : Line) → AllAccepted ls → refusal_at ls l ≡ none → AllAccepted (ls ++ (l ∷ []))

-- a line of a tag that names a year and a winter place
abbrev pub Names : Tag → ℕ → ℕ → Line → Type 0
Names t y w l = (tag_of l ≡ t) × ((year_on l ≡ y) × (winter_on l ≡ w))

-- the reading of an X line
abbrev pub reading_of : List Line → Line → Reading
reading_of ls l = reading (position_of (axis_in ls) (year_on l) (month_on l) (day_on l)) (number_at l 4) (kind_of (field_at l 5))

pub record LookWords : Type 0 where
  -- a place's point is what some C line gives it, and - gives none
  pub point :
      (ls : List Line) → AllAccepted ls → (y w h v : ℕ)
      → ((filing_in ls).point y w h ≡ some v) ↔ ((h < 20) × Some (λ l. Names C y w l × ((¬ Dash (field_at l (4 + h))) × (number_at l (4 + h) ≡ v))) ls)
  pub profile :
      (ls : List Line) → AllAccepted ls → (y w h v : ℕ) → h < 20 → Some (λ l. Names P y w l × (number_at l (4 + h) ≡ v)) ls
      → (filing_in ls).profile y w h ≡ v
  pub no_profile : (ls : List Line) (y w h : ℕ) → (¬ Some (Names P y w) ls) → (filing_in ls).profile y w h ≡ 0
  pub daily :
      (ls : List Line) → AllAccepted ls → (y p v : ℕ) → Some (λ l. ((tag_of l ≡ D) × ((year_on l ≡ y) × (place_on l ≡ p))) × (number_at l 4 ≡ v)) ls
      → (filing_in ls).daily y p ≡ v
  pub no_daily : (ls : List Line) (y p : ℕ) → (¬ Some (λ l. (tag_of l ≡ D) × ((year_on l ≡ y) × (place_on l ≡ p))) ls) → (filing_in ls).daily y p ≡ 0
  -- the site is what the S line says, and CA is its filière's
  pub site : (ls : List Line) → AllAccepted ls → (l : Line) → Some (λ k. (tag_of k ≡ S) × (k ≡ l)) ls → (filing_in ls).site ≡ site_on l
  pub ca : (ls : List Line) (y : ℕ) → (filing_in ls).ca y ≡ ca_of y (filing_in ls).site.filiere
  pub rate :
      (ls : List Line) → AllAccepted ls → (y r : ℕ)
      → ((filing_in ls).rate y ≡ some r) ↔ Some (λ l. ((tag_of l ≡ R) × (year_on l ≡ y)) × (number_at l 2 ≡ r)) ls
  pub broken : (ls : List Line) (y : ℕ) → T ((filing_in ls).broken y) ↔ Some (λ l. (tag_of l ≡ B) × (year_on l ≡ y)) ls
  pub ended : (ls : List Line) → T (filing_in ls).ended ↔ Some (λ l. tag_of l ≡ E) ls
  -- the lines of a tag that name a year, counted for every tag; those of P and of D are the filing's
  pub dates : (t : Tag) (ls : List Line) (y : ℕ) → CountIs (λ l. (tag_of l ≡ t) × (year_on l ≡ y)) ls (dates_in t ls y)
  pub profile_dates : (ls : List Line) (y : ℕ) → CountIs (λ l. (tag_of l ≡ P) × (year_on l ≡ y)) ls ((filing_in ls).profile_dates y)
  pub daily_dates : (ls : List Line) (y : ℕ) → CountIs (λ l. (tag_of l ≡ D) × (year_on l ≡ y)) ls ((filing_in ls).daily_dates y)
  -- the readings are those of the X lines, in their order
  pub readings : (ls : List Line) → (filing_in ls).readings ≡ map (reading_of ls) (keep (λ (l : Line). is X (tag_of l)) ls)
  -- no line, no point and no reading
  pub no_point : (y w h : ℕ) → (filing_in []).point y w h ≡ none
  pub no_reading_lem : (filing_in []).readings ≡ []

-- what S says, by its fields
pub record SiteWords (l : Line) : Type 0 where
  pub al : (site_on l).al ≡ number_at l 2
  pub filiere : (site_on l).filiere ≡ number_at l 3
  pub ps : (site_on l).ps ≡ number_at l 5
  pub curve : ((site_on l).meter ≡ curve_meter) ↔ (field_at l 4 ≡ 84 ∷ [])
  pub index : ((site_on l).meter ≡ index_meter) ↔ (field_at l 4 ≡ 73 ∷ [])

-- the kind of a reading, by its letter
pub record KindWords (f : List ℕ) : Type 0 where
  pub real : (kind_of f ≡ real) ↔ (f ≡ 82 ∷ [])
  pub corrected : (kind_of f ≡ corrected) ↔ (f ≡ 67 ∷ [])
  pub estimated : (kind_of f ≡ estimated) ↔ (f ≡ 69 ∷ [])

-- ---- the sheet
-- a file with a line that is refused after lines that are all accepted
pub record FirstRefused (f : List Line) : Type 0 where
  pub taken : List Line
  pub line : Line
  pub left : List Line
  pub reason : Reason
  pub file : f ≡ taken ++ (line ∷ left)
  pub fine : AllAccepted taken
  pub refused : refusal_at taken line ≡ some reason

-- a file is one or the other; its outcome is that of the first line that is refused, with the lines up to it, else that of the close
pub record SheetWords : Type 0 where
  pub either : (f : List Line) → AllAccepted f ⊎ FirstRefused f
  pub stops : (f : List Line) (h : FirstRefused f) → outcome_of f ≡ refused_at (number_of h.reason) (length h.taken + 1)
  pub ends : (f : List Line) → AllAccepted f → outcome_of f ≡ closing_of (filing_in f) (length f)
