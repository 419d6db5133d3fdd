-- The refusals 2 to 12 of a line, in words, each with its witness (document 01, Stops that come from the input).
use Rattle.std.specs.Prelude.{◌≡◌, ◌≢◌, ◌↔◌, ◌⊎◌, List, [], ◌∷◌, ℕ, ◌+◌, ◌≤◌, ◌<◌, length, get_or}
use Rattle.std.proofs.Math.Option.{some, none}
use Rattle.lists.specs.Lists.{Each, Some}
use Rattle.lists.specs.Restated.{CountIs, First, Last}
use Rattle.calendar.specs.Restated.{EarlierDate}
use Rattle.text.specs.Fields.{tabs, field_at}
use Rattle.meaning.specs.Line.{Line, Tag, S, C, X, D, P, B, R, E, other, tag_of, number_at, year_on, month_on, day_on, key_of}
use Rattle.meaning.specs.Refusals.{Reason, illegible, unknown, misplaced, malformed, outside, no_date, not_later, too_soon, falling, too_many, miscounted}
use Rattle.meaning.specs.File.{site_in, refusal_at}
use Rattle.meaning.specs.Restated.Dates.{Winter, Date, HistoryYear, AxisYear}

-- ---- 2: a byte other than tab and 32 to 126
abbrev pub Invalid : ℕ → Type 0
Invalid b = (b ≢ 9) × ((b < 32) ⊎ (126 < b))

-- ---- 3: how many fields the tag has
abbrev pub HasFields : Tag → ℕ → Type 0
HasFields S n = n ≡ 6
HasFields C n = n ≡ 24
HasFields X n = n ≡ 6
HasFields D n = n ≡ 5
HasFields P n = n ≡ 24
HasFields B n = n ≡ 2
HasFields R n = n ≡ 3
HasFields E n = n ≡ 2
HasFields other n = ⊥

-- ---- 4
-- the tags that stand after one in file order
unfoldable pub after : Tag → List Tag
after other = S ∷ C ∷ X ∷ D ∷ P ∷ B ∷ R ∷ E ∷ []
after S = C ∷ X ∷ D ∷ P ∷ B ∷ R ∷ E ∷ []
after C = X ∷ D ∷ P ∷ B ∷ R ∷ E ∷ []
after X = D ∷ P ∷ B ∷ R ∷ E ∷ []
after D = P ∷ B ∷ R ∷ E ∷ []
after P = B ∷ R ∷ E ∷ []
after B = R ∷ E ∷ []
after R = E ∷ []
after E = []

-- the S line says I
abbrev pub IndexFile : List Line → Type 0
IndexFile ls = (k : Line) × First (λ m. tag_of m ≡ S) k ls × (field_at k 4 ≡ 73 ∷ [])

-- a line before it whose tag stands later, S after a line, a line after E
abbrev pub RulesOut : Tag → Tag → Type 0
RulesOut k t = Some (λ u. k ≡ u) (after t) ⊎ (t ≡ S) ⊎ (k ≡ E)

abbrev pub Misplaced : List Line → Tag → Type 0
Misplaced ls t = ((ls ≡ []) × (t ≢ S)) ⊎ Some (λ k. RulesOut (tag_of k) t) ls ⊎ ((t ≡ C) × IndexFile ls)

-- ---- 5
abbrev pub Digit : ℕ → Type 0
Digit b = (48 ≤ b) × (b ≤ 57)

-- a digit or more, and one alone or no zero in front
abbrev pub Number : List ℕ → Type 0
Number f = (length f ≢ 0) × (Each Digit f × ((length f ≡ 1) ⊎ (get_or f 0 0 ≢ 48)))

abbrev pub Dash : List ℕ → Type 0
Dash f = f ≡ 45 ∷ []

-- the field at a place is no number
abbrev pub NoNumber : ℕ → Line → Type 0
NoNumber n l = ¬ Number (field_at l n)

abbrev pub Malformed : Tag → Line → Type 0
Malformed S l =
    (field_at l 1 ≢ 67 ∷ 70 ∷ 95 ∷ 57 ∷ 54 ∷ 69 ∷ 47 ∷ 49 ∷ 49 ∷ [])
    ⊎ NoNumber 2 l
    ⊎ NoNumber 3 l
    ⊎ (¬ ((field_at l 4 ≡ 84 ∷ []) ⊎ (field_at l 4 ≡ 73 ∷ [])))
    ⊎ NoNumber 5 l
Malformed C l =
    NoNumber 1 l ⊎ NoNumber 2 l ⊎ NoNumber 3 l ⊎ ((h : ℕ) × (h < 20) × (¬ (Dash (field_at l (4 + h)) ⊎ Number (field_at l (4 + h)))))
Malformed X l =
    NoNumber 1 l
    ⊎ NoNumber 2 l
    ⊎ NoNumber 3 l
    ⊎ NoNumber 4 l
    ⊎ (¬ ((field_at l 5 ≡ 82 ∷ []) ⊎ (field_at l 5 ≡ 67 ∷ []) ⊎ (field_at l 5 ≡ 69 ∷ [])))
Malformed D l = NoNumber 1 l ⊎ NoNumber 2 l ⊎ NoNumber 3 l ⊎ NoNumber 4 l
Malformed P l = NoNumber 1 l ⊎ NoNumber 2 l ⊎ NoNumber 3 l ⊎ ((h : ℕ) × (h < 20) × (¬ Number (field_at l (4 + h))))
Malformed B l = NoNumber 1 l
Malformed R l = NoNumber 1 l ⊎ NoNumber 2 l
Malformed E l = NoNumber 1 l
Malformed other l = ⊥

-- ---- 6
abbrev pub Off : ℕ → ℕ → ℕ → Type 0
Off a b n = (n < a) ⊎ (b < n)

abbrev pub OffHistory : List Line → ℕ → Type 0
OffHistory ls y = ¬ HistoryYear (site_in ls).al (site_in ls).filiere y

abbrev pub OffAxis : List Line → ℕ → Type 0
OffAxis ls y = ¬ AxisYear (site_in ls).al (site_in ls).filiere y

abbrev pub Outside : List Line → Tag → Line → Type 0
Outside ls S l = Off 2021 2026 (number_at l 2) ⊎ Off 1 11 (number_at l 3) ⊎ Off 1 100000000 (number_at l 5)
Outside ls C l = OffHistory ls (year_on l) ⊎ ((h : ℕ) × (h < 20) × ((¬ Dash (field_at l (4 + h))) × (100000000 < number_at l (4 + h))))
Outside ls X l = OffAxis ls (year_on l) ⊎ (1000000000000 < number_at l 4)
Outside ls D l = OffAxis ls (year_on l) ⊎ (3145680 < number_at l 4)
Outside ls P l = OffHistory ls (year_on l) ⊎ ((h : ℕ) × (h < 20) × (65535 < number_at l (4 + h)))
Outside ls B l = OffHistory ls (year_on l)
Outside ls R l = OffHistory ls (year_on l) ⊎ Off 10 1000 (number_at l 2)
Outside ls E l = 9999 < number_at l 1
Outside ls other l = ⊥

-- ---- 7 and 8
abbrev pub Dated : Tag → Type 0
Dated t = (t ≡ C) ⊎ (t ≡ X) ⊎ (t ≡ D) ⊎ (t ≡ P)

abbrev pub OnlyWinter : Tag → Type 0
OnlyWinter t = (t ≡ C) ⊎ (t ≡ P)

-- its dates or years rise
abbrev pub Rising : Tag → Type 0
Rising t = Dated t ⊎ (t ≡ B) ⊎ (t ≡ R)

-- ---- the conditions
unfoldable pub Words : Reason → List Line → Line → Type 0
Words illegible ls l = (length l ≡ 0) ⊎ (320 < length l) ⊎ Some Invalid l
Words unknown ls l = ¬ HasFields (tag_of l) (tabs l + 1)
Words misplaced ls l = Misplaced ls (tag_of l)
Words malformed ls l = Malformed (tag_of l) l
Words outside ls l = Outside ls (tag_of l) l
Words no_date ls l = Dated (tag_of l) × ((¬ Date (year_on l) (month_on l) (day_on l)) ⊎ (OnlyWinter (tag_of l) × (¬ Winter (month_on l))))
-- by its key: the order of dates, or the year (dates and years below)
Words not_later ls l = Rising (tag_of l) × Some (λ k. (tag_of k ≡ tag_of l) × (key_of (tag_of l) l ≤ key_of (tag_of l) k)) ls
Words too_soon ls l = (tag_of l ≡ S) × ((6 ≤ number_at l 3) × (number_at l 2 < 2023))
Words falling ls l = (tag_of l ≡ X) × ((k : Line) × Last (λ m. tag_of m ≡ X) k ls × (number_at l 4 < number_at k 4))
Words too_many ls l = (tag_of l ≡ X) × ((n : ℕ) × CountIs (λ k. tag_of k ≡ X) ls n × (600 ≤ n))
Words miscounted ls l = (tag_of l ≡ E) × (number_at l 1 ≢ length ls)

-- ---- a line is refused for a reason where its condition holds and none that is checked before it does
unfoldable pub earlier : Reason → List Reason
earlier illegible = []
earlier unknown = illegible ∷ []
earlier misplaced = illegible ∷ unknown ∷ []
earlier malformed = illegible ∷ unknown ∷ misplaced ∷ []
earlier outside = illegible ∷ unknown ∷ misplaced ∷ malformed ∷ []
earlier no_date = illegible ∷ unknown ∷ misplaced ∷ malformed ∷ outside ∷ []
earlier not_later = illegible ∷ unknown ∷ misplaced ∷ malformed ∷ outside ∷ no_date ∷ []
earlier too_soon = illegible ∷ unknown ∷ misplaced ∷ malformed ∷ outside ∷ no_date ∷ not_later ∷ []
earlier falling = illegible ∷ unknown ∷ misplaced ∷ malformed ∷ outside ∷ no_date ∷ not_later ∷ too_soon ∷ []
earlier too_many = illegible ∷ unknown ∷ misplaced ∷ malformed ∷ outside ∷ no_date ∷ not_later ∷ too_soon ∷ falling ∷ []
earlier miscounted = illegible ∷ unknown ∷ misplaced ∷ malformed ∷ outside ∷ no_date ∷ not_later ∷ too_soon ∷ falling ∷ too_many ∷ []

pub record RefusalWords : Type 0 where
  pub refused : (ls : List Line) (l : Line) (y : Reason) → (refusal_at ls l ≡ some y) ↔ (Words y ls l × Each (λ z. ¬ Words z ls l) (earlier y))
  pub accepted : (ls : List Line) (l : Line) → (refusal_at ls l ≡ none) ↔ ((y : Reason) → ¬ Words y ls l)
  -- 8: where both are dates, the key of l is at most that of k exactly where k is not the earlier date
  pub dates :
      (t : Tag) (k l : Line) → Dated t → Date (year_on k) (month_on k) (day_on k) → Date (year_on l) (month_on l) (day_on l)
      → (key_of t l ≤ key_of t k) ↔ (¬ EarlierDate (year_on k) (month_on k) (day_on k) (year_on l) (month_on l) (day_on l))
  pub years : (t : Tag) (l : Line) → (t ≡ B) ⊎ (t ≡ R) → key_of t l ≡ year_on l
