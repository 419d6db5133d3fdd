-- The refusals 14 to 18 of a close, in words, each with its witness (document 01, Stops that come from the state).
use Rattle.std.specs.Prelude.{◌≡◌, ◌≢◌, ◌↔◌, ◌⊎◌, List, [], ◌∷◌, ℕ, ◌<◌, T}
use Rattle.std.proofs.Math.Option.{some, none}
use Rattle.lists.specs.Lists.{Each, Some}
use Rattle.lists.specs.Restated.{Adjacent}
use Rattle.calendar.specs.Places.{month_of, day_of}
use Rattle.calendar.specs.Spans.{place_at}
use Rattle.note.specs.Peaks.{peak_days}
use Rattle.rounding.specs.Points.{rounded, profiled, rebuilt, by_default}
use Rattle.meaning.specs.Filing.{Filing, Reading, year_of, daily_at}
use Rattle.meaning.specs.Cases.{case4, case6, case_of}
use Rattle.meaning.specs.Points.{Origin, as_read, by_profile, Donor, Source, missing, own, from_donors, from_default, donor_cas, donor_points, source_at}
use Rattle.meaning.specs.Closing.{CloseReason, no_end, partial, no_data, zero_total, too_high, closing_refusal}
use Rattle.meaning.specs.Restated.Dates.{Leap, Date, AxisYear}
use Rattle.meaning.specs.Restated.Years.{Between, WinterDay, IndexValid, SomeYear}

abbrev pub SomeAxisYear : Filing → (ℕ → Type 0) → Type 0
SomeAxisYear F P = (z : ℕ) × AxisYear F.site.al F.site.filiere z × P z

-- ---- 15: some dates but not all, by how many all are in a leap year and in any other
abbrev pub Partial : ℕ → ℕ → ℕ → ℕ → Type 0
Partial inLeap else y n = (n ≢ 0) × (¬ ((Leap y × (n ≡ inLeap)) ⊎ ((¬ Leap y) × (n ≡ else))))

-- ---- 16 and 17: two neighbouring readings with a winter day of a valid index year between them
abbrev pub SomeInterval : Filing → (Reading → Reading → Type 0) → Type 0
SomeInterval F P =
    SomeYear F (λ y. IndexValid F y × ((a : Reading) × (b : Reading) × Adjacent a b F.readings × (((p : ℕ) × Between a b p × WinterDay F y p) × P a b)))

-- a day of a year between two readings
abbrev pub Touches : Filing → ℕ → Reading → Reading → Type 0
Touches F z a b = (p : ℕ) × Between a b p × ((year_of F p ≡ z) × Date z (month_of (place_at p)) (day_of (place_at p)))

-- ---- 18: more than 200,000,000,000 mW
abbrev pub HighOrigin : Origin → Type 0
HighOrigin (as_read w) = ⊥
HighOrigin (by_profile e p t) = 200000000000 < rounded (profiled e p t)

abbrev pub High : Source → Type 0
High missing = ⊥
High (own o) = HighOrigin o
High (from_donors ca ds) = Some (λ (d : Donor). HighOrigin d.origin) ds ⊎ (200000000000 < rounded (rebuilt ca (donor_points ds) (donor_cas ds)))
High (from_default ps th p ca n cas) = 200000000000 < rounded (by_default ps th p ca n cas)

-- ---- the conditions
unfoldable pub CloseWords : CloseReason → Filing → Type 0
CloseWords no_end F = ¬ T F.ended
CloseWords partial F =
    SomeYear F (λ y. Partial 152 151 y (F.profile_dates y)) ⊎ SomeAxisYear F (λ z. Partial 366 365 z (F.daily_dates z))
CloseWords no_data F =
    SomeYear F (λ y. (IndexValid F y ⊎ (case_of F y ≡ case4) ⊎ (case_of F y ≡ case6)) × (F.profile_dates y ≡ 0))
    ⊎ SomeInterval F (λ a b. SomeAxisYear F (λ z. (F.daily_dates z ≡ 0) × Touches F z a b))
CloseWords zero_total F = SomeInterval F (λ a b. (p : ℕ) → Between a b p → daily_at F p ≡ 0)
CloseWords too_high F = SomeYear F (λ y. Some (λ w. (h : ℕ) × (h < 20) × High (source_at F y w h)) (peak_days y))

unfoldable pub earlier_lack : CloseReason → List CloseReason
earlier_lack no_end = []
earlier_lack partial = no_end ∷ []
earlier_lack no_data = no_end ∷ partial ∷ []
earlier_lack zero_total = no_end ∷ partial ∷ no_data ∷ []
earlier_lack too_high = no_end ∷ partial ∷ no_data ∷ zero_total ∷ []

pub record ClosingWords : Type 0 where
  pub refused : (F : Filing) (k : CloseReason) → (closing_refusal F ≡ some k) ↔ (CloseWords k F × Each (λ j. ¬ CloseWords j F) (earlier_lack k))
  pub reported : (F : Filing) → (closing_refusal F ≡ none) ↔ ((k : CloseReason) → ¬ CloseWords k F)
