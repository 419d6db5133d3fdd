-- The points of the curve and their count, in words (document 01, Cases and Calls).
use Rattle.std.specs.Prelude.{◌≡◌, ◌≢◌, ◌↔◌, ◌⊎◌, List, [], ◌∷◌, map, ℕ, ◌+◌, ◌*◌, ◌≤◌, ◌<◌, T, length, get_or}
use Rattle.std.proofs.Math.Option.{Option, some, none}
use Rattle.lists.specs.Lists.{sum, Each, Some}
use Rattle.lists.specs.Restated.{CountIs, Adjacent}
use Rattle.calendar.specs.Places.{has_winter_date}
use Rattle.note.specs.Peaks.{peak_days, peak_count}
use Rattle.note.specs.Coefficients.{theta}
use Rattle.rounding.specs.Points.{Fraction, over, rounded}
use Rattle.meaning.specs.Filing.{Filing, Reading, history_of, history_list}
use Rattle.meaning.specs.Validity.{energy_of, total_of}
use Rattle.meaning.specs.Cases.{case_m, case4, case6, case_of}
use Rattle.meaning.specs.Points.{as_read, by_profile, Donor, from_donors, from_default, source_at, rounded_origin, rounded_point, position_at, profiled_at, curve_donors, index_donors, with_rate, place_of, all_places, point_at}
use Rattle.meaning.specs.Level.{present_in, counted, missing_entry, entry_of, curve_of}
use Rattle.meaning.specs.Closing.{closing_refusal}
use Rattle.meaning.specs.Restated.Years.{Between, CurveValid, IndexValid, OfHistory, SomeYear}

-- the place of the k-th history year, its j-th peak day and half-hour h is one of that curve's
abbrev pub Used : Filing → ℕ → ℕ → Type 0
Used F k j = (k < (history_of F).count) × (j < peak_count ((history_of F).first + k))

-- the point after its rate of that year, day and half-hour
abbrev pub point_of_place : Filing → ℕ → ℕ → ℕ → Option ℕ
point_of_place F k j h = point_at (place_of F ((history_of F).first + k) (get_or (peak_days ((history_of F).first + k)) j 0) h)

pub record CurveWords : Type 0 where
  pub length : (F : Filing) → length (curve_of F) ≡ 4400
  -- 440 places a year, 20 a peak day
  pub used :
      (F : Filing) (k j h d : ℕ) → Used F k j → h < 20
      → get_or (curve_of F) (440 * k + (20 * j + h)) d ≡ entry_of (point_of_place F k j h)
  pub unused :
      (F : Filing) (k j h d : ℕ) → k < 10 → j < 22 → h < 20 → (¬ Used F k j)
      → get_or (curve_of F) (440 * k + (20 * j + h)) d ≡ missing_entry
  -- the points counted are those of the years
  pub years : (F : Filing) → counted F ≡ sum (map (present_in F) (history_list F))
  -- and the places of the curve that are not missing, where no point has the value that stands for missing
  pub places : (F : Filing) → Each (λ q. point_at q ≢ some missing_entry) (all_places F) → CountIs (λ e. e ≢ missing_entry) (curve_of F) (counted F)
  -- which holds of each close that reports, with points of at most 100,000,000 W and rates of at least 10
  pub apart :
      (F : Filing) → closing_refusal F ≡ none → ((y w h v : ℕ) → F.point y w h ≡ some v → v ≤ 100000000)
      → ((y r : ℕ) → F.rate y ≡ some r → 10 ≤ r) → Each (λ q. point_at q ≢ some missing_entry) (all_places F)

-- ---- rounding to nearest, half up
-- a fraction is at least n - 1/2 and less than n + 1/2
abbrev pub Nearest : Fraction → ℕ → Type 0
Nearest q n = (2 * (n * q.den) ≤ 2 * q.num + q.den) × (2 * q.num < 2 * (n * q.den) + q.den)

pub record RoundWords : Type 0 where
  pub nearest : (q : Fraction) (n : ℕ) → 0 < q.den → (rounded q ≡ n) ↔ Nearest q n
  -- one half, and a little less
  pub half : rounded (over 1 2) ≡ 1
  pub less : rounded (over 499 1000) ≡ 0

-- ---- where points come from
-- the source of a default-power point: PS, theta, profile value, CA of the year, N, and CA of the N history years together, which come so many years after one
abbrev pub ByDefault : Filing → ℕ → ℕ → ℕ → ℕ → ℕ → List ℕ → Type 0
ByDefault F y w h n oldest later =
    source_at F y w h
    ≡ from_default F.site.ps (theta F.site.filiere) (F.profile y w h) (F.ca y) n (sum (map (λ k. F.ca (oldest + k)) later))

pub record SourceWords : Type 1 where
  -- a measured year keeps its points, but for its rate
  pub measured :
      (F : Filing) (y w h v : ℕ) → case_of F y ≡ case_m → F.point y w h ≡ some v → point_at (place_of F y w h) ≡ some (with_rate (F.rate y) (1000 * v))
  pub stays_missing : (F : Filing) (y w h : ℕ) → case_of F y ≡ case_m → F.point y w h ≡ none → point_at (place_of F y w h) ≡ none
  -- one donor with the target's CA gives its own point
  pub same_ca : (d : Donor) → 0 < d.ca → rounded_point (from_donors d.ca (d ∷ [])) ≡ some (rounded_origin d.origin)
  -- a profiled point: of the first two neighbouring readings with the day between them
  pub profiled :
      (F : Filing) (y w h : ℕ) (a b : Reading) → Adjacent a b F.readings → Between a b (position_at F y w)
      → ((c d : Reading) → Adjacent c d F.readings → Between c d (position_at F y w) → (c ≡ a) × (d ≡ b))
      → profiled_at F y w h ≡ by_profile (energy_of (record { from = a; to = b })) (F.profile y w h) (total_of F (record { from = a; to = b }))
  -- donors: the valid curves that have the point, and the valid index years that have the date
  pub curve_donors_lem :
      {Q : Donor → Type 0} (F : Filing) (w h : ℕ)
      → Some Q (curve_donors F w h) ↔ SomeYear F (λ z. CurveValid F z × ((v : ℕ) × (F.point z w h ≡ some v) × Q (record { ca = F.ca z; origin = as_read v })))
  pub index_donors_lem :
      {Q : Donor → Type 0} (F : Filing) (w h : ℕ)
      → Some Q (index_donors F w h) ↔ SomeYear F (λ z. IndexValid F z × (T (has_winter_date z w) × Q (record { ca = F.ca z; origin = profiled_at F z w h })))
  -- default power of a history year, in cases 4 and 6: N is 5 and the years are AL-9 to AL-5
  pub default_5 :
      (F : Filing) (y w h oldest : ℕ) → OfHistory F y → (case_of F y ≡ case4) ⊎ (case_of F y ≡ case6) → F.site.filiere ≢ 4 → F.site.filiere ≢ 5
      → F.site.al ≡ oldest + 9 → ByDefault F y w h 5 oldest (0 ∷ 1 ∷ 2 ∷ 3 ∷ 4 ∷ [])
  -- for filières 4 and 5 N is 10 and the years are AL-14 to AL-5
  pub default_10 :
      (F : Filing) (y w h oldest : ℕ) → OfHistory F y → (case_of F y ≡ case4) ⊎ (case_of F y ≡ case6) → (F.site.filiere ≡ 4) ⊎ (F.site.filiere ≡ 5)
      → F.site.al ≡ oldest + 14 → ByDefault F y w h 10 oldest (0 ∷ 1 ∷ 2 ∷ 3 ∷ 4 ∷ 5 ∷ 6 ∷ 7 ∷ 8 ∷ 9 ∷ [])
