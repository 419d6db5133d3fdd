-- The worked examples p1 to p9 as rows of one table, about the definitions that the close uses: p4 to p8 take each year by its case (document 01,
-- Reckoned examples). Then K1's level, from its points.
use Rattle.std.specs.Prelude.{Bool, true, false, ◌&&◌, not, cond, List, [], ◌∷◌, ℕ, ◌+◌, ◌*◌, eqb, ltb}
use Rattle.std.proofs.Math.Option.{Option, some, none}
use Rattle.note.specs.Coefficients.{ca_of, coefficient_c}
use Rattle.rounding.specs.Points.{rounded, level}
use Rattle.meaning.specs.Filing.{Filing, Site, site, curve_meter, index_meter, Reading, reading, real}
use Rattle.meaning.specs.Validity.{curve_valid}
use Rattle.meaning.specs.Points.{source_at, rounded_point, with_rate}

-- a filing with no rate; each profile value is 10,000, and the one daily sum above 0 is that of 1 January 2017, 480,000
unfoldable pub plain : Site → (ℕ → Bool) → (ℕ → ℕ → ℕ → Option ℕ) → List Reading → Filing
plain s breaks points rs = record {
  site = s;
  point = points;
  profile = λ y w h. 10000;
  daily = λ y p. cond (eqb y 2017 && eqb p 0) 480000 0;
  readings = rs;
  broken = breaks;
  rate = λ y. none;
  profile_dates = λ y. 0;
  daily_dates = λ y. 0;
  ended = true;
  ca = λ y. ca_of y s.filiere;
}

-- onshore wind, AL 2025: history 2016 to 2020
unfoldable pub wind : Site
wind = site 2025 2 curve_meter 5000000

-- solar, AL 2026: history 2017 to 2021
unfoldable pub solar : Site
solar = site 2026 1 index_meter 1000000

-- 16 of the 20 half-hours of each day: 176 points on the 11 peak days of 2019, 352 on the 22 of 2017
unfoldable pub sixteen : Filing
sixteen = plain wind (λ y. false) (λ y w h. cond (ltb h 16) (some 0) none) []

-- one less: winter place 10 is a peak day of 2019
unfoldable pub one_less : Filing
one_less = plain wind (λ y. false) (λ y w h. cond (ltb h 16 && not (eqb w 10 && eqb h 0)) (some 0) none) []

-- 1,000,000 W at each half-hour of 2020, and breaks in the other years
unfoldable pub only2020 : Filing
only2020 = plain wind (λ y. not (eqb y 2020)) (λ y w h. cond (eqb y 2020) (some 1000000) none) []

-- readings on 1 January 2017 and 2018, so many Wh apart: 2017 has a valid index
unfoldable pub year_of_energy : ℕ → Filing
year_of_energy e = plain solar (λ y. false) (λ y w h. none) (reading 366 0 real ∷ reading 732 e real ∷ [])

-- no readings: no year has a valid index
unfoldable pub unread : Filing
unread = plain solar (λ y. false) (λ y w h. none) []

-- ---- the table
pub data ExampleValue : Type 0 where
  valid not_valid missing : ExampleValue
  in_mw in_w : ℕ → ExampleValue

unfoldable pub validity : Bool → ExampleValue
validity b = cond b valid not_valid

unfoldable pub power : Option ℕ → ExampleValue
power none = missing
power (some p) = in_mw p

pub record Row : Type 0 where
  pub got : ExampleValue
  pub says : ExampleValue

abbrev pub row : ExampleValue → ExampleValue → Row
row g s = record { got = g; says = s }

unfoldable pub examples : List Row
examples =
    -- p1, p2, p3
    row (validity (curve_valid sixteen 2019)) valid
    ∷ row (validity (curve_valid one_less 2019)) not_valid
    ∷ row (validity (curve_valid sixteen 2017)) valid
    -- p4, p5: rebuilt from 2020, on winter places that are peak days of 2017 and 2018
    ∷ row (power (rounded_point (source_at only2020 2017 2 0))) (in_mw 873636364)
    ∷ row (power (rounded_point (source_at only2020 2018 25 0))) (in_mw 887272727)
    -- p6, p7: 1 January 2017 profiled from E 48,000 and E 1
    ∷ row (power (rounded_point (source_at (year_of_energy 48000) 2017 0 0))) (in_mw 2000000)
    ∷ row (power (rounded_point (source_at (year_of_energy 1) 2017 0 0))) (in_mw 42)
    -- p8: default power of 2017
    ∷ row (power (rounded_point (source_at unread 2017 0 0))) (in_mw 142259110)
    -- p9
    ∷ row (in_mw (with_rate (some 500) 880000000)) (in_mw 1760000000)
    -- K1: its 1,720 points from 2016 to 2020, and the same with R 2016 500
    ∷ row (in_w (rounded (level (coefficient_c 2025 2) (400 * 880000000 + 440 * 873636364 + 400 * 887272727 + 220 * 950000000 + 260 * 1000000000) 1720)))
    (in_w 635010)
    ∷ row (in_w (rounded (level (coefficient_c 2025 2) (400 * 1760000000 + 440 * 873636364 + 400 * 887272727 + 220 * 950000000 + 260 * 1000000000) 1720)))
    (in_w 778265)
    ∷ []
