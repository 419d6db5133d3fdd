-- The exact fraction in mW: the same chain with no rounding anywhere (document 01, What demand 3 compares).
use mathlib.Core.List.{List, map, foldr}
use Rattle.std.proofs.Math.Option.{Option, some, none}
use Rattle.std.specs.Prelude.{ℕ, ◌+◌, ◌*◌, length}
use Rattle.lists.specs.Lists.{present}
use Rattle.rounding.specs.Points.{Fraction, over, by_default}
use Rattle.meaning.specs.Filing.{Filing}
use Rattle.meaning.specs.Points.{fraction_of, Donor, donor_cas, Source, missing, own, from_donors, from_default, CurvePlace, all_places}
use Rattle.meaning.specs.Level.{coefficient_of}

-- ---- fractions: sum, product with and quotient by a number
unfoldable pub plus : Fraction → Fraction → Fraction
plus p q = over (p.num * q.den + q.num * p.den) (p.den * q.den)

unfoldable pub times : ℕ → Fraction → Fraction
times n q = over (n * q.num) q.den

unfoldable pub divided_by : Fraction → ℕ → Fraction
divided_by q n = over q.num (q.den * n)

unfoldable pub total : List Fraction → Fraction
total = foldr plus (over 0 1)

-- ---- each peak point of each history year
unfoldable pub exactly : Source → Option Fraction
exactly missing = none
exactly (own o) = some (fraction_of o)
exactly (from_donors ca ds) = some (divided_by (times ca (total (map (λ (d : Donor). fraction_of d.origin) ds))) (donor_cas ds))
exactly (from_default ps th p ca n cas) = some (by_default ps th p ca n cas)

unfoldable pub exact_rate : Option ℕ → Fraction → Fraction
exact_rate none q = q
exact_rate (some r) q = divided_by (times 1000 q) r

unfoldable pub exact_by : Option ℕ → Option Fraction → Option Fraction
exact_by r none = none
exact_by r (some q) = some (exact_rate r q)

unfoldable pub exact_at : CurvePlace → Option Fraction
exact_at q = exact_by q.rate (exactly q.source)

unfoldable pub exact_points : List CurvePlace → List Fraction
exact_points qs = present (map exact_at qs)

-- C, in hundredths, times the sum of the present points over their count
unfoldable pub exact_fraction : Filing → Fraction
exact_fraction F = divided_by (times (coefficient_of F) (total (exact_points (all_places F)))) (100 * length (exact_points (all_places F)))
