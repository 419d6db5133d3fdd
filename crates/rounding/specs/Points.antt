-- The points of the cases in mW, the rate and the level in W, each a fraction rounded once (document 01, Cases).
use Rattle.std.specs.Prelude.{Bool, ℕ, ◌*◌, ltb}
use Rattle.rounding.specs.Rounding.{half_up}

-- a fraction: numerator, denominator
pub record Fraction : Type 0 where
  pub num : ℕ
  pub den : ℕ

abbrev pub over : ℕ → ℕ → Fraction
over a d = record { num = a; den = d }

unfoldable pub rounded : Fraction → ℕ
rounded q = half_up q.num q.den

-- 1, P: a half-hour has its profile's share of E over the interval's daily sums; its power in W is twice that energy in Wh
unfoldable pub profiled : ℕ → ℕ → ℕ → Fraction
profiled e profile total = over (2000 * e * profile) total

-- 2, 3, 5: CA of the target times the donors' points over the donors' CA
unfoldable pub rebuilt : ℕ → ℕ → ℕ → Fraction
rebuilt ca points cas = over (ca * points) cas

-- 4, 6: PS × theta × profile × CA × N over the CA of the N history years; theta in 10⁻⁵, profile in 10⁻⁴, mW
unfoldable pub by_default : ℕ → ℕ → ℕ → ℕ → ℕ → ℕ → Fraction
by_default ps theta profile ca n cas = over (ps * theta * profile * ca * n) (1000000 * cas)

-- a point after its year's rate, which is in thousandths
unfoldable pub rated : ℕ → ℕ → Fraction
rated point rate = over (point * 1000) rate

-- the level in W: C, in hundredths, times the mean of the present points, in mW
unfoldable pub level : ℕ → ℕ → ℕ → Fraction
level c points n = over (c * points) (100000 * n)

-- 18: the largest profiled, rebuilt or default point, in mW
abbrev pub most_point : ℕ
most_point = 200000000000

unfoldable pub exceeds : ℕ → Bool
exceeds p = ltb most_point p
