-- A number as text: base-ten digits, no zero in front but in 0 (document 01, The printed sheet).
use Rattle.std.specs.Prelude.{cond, List, [], ◌∷◌, ◌++◌, ℕ, zero, suc, ◌+◌, ◌/◌, ◌%◌, ltb}

-- the digits of n by division by ten, at most k of them
unfoldable pub digits_within : ℕ → ℕ → List ℕ
digits_within zero n = []
digits_within (suc k) n = let front = digits_within k (n / 10) in cond (ltb n 10) ((48 + n) ∷ []) (front ++ ((48 + n % 10) ∷ []))

-- the decimal text of n, which has no more than n + 1 digits
unfoldable pub digits_of : ℕ → List ℕ
digits_of n = digits_within (suc n) n
