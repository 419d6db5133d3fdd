use mathlib.Core.Path.{◌≡◌, ap, ◌∙◌}
use mathlib.Core.List.{List}
use Prim.Native.Nat.{ℕ, ◌*◌, ◌≤◌}
use native.Mathlib.Omega.{arith}
use lib.ListN.{length, get_or, take}
use Rattle.std.specs.List.{sum as library_sum}
use Rattle.std.proofs.lemmas.Iterator.{YieldsList-from_slice}
use Rattle.std.proofs.lemmas.Iterator.Consumers.{sum_from_yields_List, fits_from_yields_list}
use Rattle.lists.specs.Lists.{range, sum}
use Rattle.lists.proofs.Blocks.{map_range}
use Rattle.lists.proofs.Laws.{length_tab}
use Rattle.lists.proofs.Sums.{sum_most}
use Rattle.lists.proofs.Chains.{front_listed, sum_listed}
use Rattle.history.specs.Fits.{AtMost}
use Rattle.history.specs.Years.{cas_sum}
use Rattle.history.proofs.ca.cas_sum.Goals as goal

-- the sum of the first n
first_sum : (n : ℕ) (cas : List ℕ) → n ≤ length cas → library_sum (take n cas) ≡ cas_sum n cas
unfolding cas_sum
first_sum n cas h = sum_listed (take n cas) ∙ ap sum (front_listed 0 cas n h)

-- it is at most n times the largest
bounded : (n : ℕ) (cas : List ℕ) → AtMost 9999 cas → cas_sum n cas ≤ n * 9999
unfolding cas_sum range
bounded n cas h =
    let f : ℕ → ℕ = λ k. get_or cas k 0 in
    omega (arith, ap sum (map_range f 0 n), sum_most f 9999 h (range 0 n), length_tab n 0 (λ k. k))

pub sum-requires-clause-fits : goal.sum-requires-clause-fits
sum-requires-clause-fits c =
    fits_from_yields_list _ _ (YieldsList-from_slice (take c.args.n c.args.cas.now) c.iter.ensures.rest)
    (omega (arith, first_sum c.args.n c.args.cas.now (omega arith), bounded c.args.n c.args.cas.now c.requires.1))

pub returns : goal.returns
returns c =
    let e : c.sum.result ≡ cas_sum c.args.n c.args.cas.now = sum_from_yields_List _ _ c.sum.ensures.ran (YieldsList-from_slice (take c.args.n c.args.cas.now) c.iter.ensures.rest) ∙ first_sum c.args.n c.args.cas.now (omega arith) in
    record { is = e; fits = omega (arith, e, bounded c.args.n c.args.cas.now c.requires.1) }
