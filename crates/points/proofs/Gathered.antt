-- Donors added year by year: their sums, and bounds on these.
use mathlib.Core.Path.{◌≡◌, refl, ap, sym, ◌∙◌}
use mathlib.Core.Bool.{Bool, true, false, ◌||◌, cond}
use mathlib.Core.List.{List, [], ◌∷◌}
use mathlib.Core.Option.{Option, some, none}
use Prim.Native.Nat.{ℕ, ◌+◌, ◌-◌, ◌≤◌, ◌<◌}
use native.Mathlib.Nat.{add-zero, zero-add, add_assoc}
use native.Mathlib.Omega.{arith}
use lib.Dec.{eqb}
use lib.ListN.{get_or}
use borrow.Author.Tests.{ne_eqb, eq-eqb}
use Rattle.std.specs.Prelude as std
use Rattle.std.specs.Prelude.{Result, Ok, Err, Some, None}
use Rattle.lists.specs.Lists.{any, tab, present, sum, Each, each_cons}
use Rattle.lists.proofs.FilledTables.{tab_on, tab_end}
use Rattle.lists.proofs.Sums.{Held, each_tab, each_present}
use Rattle.rounding.specs.Units.{in_mw}
use Rattle.rounding.specs.Answers.{Limited, within, refusal, limit_view, limited, limited_point}
use Rattle.rounding.specs.Points.{rounded, rebuilt, exceeds}
use Rattle.rounding.specs.declared.Power.{Power}
use Rattle.rounding.specs.declared.Exceeds.{Exceeds}
use Rattle.meaning.specs.Points.{Origin, Donor, own_of, rounded_point, source_exceeds, origin_exceeds, rounded_origin, donor_points, donor_cas, rebuilt_by}
use Rattle.points.specs.PlacePoints.{PlacePoint, point_repr, limited_place}
use Rattle.points.specs.OwnFits.{PlacePointFits, PlacePointIs}
use Rattle.points.proofs.PlacePoints.{some_point, some_limited, limited_fits}
use Rattle.points.specs.declared.donors.DonorSums.{DonorSums}
use Rattle.points.specs.Sums.{sums, donors_of, with_donor, rebuilt_from}
use Rattle.points.specs.DonorOrigins.{donor_by, donors_among}
use Rattle.points.specs.DonorFits.{SumsFit, CasFit}

-- the sums so far with the donors still to add
unfoldable pub joined : DonorSums → List Donor → Limited DonorSums
joined d ds = limited (any (λ (d : Donor). origin_exceeds d.origin) ds) (sums (d.points.0 + donor_points ds) (d.ca_sum + donor_cas ds))

abbrev donor_at : List ℕ → (ℕ → Option Origin) → ℕ → Option Donor
donor_at cas given k = donor_by (get_or cas k 0) (given k)

-- the donors among the years from i on
unfoldable pub left : ℕ → List ℕ → (ℕ → Option Origin) → ℕ → List Donor
left n cas given i = present (tab (n - i) i (λ k. donor_by (get_or cas k 0) (given k)))

none_before : (ds : List Donor) → joined (sums 0 0) ds ≡ donors_of ds
unfolding joined donors_of
none_before ds = rw (zero-add (donor_points ds), zero-add (donor_cas ds))

pub none_yet : (n : ℕ) (cas : List ℕ) (given : ℕ → Option Origin) → joined (sums 0 0) (left n cas given 0) ≡ donors_of (donors_among n cas given)
unfolding left donors_among
none_yet n cas given =
    let e : n - 0 ≡ n = omega arith in
    ap (λ (m : ℕ). joined (sums 0 0) (present (tab m 0 (donor_at cas given)))) e ∙ none_before (present (tab n 0 (donor_at cas given)))

no_more : (d : DonorSums) → joined d [] ≡ limit_view (Ok d)
unfolding joined limited limit_view any donor_points donor_cas sum
no_more d = rw (add-zero d.points.0, add-zero d.ca_sum)

-- the donors left, from a year's own point on: one more donor, or none, or 18
first_left : (n : ℕ) (cas : List ℕ) (given : ℕ → Option Origin) (k : ℕ) (d : DonorSums) → k < n
    → joined d (present (donor_at cas given k ∷ tab (n - (k + 1)) (k + 1) (donor_at cas given))) ≡ joined d (left n cas given k)
unfolding left
first_left n cas given k d h = sym (ap (λ (os : List (Option Donor)). joined d (present os)) (tab_on (donor_at cas given) k n h))

one_more_lem : (d : DonorSums) (ca : ℕ) (o : Option Origin) (os : List (Option Donor)) (p : std.Option Power) → PlacePointIs (own_of o) (Ok p)
    → joined (with_donor d ca p) (present os) ≡ joined d (present (donor_by ca o ∷ os))
unfolding joined with_donor limit_view limited point_repr own_of source_exceeds rounded_point present donor_by any donor_points donor_cas sum
one_more_lem d ca none os p e = let q : p ≡ None = cc in rw q
one_more_lem d ca (some o) os p e = go (origin_exceeds o) refl e.is
  where
    go : (b : Bool) → origin_exceeds o ≡ b → limit_view (Ok p) ≡ limited b (point_repr (some (rounded_origin o)))
        → joined (with_donor d ca p) (present os) ≡ joined d (record { ca = ca; origin = o } ∷ present os)
    go true t i = cc
    go false t i =
        let q : p ≡ Some (in_mw (rounded_origin o)) = cc in
        rw (q, t, add_assoc d.points.0 (rounded_origin o) (donor_points (present os)), add_assoc d.ca_sum ca (donor_cas (present os)))

too_high : (d : DonorSums) (ca : ℕ) (o : Option Origin) (os : List (Option Donor)) (e : Exceeds) → PlacePointIs (own_of o) (Err e)
    → limit_view (Err e) ≡ joined d (present (donor_by ca o ∷ os))
unfolding joined limit_view limited point_repr own_of source_exceeds rounded_point present donor_by any
too_high d ca none os x e = cc
too_high d ca (some o) os x e = go (origin_exceeds o) refl e.is
  where
    go : (b : Bool) → origin_exceeds o ≡ b → limit_view (Err x) ≡ limited b (point_repr (some (rounded_origin o)))
        → limit_view (Err x) ≡ joined d (record { ca = ca; origin = o } ∷ present os)
    go true t i = rw t
    go false t i = cc

pub gather_on : (n : ℕ) (cas : List ℕ) (given : ℕ → Option Origin) (k : ℕ) (d : DonorSums) (p : std.Option Power) {x : Limited DonorSums} → k < n → PlacePointIs (own_of (given k)) (Ok p)
    → joined d (left n cas given k) ≡ x → joined (with_donor d (get_or cas k 0) p) (left n cas given (k + 1)) ≡ x
unfolding left
gather_on n cas given k d p h i e =
    one_more_lem d (get_or cas k 0) (given k) (tab (n - (k + 1)) (k + 1) (donor_at cas given)) p i ∙ first_left n cas given k d h ∙ e

pub gather_high : (n : ℕ) (cas : List ℕ) (given : ℕ → Option Origin) (k : ℕ) (d : DonorSums) (e : Exceeds) {x : Limited DonorSums} → k < n → PlacePointIs (own_of (given k)) (Err e)
    → joined d (left n cas given k) ≡ x → limit_view (Err e) ≡ x
gather_high n cas given k d f h i e =
    too_high d (get_or cas k 0) (given k) (tab (n - (k + 1)) (k + 1) (donor_at cas given)) f i ∙ first_left n cas given k d h ∙ e

pub gathered : (n : ℕ) (cas : List ℕ) (given : ℕ → Option Origin) (k : ℕ) (d : DonorSums) {x : Limited DonorSums} → n ≤ k → joined d (left n cas given k) ≡ x → limit_view (Ok d) ≡ x
unfolding left present
gathered n cas given k d h e =
    sym (no_more d) ∙ sym (ap (λ (os : List (Option Donor)). joined d (present os)) (tab_end (donor_at cas given) k n h)) ∙ e

-- ---- bounds on the sums
pub fit_on : (k : ℕ) (d : DonorSums) (ca : ℕ) (p : std.Option Power) → SumsFit k d → ca ≤ 9999 → PlacePointFits (Ok p) → SumsFit (k + 1) (with_donor d ca p)
unfolding with_donor
fit_on k d ca None h i j = record { points = omega (arith, h.points); cas = omega (arith, h.cas) }
fit_on k d ca (Some q) h i j = record { points = omega (arith, h.points, j); cas = omega (arith, h.cas, i) }

pub fit_more : (k m : ℕ) (d : DonorSums) → k ≤ m → SumsFit k d → SumsFit m d
fit_more k m d h f = record { points = omega (arith, f.points); cas = omega (arith, f.cas) }

-- ---- a point rebuilt from donors
each_donor : (n : ℕ) (cas : List ℕ) (given : ℕ → Option Origin) → CasFit n cas → Each (λ (d : Donor). 0 < d.ca) (donors_among n cas given)
unfolding donors_among donor_by
each_donor n cas given f = each_present (each_tab n 0 (donor_at cas given) (λ k i j. go k (f.some k (omega arith)) (given k)))
  where
    go : (k : ℕ) → 0 < get_or cas k 0 → (o : Option Origin) → Held (λ (d : Donor). 0 < d.ca) (donor_by (get_or cas k 0) o)
    go k p none = tt
    go k p (some o) = p

-- the point rebuilt from the donors' sums, or 18 for a donor's own point
unfoldable pub rebuilt_of : ℕ → Limited DonorSums → Limited (std.Option Power)
rebuilt_of ca (refusal n) = refusal n
rebuilt_of ca (within d) = rebuilt_from ca d

rebuilt_is : (ca : ℕ) (ds : List Donor) → Each (λ (d : Donor). 0 < d.ca) ds → rebuilt_of ca (donors_of ds) ≡ limited (source_exceeds (rebuilt_by ca ds)) (point_repr (rounded_point (rebuilt_by ca ds)))
unfolding rebuilt_of rebuilt_from donors_of limited limited_place point_repr rebuilt_by source_exceeds rounded_point any donor_points donor_cas sum
rebuilt_is ca [] e = refl
rebuilt_is ca (d ∷ ds) (each_cons p r) = go (any (λ (x : Donor). origin_exceeds x.origin) (d ∷ ds)) (donor_points (d ∷ ds)) (donor_cas (d ∷ ds)) (omega (arith, p))
  where
    go : (b : Bool) (points cas : ℕ) → 0 < cas
        → rebuilt_of ca (limited b (sums points cas))
        ≡ limited (b || exceeds (rounded (rebuilt ca points cas))) (Some (in_mw (rounded (rebuilt ca points cas))))
    go true points cas h = refl
    go false points cas h = rw (ne_eqb cas 0 (λ e. omega arith))

rebuilt_fits : (ca : ℕ) (d : Result DonorSums Exceeds) (r : PlacePoint) → limit_view r ≡ rebuilt_of ca (limit_view d) → PlacePointFits r
unfolding limit_view rebuilt_of rebuilt_from
rebuilt_fits ca (Err x) r e = high r e
  where
    high : (r : PlacePoint) → limit_view r ≡ refusal 18 → PlacePointFits r
    high (Err x) e = tt
    high (Ok o) e = cc
rebuilt_fits ca (Ok d) r e = go (eqb d.ca_sum 0) r e
  where
    go : (b : Bool) (r : PlacePoint) → limit_view r ≡ cond b (within None) (limited_place (rounded (rebuilt ca d.points.0 d.ca_sum))) → PlacePointFits r
    go false r e = limited_fits r (rounded (rebuilt ca d.points.0 d.ca_sum)) e
    go true (Err x) e = tt
    go true (Ok None) e = tt
    go true (Ok (Some p)) e = cc

pub rebuilt_filled : (n ca : ℕ) (cas : List ℕ) (given : ℕ → Option Origin) (d : Result DonorSums Exceeds) (r : PlacePoint) → CasFit n cas → limit_view d ≡ donors_of (donors_among n cas given)
    → limit_view r ≡ rebuilt_of ca (limit_view d) → PlacePointIs (rebuilt_by ca (donors_among n cas given)) r
rebuilt_filled n ca cas given d r f a e =
    record {
      is = e ∙ ap (rebuilt_of ca) a ∙ rebuilt_is ca (donors_among n cas given) (each_donor n cas given f);
      fits = rebuilt_fits ca d r e;
    }

-- the point rebuilt from sums, no donor or some
pub none_rebuilt : (ca : ℕ) (d : DonorSums) → d.ca_sum ≡ 0 → limit_view (Ok None) ≡ rebuilt_from ca d
unfolding limit_view rebuilt_from
none_rebuilt ca d h = rw (eq-eqb d.ca_sum 0 h)

pub some_rebuilt : (ca : ℕ) (d : DonorSums) (q : Result Power Exceeds) (r : PlacePoint) → (d.ca_sum ≡ 0 → ⊥) → r ≡ some_point q
    → limit_view q ≡ limited_point (rounded (rebuilt ca d.points.0 d.ca_sum)) → limit_view r ≡ rebuilt_from ca d
unfolding rebuilt_from
some_rebuilt ca d q r h i e = rw (i, ne_eqb d.ca_sum 0 h) (some_limited q (rounded (rebuilt ca d.points.0 d.ca_sum)) e)
