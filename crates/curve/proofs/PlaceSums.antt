-- Laws of sums and entries: one place, two groups of places in a row, and bounds.
use mathlib.Core.Path.{◌≡◌, refl, ap, sym, ◌∙◌}
use mathlib.Core.Bool.{Bool, true, false, ◌||◌, cond}
use mathlib.Core.List.{List, [], ◌∷◌, ◌++◌, map}
use mathlib.Core.Option.{Option, some, none}
use Prim.Native.Nat.{ℕ, suc, ◌+◌, ◌≤◌}
use native.Mathlib.Nat.{add-zero, zero-add, add_assoc, add-suc, suc-add}
use native.Mathlib.Omega.{arith}
use lib.Dec.{eqb}
use lib.ListN.{length, set, length-append, length-map}
use lib.Seq.{sets}
use Rattle.std.proofs.lemmas.List.{map-append}
use Rattle.lists.specs.Lists.{any, present, sum}
use Rattle.lists.proofs.Tests.{or_assoc}
use Rattle.lists.proofs.Blocks.{sum_append}
use Rattle.rounding.specs.Points.{most_point}
use Rattle.rounding.proofs.Formulas.{rated_most}
use Rattle.meaning.specs.Points.{Source, CurvePlace, rounded_point, source_exceeds, point_at, rated_by, with_rate}
use Rattle.meaning.specs.Level.{entry_of}
use Rattle.meaning.specs.Record.{rate_of_code}
use Rattle.rounding.specs.Units.{in_mw}
use Rattle.rounding.specs.Answers.{limit_view, limited}
use Rattle.rounding.specs.declared.Exceeds.{Exceeds}
use Rattle.rounding.proofs.Answers.{limit_same}
use Rattle.std.specs.Prelude.{Result, Ok, Err, Some, None}
use Rattle.std.specs.Result.{result_and}
use Rattle.points.specs.PlacePoints.{PlacePoint, point_repr}
use Rattle.points.specs.OwnFits.{PlacePointFits, PlacePointIs}
use Rattle.points.specs.Fits.{RateFits}
use Rattle.curve.specs.declared.place_sums.PlaceSum.{PlaceSum}
use Rattle.curve.specs.PlaceSums.{limit_where, place, point_in, exceeds_in, place_sum_of, entry_in, entries_of, nothing, plus, after_rate, entry_of_point, sum_of_point}
use Rattle.curve.specs.PlaceSumFits.{PlaceSumFits}

-- ---- two limits
and_assoc : (a b c : Result (Unit {0}) Exceeds) → result_and (result_and a b) c ≡ result_and a (result_and b c)
and_assoc (Ok u) b c = refl
and_assoc (Err e) b c = refl

and_kept : (a : Result (Unit {0}) Exceeds) → result_and a (Ok tt) ≡ a
and_kept (Ok u) = refl
and_kept (Err e) = refl

and_where : (x y : Bool) → limit_where (x || y) ≡ result_and (limit_where x) (limit_where y)
unfolding limit_where
and_where true y = refl
and_where false y = refl

-- ---- what is told of the limit
pub exceeded : {A : Type 0} (b : Bool) (a : A) {e x : Exceeds} → limit_where b ≡ Err e → limit_view {A = A} (Err x) ≡ limited b a
unfolding limit_where limit_view limited
exceeded true a h = refl
exceeded false a h = let n : ⊥ = cc in absurd n

pub kept : {A : Type 0} (b : Bool) (a : A) {u : Unit {0}} → limit_where b ≡ Ok u → limit_view (Ok a) ≡ limited b a
unfolding limit_where limit_view limited
kept true a h = let n : ⊥ = cc in absurd n
kept false a h = refl

-- ---- two sums, and the empty one
pub plus_assoc : (a b c : PlaceSum) → plus (plus a b) c ≡ plus a (plus b c)
unfolding plus
plus_assoc a b c =
    rw (and_assoc a.limit b.limit c.limit, add_assoc a.sum.0 b.sum.0 c.sum.0, add_assoc a.counted b.counted c.counted)

pub nothing_plus : (t : PlaceSum) → plus nothing t ≡ t
unfolding plus
nothing_plus t = rw (zero-add t.sum.0, zero-add t.counted)

pub plus_nothing : (t : PlaceSum) → plus t (place_sum_of []) ≡ t
unfolding plus place_sum_of limit_where any sum present
plus_nothing t = rw (and_kept t.limit, add-zero t.sum.0, add-zero t.counted)

-- ---- two groups of places in a row
pub any_join : {A : Type 0} (p : A → Bool) (xs ys : List A) → any p (xs ++ ys) ≡ (any p xs || any p ys)
unfolding any
any_join p [] ys = refl
any_join p (x ∷ xs) ys = rw (any_join p xs ys) (sym (or_assoc (p x) (any p xs) (any p ys)))

present_join : {A : Type 0} (os ps : List (Option A)) → present (os ++ ps) ≡ present os ++ present ps
unfolding present
present_join [] ps = refl
present_join (none ∷ os) ps = present_join os ps
present_join (some x ∷ os) ps = ap (λ l. x ∷ l) (present_join os ps)

points_join : (xs ys : List CurvePlace) → present (map point_in (xs ++ ys)) ≡ present (map point_in xs) ++ present (map point_in ys)
points_join xs ys = ap present (map-append point_in xs ys) ∙ present_join (map point_in xs) (map point_in ys)

pub tally_join : (xs ys : List CurvePlace) → place_sum_of (xs ++ ys) ≡ plus (place_sum_of xs) (place_sum_of ys)
unfolding place_sum_of plus
tally_join xs ys =
    let ps = present (map point_in xs) in
    let qs = present (map point_in ys) in
    rw (any_join exceeds_in xs ys, and_where (any exceeds_in xs) (any exceeds_in ys), points_join xs ys, sum_append ps qs, length-append ps qs)

pub tally_on : (t : PlaceSum) (xs ys : List CurvePlace) {x : PlaceSum} → plus t (place_sum_of (xs ++ ys)) ≡ x → plus (plus t (place_sum_of xs)) (place_sum_of ys) ≡ x
tally_on t xs ys e = plus_assoc t (place_sum_of xs) (place_sum_of ys) ∙ sym (ap (plus t) (tally_join xs ys)) ∙ e

pub entries_join : (xs ys : List CurvePlace) → entries_of (xs ++ ys) ≡ entries_of xs ++ entries_of ys
unfolding entries_of
entries_join xs ys = map-append entry_in xs ys

sets_join : {A : Type 0} (l : List A) (i : ℕ) (xs ys : List A) → sets (sets l i xs) (i + length xs) ys ≡ sets l i (xs ++ ys)
sets_join l i [] ys = rw (add-zero i)
sets_join l i (x ∷ xs) ys =
    ap (λ (k : ℕ). sets (sets (set l i x) (suc i) xs) k ys) (add-suc i (length xs) ∙ sym (suc-add i (length xs))) ∙ sets_join (set l i x) (suc i) xs ys

entries_length : (xs : List CurvePlace) → length (entries_of xs) ≡ length xs
unfolding entries_of
entries_length xs = length-map xs entry_in

pub curve_on : (l : List ℕ) (i j : ℕ) (xs ys : List CurvePlace) {x : List ℕ} → j ≡ i + length xs → sets l i (entries_of (xs ++ ys)) ≡ x → sets (sets l i (entries_of xs)) j (entries_of ys) ≡ x
curve_on l i j xs ys h e =
    ap (λ (k : ℕ). sets (sets l i (entries_of xs)) k (entries_of ys)) (h ∙ sym (ap (λ (k : ℕ). i + k) (entries_length xs)))
    ∙ sets_join l i (entries_of xs) (entries_of ys)
    ∙ sym (ap (sets l i) (entries_join xs ys))
    ∙ e

-- ---- one place
-- what its point adds, by whether its source exceeds the limit and what it rounds to
module _ (rate : ℕ) (s : Source) where
  entry_by : (f : PlacePoint) (b : Bool) (p : Option ℕ) → limit_view f ≡ limited b (point_repr p)
      → entry_of_point (after_rate rate f) ≡ entry_of (cond b none (rated_by (rate_of_code rate) p))
  unfolding entry_of_point after_rate limit_view limited point_repr entry_of rated_by
  entry_by f true p e = rw (limit_same f (Err (record {})) e) refl
  entry_by f false none e = rw (limit_same f (Ok None) e) refl
  entry_by f false (some n) e = rw (limit_same f (Ok (Some (in_mw n))) e) refl

  tally_by : (f : PlacePoint) (b : Bool) (p : Option ℕ) → source_exceeds s ≡ b → rounded_point s ≡ p → limit_view f ≡ limited b (point_repr p)
      → sum_of_point (after_rate rate f) ≡ place_sum_of (place rate s ∷ [])
  unfolding sum_of_point after_rate limit_view limited point_repr place_sum_of limit_where exceeds_in point_in point_at rated_by any present sum
  tally_by f true p x r e = rw (limit_same f (Err (record {})) e, x) refl
  tally_by f false none x r e = rw (limit_same f (Ok None) e, x, r) refl
  tally_by f false (some n) x r e = rw (limit_same f (Ok (Some (in_mw n))) e, x, r, add-zero (with_rate (rate_of_code rate) n)) refl

  pub entry_is : (f : PlacePoint) → PlacePointIs s f → entry_of_point (after_rate rate f) ≡ entry_in (place rate s)
  unfolding entry_in point_in point_at
  entry_is f i = entry_by f (source_exceeds s) (rounded_point s) i.is

  pub tally_is : (f : PlacePoint) → PlacePointIs s f → sum_of_point (after_rate rate f) ≡ place_sum_of (place rate s ∷ [])
  tally_is f i = tally_by f (source_exceeds s) (rounded_point s) refl refl i.is

-- ---- bounds
pub rate_most : (rate p : ℕ) → RateFits rate → p ≤ most_point → with_rate (rate_of_code rate) p ≤ 20000000000000
unfolding rate_of_code with_rate
rate_most rate p f h = go (eqb rate 0) refl
  where
    go : (b : Bool) → eqb rate 0 ≡ b → with_rate (cond b none (some rate)) p ≤ 20000000000000
    go true e = omega (arith, h)
    go false e = rated_most p rate h (f.least (borrow.Author.Tests.eqb-false rate 0 e))

pub one_fits : (rate : ℕ) (f : PlacePoint) → RateFits rate → PlacePointFits f → PlaceSumFits 1 (sum_of_point (after_rate rate f))
unfolding sum_of_point after_rate
one_fits rate (Ok None) r f = record { sum = omega arith; counted = omega arith }
one_fits rate (Err x) r f = record { sum = omega arith; counted = omega arith }
one_fits rate (Ok (Some p)) r f = record { sum = omega (arith, rate_most rate p.0 r f); counted = omega arith }

pub plus_fits : (m n : ℕ) (a b : PlaceSum) → PlaceSumFits m a → PlaceSumFits n b → PlaceSumFits (m + n) (plus a b)
unfolding plus
plus_fits m n a b f g = record { sum = omega (arith, f.sum, g.sum); counted = omega (arith, f.counted, g.counted) }

pub nothing_fits : PlaceSumFits 0 nothing
nothing_fits = record { sum = omega arith; counted = omega arith }
