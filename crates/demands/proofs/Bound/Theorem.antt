-- Demand 3 over one filing: 1000 times the level lies within 500½ + 1500 / T of the exact fraction, in mW; and nearer where less is rounded.
use mathlib.Core.Path.{◌≡◌, refl, ap}
use mathlib.Core.Logic.{◌⊎◌, inl, inr}
use mathlib.Core.Option.{Option, some, none}
use Prim.Native.Nat.{ℕ, ◌*◌, ◌≤◌, ◌<◌}
use native.Mathlib.Omega.{arith}
use Rattle.lists.specs.Lists.{sum, Each}
use Rattle.rounding.specs.Points.{Fraction, rounded, rated, level}
use Rattle.lists.proofs.Laws.{each_map}
use Rattle.lists.proofs.Sums.{Held}
use Rattle.lists.proofs.Tables.{each_both}
use Rattle.note.proofs.Factors.{c_most}
use Rattle.meaning.specs.Filing.{Filing}
use Rattle.meaning.specs.Cases.{Case, case_m, case1, case2, case3, case4, case_p, case5, case6, case_of}
use Rattle.meaning.specs.Points.{CurvePlace, place_of, all_places, source_at, rounded_point, applied_rate, with_rate, rated_by, point_at}
use Rattle.meaning.specs.Level.{points_in, counted, coefficient_of, ncc, lowest_rate, report_of}
use Rattle.demands.specs.Exact.{times, divided_by, total, exactly, exact_rate, exact_by, exact_at, exact_points, exact_fraction}
use Rattle.meaning.specs.Closing.{closing_refusal}
use Rattle.demands.specs.Demands.{Within, Bounded}
use Rattle.demands.proofs.Bound.Near.{Near, Agree, agree_wider, both_map, both_present, near_total, near_rated, near_unrated, near_full, near_level, point_over}
use Rattle.demands.proofs.Bound.Sane.{Sane}
use Rattle.demands.proofs.Bound.Years.{InHistory}
use Rattle.demands.proofs.Bound.Lowest.{lowest_top, lowest_each, lowest_positive}
use Rattle.demands.proofs.Bound.Places.{each_place}
use Rattle.demands.proofs.Bound.Sources.{halves_of, case_agrees}
use Rattle.demands.proofs.Bound.Counted.{exact_counted, some_point}

-- before its rate a place's point lies within so many halves of its fraction, or both are missing
abbrev pub Off : ℕ → CurvePlace → Type 0
Off halves q = Agree halves 2 (rounded_point q.source) (exactly q.source)

-- rates round, or no history year has a rate but 1000
abbrev pub Rates : ℕ → Filing → Type 0
Rates rates F = (rates ≡ 1) ⊎ ((y r : ℕ) → InHistory F y → applied_rate F y ≡ some r → r ≡ 1000)

-- ---- the rate of one point
record Rated (rates t r : ℕ) : Type 0 where
  some_rate : 0 < r
  least : t ≤ r
  rounds : (rates ≡ 1) ⊎ (r ≡ 1000)

rate_near : (h rates t r n : ℕ) (q : Fraction) → t ≤ 1000 → Rated rates t r → Near h 2 n q → Near (point_over h rates t) (2 * t) (with_rate (some r) n) (exact_rate (some r) q)
unfolding with_rate exact_rate rounded rated
rate_near h rates t r n q l f g = go f.rounds
  where
    go : (rates ≡ 1) ⊎ (r ≡ 1000) → Near (point_over h rates t) (2 * t) (with_rate (some r) n) (exact_rate (some r) q)
    go (inl e) = rw e (near_rated h t r n q f.some_rate f.least g)
    go (inr e) = rw e (near_full h rates t n q l g)

-- a point after its rate; what is missing stays missing
rate_agrees : (h rates t : ℕ) → t ≤ 1000 → (r : Option ℕ) → Held (Rated rates t) r → (o : Option ℕ) (p : Option Fraction) → Agree h 2 o p
    → Agree (point_over h rates t) (2 * t) (rated_by r o) (exact_by r p)
unfolding rated_by exact_by with_rate exact_rate
rate_agrees h rates t l r f none none a = tt
rate_agrees h rates t l r f none (some q) a = a
rate_agrees h rates t l r f (some n) none a = a
rate_agrees h rates t l none f (some n) (some q) a = near_unrated h rates t n q l a
rate_agrees h rates t l (some r) f (some n) (some q) a = rate_near h rates t r n q l f a

-- ---- the theorem, with the halves before the rate and whether rates round
module _ (halves rates : ℕ) (F : Filing) (s : Sane F) (off : Each (Off halves) (all_places F)) (r : Rates rates F) where
  each_rate : Each (λ q. Held (Rated rates (lowest_rate F)) q.rate) (all_places F)
  unfolding place_of applied_rate
  each_rate = each_place F (λ y w h t d. go y t (applied_rate F y) refl)
    where
      rounds : (y k : ℕ) → InHistory F y → applied_rate F y ≡ some k → Rates rates F → (rates ≡ 1) ⊎ (k ≡ 1000)
      rounds y k t e (inl h) = inl h
      rounds y k t e (inr h) = inr (h y k t e)

      go : (y : ℕ) → InHistory F y → (o : Option ℕ) → applied_rate F y ≡ o → Held (Rated rates (lowest_rate F)) o
      go y t none e = tt
      go y t (some k) e =
          record { some_rate = omega (arith, s.least_rate y k t e); least = lowest_each F y k t e; rounds = rounds y k t e r }

  each_agrees : Each (λ q. Agree (point_over halves rates (lowest_rate F)) (2 * lowest_rate F) (point_at q) (exact_at q)) (all_places F)
  unfolding point_at exact_at
  each_agrees =
      each_map (λ q p. rate_agrees halves rates (lowest_rate F) (lowest_top F) q.rate p.1 (rounded_point q.source) (exactly q.source) p.0)
      (each_both off each_rate)

  sums_near : Near (counted F * point_over halves rates (lowest_rate F)) (2 * lowest_rate F) (sum (points_in (all_places F))) (total (exact_points (all_places F)))
  unfolding counted points_in exact_points
  sums_near = near_total (both_present (both_map point_at exact_at each_agrees))

  -- both sums are over the same count
  exact_is : exact_fraction F ≡ divided_by (times (coefficient_of F) (total (exact_points (all_places F)))) (100 * counted F)
  unfolding exact_fraction counted
  exact_is = ap (λ (k : ℕ). divided_by (times (coefficient_of F) (total (exact_points (all_places F)))) (100 * k)) (exact_counted (all_places F))

  pub within_by : Within halves rates (lowest_rate F) (ncc F) (exact_fraction F)
  unfolding ncc rounded level coefficient_of
  within_by =
      rw exact_is
      (near_level halves rates (lowest_rate F) (coefficient_of F) (counted F) (sum (points_in (all_places F))) (total (exact_points (all_places F)))
      (lowest_positive F s) (c_most F.site.al F.site.filiere) (some_point F s.known) sums_near)

-- ---- where a close is not refused
-- the halves by the cases of the history years
off_by : (halves : ℕ) (F : Filing) → Sane F → closing_refusal F ≡ none → ((y : ℕ) → InHistory F y → halves_of (case_of F y) ≤ halves) → Each (Off halves) (all_places F)
unfolding place_of
off_by halves F s ok h =
    each_place F (λ y w k t d.
    agree_wider (halves_of (case_of F y)) halves 2 (h y t) (rounded_point (source_at F y w k)) (exactly (source_at F y w k)) (case_agrees F s ok y w k t d))

three_halves : (k : Case) → halves_of k ≤ 3
unfolding halves_of
three_halves case_m = omega arith
three_halves case1 = omega arith
three_halves case2 = omega arith
three_halves case3 = omega arith
three_halves case4 = omega arith
three_halves case_p = omega arith
three_halves case5 = omega arith
three_halves case6 = omega arith

one_half : (k : Case) → (k ≡ case3 → ⊥) → (k ≡ case5 → ⊥) → halves_of k ≤ 1
unfolding halves_of
one_half case_m a b = omega arith
one_half case1 a b = omega arith
one_half case2 a b = omega arith
one_half case3 a b = absurd (a refl)
one_half case4 a b = omega arith
one_half case_p a b = omega arith
one_half case5 a b = absurd (b refl)
one_half case6 a b = omega arith

-- 500½ + 1500 / T
pub bounded : (F : Filing) → Sane F → closing_refusal F ≡ none → Within 3 1 (lowest_rate F) (ncc F) (exact_fraction F)
bounded F s ok = within_by 3 1 F s (off_by 3 F s ok (λ y t. three_halves (case_of F y))) (inl refl)

-- as demand 3 states it of a close's report
pub bounded_report : (F : Filing) → Sane F → closing_refusal F ≡ none → Bounded F (report_of F)
unfolding report_of
bounded_report F s ok = bounded F s ok

-- 500½ + 500 / T where no point is rebuilt from rounded donors
pub closer : (F : Filing) → Sane F → closing_refusal F ≡ none
    → ((y : ℕ) → InHistory F y → (¬ (case_of F y ≡ case3)) × (¬ (case_of F y ≡ case5)))
    → Within 1 1 (lowest_rate F) (ncc F) (exact_fraction F)
closer F s ok h = within_by 1 1 F s (off_by 1 F s ok (λ y t. one_half (case_of F y) (h y t).0 (h y t).1)) (inl refl)

-- 500 where every year is measured and no rate is below 1000
pub closest : (F : Filing) → Sane F → closing_refusal F ≡ none
    → ((y : ℕ) → InHistory F y → case_of F y ≡ case_m)
    → ((y r : ℕ) → InHistory F y → applied_rate F y ≡ some r → 1000 ≤ r)
    → Within 0 0 (lowest_rate F) (ncc F) (exact_fraction F)
unfolding halves_of applied_rate
closest F s ok m full =
    within_by 0 0 F s (off_by 0 F s ok (λ y t. rw (m y t) (omega arith))) (inr (λ y r t e. omega (arith, full y r t e, s.most_rate y r t e)))
