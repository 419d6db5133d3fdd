-- The blocks of points and profiles day by day: the 20 half-hours of a day have one date.
use mathlib.Core.Path.{◌≡◌, refl, ap, sym, subst, ◌∙◌}
use mathlib.Core.Bool.{Bool, true, false, ◌&&◌, ◌||◌, cond}
use mathlib.Core.List.{List, [], ◌∷◌, ◌++◌}
use Prim.Native.Nat.{ℕ, zero, suc, ◌+◌, ◌*◌, ◌/◌, ◌%◌, ◌≤◌, ◌<◌, min}
use native.Mathlib.Omega.{arith}
use lib.Dec.{T, eqb, leb, le→leb}
use lib.ListN.{length, get_or, take, drop, length-take, length-drop}
use lib.Seq.{get_or-drop}
use Rattle.std.specs.declared.slice.Chunks.{Chunks}
use Rattle.std.specs.List.{list_all, enumerate_from}
use Rattle.std.specs.Slice.Iter.{chunks_rest, chunks_size, chunks_steps}
use Rattle.std.proofs.lemmas.Iterator.{YieldsList}
use Rattle.std.proofs.lemmas.Iterator.Splits.{YieldsList-from_shown_while}
use Rattle.lists.specs.Lists.{all, all_at}
use Rattle.lists.proofs.AllAt.{all_at_parts, all_at_all, all_made, get_d_part}
use Rattle.calendar.specs.declared.Years.{Years}
use Rattle.meaning.specs.Record.{point_fits, points_fit, slots_fit}
use Rattle.meaning.specs.Line.{most_profile}
use Rattle.close_checks.specs.Slots.{slot_fits}
use Rattle.close_checks.specs.Winter.{dated_at, dated_on}

-- ---- the days of a block: parts of n places, the last of which may be shorter; f is no less than the length
pub days_of : {A : Type 0} → ℕ → ℕ → List A → List (List A)
days_of n zero xs = []
days_of n (suc f) [] = []
days_of n (suc f) (x ∷ xs) = take n (x ∷ xs) ∷ days_of n f (drop n (x ∷ xs))

fuel : {A : Type 0} (n f g : ℕ) (xs : List A) → 0 < n → length xs ≤ f → length xs ≤ g → days_of n f xs ≡ days_of n g xs
unfolding days_of
fuel n zero zero xs p h k = refl
fuel n zero (suc g) [] p h k = refl
fuel n zero (suc g) (x ∷ xs) p h k = absurd (omega arith)
fuel n (suc f) zero [] p h k = refl
fuel n (suc f) zero (x ∷ xs) p h k = absurd (omega arith)
fuel n (suc f) (suc g) [] p h k = refl
fuel n (suc f) (suc g) (x ∷ xs) p h k =
    ap (λ (l : List (List _)). take n (x ∷ xs) ∷ l) (fuel n f g (drop n (x ∷ xs)) p (omega (arith, length-drop n (x ∷ xs))) (omega (arith, length-drop n (x ∷ xs))))

-- a list cut after its first n elements
cut : {A : Type 0} (n : ℕ) (xs ys zs : List A) → zs ≡ xs ++ ys → length xs ≡ min n (length zs) → (take n zs ≡ xs) × (drop n zs ≡ ys)
cut zero [] ys zs e h = (refl, e)
cut zero (x ∷ xs) ys zs e h = absurd (omega arith)
cut (suc n) [] ys [] e h = (refl, e)
cut (suc n) [] ys (z ∷ zs) e h = absurd (omega arith)
cut (suc n) (x ∷ xs) ys [] e h = absurd (omega arith)
cut {A} (suc n) (x ∷ xs) ys (z ∷ zs) e h =
    let same : z ≡ x = cc in
    let rest : zs ≡ xs ++ ys = cc in
    let r = cut n xs ys zs rest (omega arith) in
    (let first : take n zs ≡ xs = r.0 in cc, r.1)

module _ {A : Type 0} (n : ℕ) (p : 0 < n) where
  at_end : (xs : List A) → length xs ≡ 0 → length (days_of n (length xs) xs) ≡ 0
  unfolding days_of
  at_end [] h = refl
  at_end (x ∷ xs) h = absurd (omega arith)

  one_more : (zs xs ys : List A) → zs ≡ xs ++ ys → length xs ≡ min n (length zs) → 0 < length zs → days_of n (length zs) zs ≡ xs ∷ days_of n (length ys) ys
  unfolding days_of
  one_more [] xs ys e h k = absurd (omega arith)
  one_more (z ∷ zs) xs ys e h k =
      let r = cut n xs ys (z ∷ zs) e h in
      let d : length (drop n (z ∷ zs)) ≤ length zs = omega (arith, length-drop n (z ∷ zs)) in
      fuel_step (take n (z ∷ zs)) (drop n (z ∷ zs)) (length zs) d r.0 r.1
    where
      fuel_step : (first rest : List A) (f : ℕ) → length rest ≤ f → first ≡ xs → rest ≡ ys → ◌≡◌ {A = List (List A)} (first ∷ days_of n f rest) (xs ∷ days_of n (length ys) ys)
      fuel_step first rest f d e1 e2 = let same : days_of n f rest ≡ days_of n (length rest) rest = fuel n f (length rest) rest p d (omega arith) in cc

  pub chunks_listed : (s : Chunks A) (xs : List A) → chunks_size s ≡ n → chunks_rest s ≡ xs → YieldsList (chunks_steps {A = A}) (λ y. y.now) s (days_of n (length xs) xs)
  chunks_listed s xs e r =
      subst (λ (ys : List A). YieldsList (chunks_steps {A = A}) (λ y. y.now) s (days_of n (length ys) ys)) r
      (YieldsList-from_shown_while (chunks_steps {A = A}) (λ y. y.now) (λ t. days_of n (length (chunks_rest t)) (chunks_rest t)) (λ t. chunks_size t ≡ n)
      (λ t u k z. at_end (chunks_rest t) z.1.0)
      (λ t x u k z. (z.0 ∙ k, one_more (chunks_rest t) x.now (chunks_rest u) z.1.0 (z.1.1 ∙ ap (λ (m : ℕ). min m (length (chunks_rest t))) k) z.1.2))
      s e)

-- ---- the half-hours of a day have its date
same_date : (h : Years) (first d k : ℕ) → k < 20 → dated_at h first (20 * d + k) ≡ dated_on h first d
unfolding dated_at dated_on
same_date h first d k l =
    let e : (20 * d + k) / 3040 ≡ d / 152 = omega arith in
    let f : (20 * d + k) % 3040 / 20 ≡ d % 152 = omega arith in
    rw (e, f)

module _ (q : Bool → ℕ → Bool) (m : ℕ) (h : Years) (first : ℕ) (fits : ℕ → List ℕ → Bool)
    (told : (d : ℕ) (ys : List ℕ) → ((k : ℕ) → get_or ys k 0 ≤ m) → fits d ys ≡ all (q (dated_on h first d)) ys) where
  p : ℕ → ℕ → Bool
  p j v = q (dated_at h first j) v

  day_fits_lem : (d : ℕ) (xs : List ℕ) → all_at p (20 * d) (take 20 xs) ≡ all (q (dated_on h first d)) (take 20 xs)
  unfolding p
  day_fits_lem d xs = all_at_all p (q (dated_on h first d)) (20 * d) (take 20 xs) (λ k s v. ap (λ (b : Bool). q b v) (same_date h first d k (omega (arith, length-take 20 xs))))

  from_day : (f d : ℕ) (xs : List ℕ) → length xs ≤ f → ((k : ℕ) → get_or xs k 0 ≤ m) → list_all (λ (y : ℕ × List ℕ). fits y.0 y.1) (enumerate_from d (days_of 20 f xs)) ≡ all_at p (20 * d) xs
  unfolding days_of
  from_day zero d [] l b = unfold all_at in refl
  from_day zero d (x ∷ xs) l b = absurd (omega arith)
  from_day (suc f) d [] l b = unfold all_at in refl
  from_day (suc f) d (x ∷ xs) l b =
      let ys = x ∷ xs in
      let e : 20 * (d + 1) ≡ 20 * d + 20 = omega arith in
      let t : fits d (take 20 ys) ≡ all_at p (20 * d) (take 20 ys) = told d (take 20 ys) (λ k. omega (arith, get_d_part 20 0 k ys, b (0 + k))) ∙ sym (day_fits_lem d ys) in
      let r = from_day f (d + 1) (drop 20 ys) (omega (arith, length-drop 20 ys)) (λ k. omega (arith, get_or-drop 20 ys k 0, b (20 + k))) in
      both (fits d (take 20 ys)) _ _ _ t (r ∙ ap (λ (i : ℕ). all_at p i (drop 20 ys)) e) ∙ sym (all_at_parts p 20 (20 * d) ys)
    where
      both : (a b c d : Bool) → a ≡ b → c ≡ d → (a && c) ≡ (b && d)
      both a b c d e f = cc

  pub days_fit_lem : (xs : List ℕ) → ((k : ℕ) → get_or xs k 0 ≤ m) → list_all (λ (y : ℕ × List ℕ). fits y.0 y.1) (enumerate_from 0 (days_of 20 (length xs) xs)) ≡ all_at (λ j v. q (dated_at h first j) v) 0 xs
  unfolding p
  days_fit_lem xs b = from_day (length xs) 0 xs (omega arith) b

pub points_all : (h : Years) (first : ℕ) (xs : List ℕ) → points_fit h first xs ≡ all_at (λ j v. point_fits (dated_at h first j) v) 0 xs
unfolding points_fit dated_at
points_all h first xs = refl

pub slots_all : (h : Years) (xs : List ℕ) → slots_fit h xs ≡ all_at (λ j v. slot_fits (dated_at h h.first j) v) 0 xs
unfolding slots_fit slot_fits dated_at
slots_all h xs = refl

-- on a day with a date what C can give, on another only missing points
pub points_on_day : (dated : Bool) (ys : List ℕ) → cond dated (all (point_fits true) ys) (all (point_fits false) ys) ≡ all (point_fits dated) ys
points_on_day true ys = refl
points_on_day false ys = refl

-- ---- profile values of two bytes
value_fits : (v : ℕ) → v ≤ 65535 → T (slot_fits true v)
unfolding slot_fits
value_fits v l = go (eqb v 0)
  where
    go : (b : Bool) → T (b || leb v most_profile)
    go true = tt
    go false = le→leb v most_profile l

-- on a day with a date any value fits, on another only 0
pub slots_on_day : (dated : Bool) (ys : List ℕ) → ((k : ℕ) → get_or ys k 0 ≤ 65535) → (dated || all (slot_fits false) ys) ≡ all (slot_fits dated) ys
slots_on_day true ys h = sym (all_made (slot_fits true) ys (λ k. value_fits _ (h k)))
slots_on_day false ys h = refl
