-- Lists written from the front: one value on a part, and a part for each interval.
use mathlib.Core.Path.{◌≡◌, refl, ap, ap₂, sym, ◌∙◌}
use mathlib.Core.Logic.{◌⊎◌, inl, inr}
use mathlib.Core.Bool.{Bool, true, false, cond}
use mathlib.Core.List.{List, ◌++◌}
use mathlib.Core.Option.{some, none}
use Prim.Native.Nat.{ℕ, zero, suc, ◌+◌, ◌-◌, ◌≤◌, ◌<◌}
use native.Mathlib.Nat.{add-zero}
use native.Mathlib.Omega.{arith}
use lib.Dec.{eqb, leb}
use lib.ListN.{length, get_or, set, replicate, length-replicate, take, drop}
use Rattle.std.proofs.Common.{append_assoc, length-append, length-drop}
use Rattle.std.proofs.lemmas.List.{take-append-drop, take-replicate, length-take, length-take-le, get_or_append_left, get_or-append_right, get_or-take, get_or-drop, get_or-replicate, get_or_past}
use Rattle.std.proofs.lemmas.List.Edits.{fill_from_more}
use lib.Seq.{paste, ext_get_or}
use borrow.Author.Tests.{lt-ltb, le-ltb, le-leb, lt-leb, ne_eqb, eqb-false}
use Rattle.lists.specs.Lists.{tab, sum}
use Rattle.lists.proofs.Laws.{length_tab, get_d_tab0}
use Rattle.std.specs.List.{sum as library_sum}
use Rattle.lists.proofs.Chains.{part_listed, sum_listed}
use Rattle.calendar.proofs.Tables.{tri}
use Rattle.validity.specs.Columns.{interval_start, interval_end, Rising}
use Rattle.validity.specs.Days.{is_around, around, of_interval, sum_between}
use Rattle.validity.specs.Steps.{first_place, filled}
use Rattle.lists.proofs.Ranges.{first_is, first_not}
use Rattle.lists.proofs.Tests.{and_false}

-- ---- one value on a part
module _ {A : Type 0} (xs : List A) (a : ℕ) (v : A) where
  pub filled_length : (b : ℕ) → a ≤ b → b ≤ length xs → length (filled xs a b v) ≡ length xs
  unfolding filled
  filled_length b h l =
      omega (
        arith,
        length-append (take a xs) (replicate (b - a) v ++ drop b xs),
        length-append (replicate (b - a) v) (drop b xs),
        length-take-le a xs (omega arith),
        length-replicate (b - a) v,
        length-drop b xs,
      )

  pub filled_before : (b q : ℕ) (d : A) → q < a → a ≤ length xs → get_or (filled xs a b v) q d ≡ get_or xs q d
  unfolding filled
  filled_before b q d h l =
      get_or_append_left (take a xs) (replicate (b - a) v ++ drop b xs) d q (omega (arith, length-take-le a xs l)) ∙ get_or-take a xs q d h

  pub filled_in : (b q : ℕ) (d : A) → a ≤ q → q < b → b ≤ length xs → get_or (filled xs a b v) q d ≡ v
  unfolding filled
  filled_in b q d h k l =
      get_or-append_right (take a xs) (replicate (b - a) v ++ drop b xs) a q d (length-take-le a xs (omega arith)) h
      ∙ get_or_append_left (replicate (b - a) v) (drop b xs) d (q - a) (omega (arith, length-replicate (b - a) v))
      ∙ get_or-replicate (b - a) (q - a) v d (omega arith)

  -- from b on each place is as it was, also where the list ends before b
  pub filled_after : (b q : ℕ) (d : A) → a ≤ b → b ≤ q → get_or (filled xs a b v) q d ≡ get_or xs q d
  unfolding filled
  filled_after b q d h k = go (tri b (length xs))
    where
      n : ℕ
      n = b - a

      within : b ≤ length xs → get_or (take a xs ++ (replicate n v ++ drop b xs)) q d ≡ get_or xs q d
      within l =
          get_or-append_right (take a xs) (replicate n v ++ drop b xs) a q d (length-take-le a xs (omega arith)) (omega arith)
          ∙ get_or-append_right (replicate n v) (drop b xs) n (q - a) d (length-replicate n v) (omega arith)
          ∙ get_or-drop b xs (q - a - n) d
          ∙ ap (λ (i : ℕ). get_or xs i d) (omega arith)

      past : length xs < b → get_or (take a xs ++ (replicate n v ++ drop b xs)) q d ≡ get_or xs q d
      past l =
          get_or_past (take a xs ++ (replicate n v ++ drop b xs)) q d (omega (
            arith,
            length-append (take a xs) (replicate n v ++ drop b xs),
            length-append (replicate n v) (drop b xs),
            length-take a xs,
            length-replicate n v,
            length-drop b xs,
          ))
          ∙ sym (get_or_past xs q d (omega arith))

      go : (b < length xs) ⊎ ((b ≡ length xs) ⊎ (length xs < b)) → get_or (take a xs ++ (replicate n v ++ drop b xs)) q d ≡ get_or xs q d
      go (inl l) = within (omega arith)
      go (inr (inl e)) = within (omega arith)
      go (inr (inr l)) = past l

  -- nothing is written yet
  pub filled_none : xs ≡ filled xs a a v
  unfolding filled
  filled_none =
      let e : a - a ≡ 0 = omega arith in
      sym (ap (λ (n : ℕ). take a xs ++ (replicate n v ++ drop a xs)) e ∙ take-append-drop a xs)

  as_paste : (b n : ℕ) → n ≡ b - a → a + n ≡ b → paste xs a (replicate n v) n ≡ filled xs a b v
  unfolding filled
  as_paste b n e f =
      append_assoc (take a xs) (take n (replicate n v)) (drop (a + n) xs)
      ∙ ap₂ (λ (ys zs : List A). take a xs ++ (ys ++ zs)) (take-replicate n n v (omega arith) ∙ ap (λ (m : ℕ). replicate m v) e) (ap (λ (m : ℕ). drop m xs) f)

  -- one more place
  pub filled_more : (p : ℕ) → a ≤ p → p < length xs → set (filled xs a p v) p v ≡ filled xs a (p + 1) v
  filled_more p h l =
      let e : a + (p - a) ≡ p = omega arith in
      ap₂ (λ (ys : List A) (q : ℕ). set ys q v) (sym (as_paste p (p - a) refl e)) (sym e)
      ∙ fill_from_more xs a (p - a) v (omega arith)
      ∙ as_paste (p + 1) (p - a + 1) (omega arith) (omega arith)

-- ---- the daily sums from a to the one before b, as a part of the block
pub total_listed : (ds : List ℕ) (a b : ℕ) → a ≤ b → b ≤ length ds → library_sum (take (b - a) (drop a ds)) ≡ sum_between ds a b
unfolding sum_between
total_listed ds a b h l = sum_listed (take (b - a) (drop a ds)) ∙ ap sum (part_listed 0 ds a b h l)

-- ---- the interval around a place
-- readings rise, between any two of them
pub rising : (ps : List ℕ) (n : ℕ) → Rising ps n → (i j : ℕ) → i + j < n → get_or ps i 0 + j ≤ get_or ps (i + j) 0
rising ps n r i zero h = omega (arith, ap (λ (k : ℕ). get_or ps k 0) (add-zero i))
rising ps n r i (suc j) h = omega (arith, rising ps n r i j (omega arith), r.rises (i + j) (omega arith), ap (λ (k : ℕ). get_or ps k 0) (next i j))
  where
    next : (a b : ℕ) → a + b + 1 ≡ a + suc b
    next a b = omega arith

pub later : (ps : List ℕ) (n : ℕ) → Rising ps n → (i j : ℕ) → i ≤ j → j < n → get_or ps i 0 ≤ get_or ps j 0
later ps n r i j h l = omega (arith, rising ps n r i (j - i) (omega arith), ap (λ (k : ℕ). get_or ps k 0) at_end)
  where
    at_end : i + (j - i) ≡ j
    at_end = omega arith

module _ (ps : List ℕ) (n : ℕ) (r : Rising ps n) where
  pub around_here : (i p : ℕ) → i + 1 < n → interval_start ps i ≤ p → p < interval_end ps i → around ps n p ≡ some i
  unfolding around is_around
  around_here i p h a b =
      first_is (is_around ps p) (n - 1) i (omega arith)
      (λ j l. rw (le-ltb p (interval_end ps j) (omega (arith, later ps n r (j + 1) i (omega arith) (omega arith)))) (and_false (leb (interval_start ps j) p)))
      (rw (le-leb (interval_start ps i) p a, lt-ltb p (interval_end ps i) b))

  pub around_before : (p : ℕ) → (0 < n → p < get_or ps 0 0) → around ps n p ≡ none
  unfolding around is_around
  around_before p h =
      first_not (is_around ps p) (n - 1) 0
      (λ i a b. rw (lt-leb (interval_start ps i) p (omega (arith, h (omega arith), later ps n r 0 i (omega arith) (omega arith)))))

  pub around_after : (p : ℕ) → (0 < n → get_or ps (n - 1) 0 ≤ p) → around ps n p ≡ none
  unfolding around is_around
  around_after p h =
      first_not (is_around ps p) (n - 1) 0
      (λ i a b. rw (le-ltb p (interval_end ps i) (omega (arith, h (omega arith), later ps n r (i + 1) (n - 1) (omega arith) (omega arith)))) (and_false (leb (interval_start ps i) p)))

-- ---- the first reading
pub first_there : (ps : List ℕ) (n : ℕ) → 0 < n → first_place ps n ≡ get_or ps 0 0
unfolding first_place
first_there ps n h = rw (ne_eqb n 0 (λ e. omega arith))

pub first_within : (ps : List ℕ) (n : ℕ) → Rising ps n → first_place ps n ≤ 4392
unfolding first_place
first_within ps n r = go (eqb n 0) refl
  where
    go : (b : Bool) → eqb n 0 ≡ b → cond b 4392 (get_or ps 0 0) ≤ 4392
    go true e = omega arith
    go false e = omega (arith, r.below 0 (positive n e))
      where
        positive : (m : ℕ) → eqb m 0 ≡ false → 0 < m
        positive zero q = absurd (eqb-false 0 0 q refl)
        positive (suc m) q = omega arith

-- ---- a part for each interval
-- below place m each entry is what the interval around it has
abbrev pub Spread : {A : Type 0} → List ℕ → ℕ → A → (ℕ → A) → ℕ → List A → Type 0
Spread ps n z f m xs = (q : ℕ) → q < m → get_or xs q z ≡ of_interval z f (around ps n q)

module _ (ps : List ℕ) (n : ℕ) (r : Rising ps n) {A : Type 0} (z : A) (f : ℕ → A) where
  pub spread_start : (xs : List A) (a : ℕ) → length xs ≡ 4392 → a ≤ 4392 → (0 < n → a ≡ get_or ps 0 0) → Spread ps n z f a (filled xs 0 a z)
  spread_start xs a e l h q k = rw (around_before ps n r q (λ p. omega (arith, h p))) (filled_in xs 0 z a q z (omega arith) k (omega arith))

  on : (xs : List A) (i : ℕ) → length xs ≡ 4392 → i + 1 < n → Spread ps n z f (interval_start ps i) xs → Spread ps n z f (interval_end ps i) (filled xs (interval_start ps i) (interval_end ps i) (f i))
  on xs i e h s q k = go (tri q (interval_start ps i))
    where
      end : interval_end ps i ≤ length xs
      end = omega (arith, r.below (i + 1) h)

      in_it : interval_start ps i ≤ q → get_or (filled xs (interval_start ps i) (interval_end ps i) (f i)) q z ≡ of_interval z f (around ps n q)
      in_it a = rw (around_here ps n r i q h a k) (filled_in xs (interval_start ps i) (f i) (interval_end ps i) q z a k end)

      go : (q < interval_start ps i) ⊎ ((q ≡ interval_start ps i) ⊎ (interval_start ps i < q)) → get_or (filled xs (interval_start ps i) (interval_end ps i) (f i)) q z ≡ of_interval z f (around ps n q)
      go (inl a) = filled_before xs (interval_start ps i) (f i) (interval_end ps i) q z a (omega (arith, end, r.rises i h)) ∙ s q a
      go (inr (inl a)) = in_it (omega arith)
      go (inr (inr a)) = in_it (omega arith)

  pub spread_on : (xs : List A) (i a b : ℕ) (v : A) → length xs ≡ 4392 → i + 1 < n → a ≡ interval_start ps i → b ≡ interval_end ps i → v ≡ f i → Spread ps n z f a xs → Spread ps n z f b (filled xs a b v)
  spread_on xs i a b v l h d e g s = rw (d, e, g) (on xs i l h (rw d at s))

  pub spread_end : (xs : List A) (a : ℕ) → length xs ≡ 4392 → a ≤ 4392 → (0 < n → a ≡ get_or ps (n - 1) 0) → Spread ps n z f a xs → filled xs a 4392 z ≡ tab 4392 0 (λ p. of_interval z f (around ps n p))
  spread_end xs a e m h s =
      ext_get_or z (filled xs a 4392 z) (tab 4392 0 (λ p. of_interval z f (around ps n p))) (long ∙ sym (length_tab 4392 0 (λ p. of_interval z f (around ps n p))))
      (λ q l. let k : q < 4392 = omega (arith, long) in go q k (tri q a) ∙ sym (get_d_tab0 4392 (λ p. of_interval z f (around ps n p)) q z k))
    where
      long : length (filled xs a 4392 z) ≡ 4392
      long = filled_length xs a z 4392 m (omega arith) ∙ e

      past : (q : ℕ) → q < 4392 → a ≤ q → get_or (filled xs a 4392 z) q z ≡ of_interval z f (around ps n q)
      past q k l = rw (around_after ps n r q (λ p. omega (arith, h p))) (filled_in xs a z 4392 q z l k (omega arith))

      go : (q : ℕ) → q < 4392 → (q < a) ⊎ ((q ≡ a) ⊎ (a < q)) → get_or (filled xs a 4392 z) q z ≡ of_interval z f (around ps n q)
      go q k (inl l) = filled_before xs a z 4392 q z l (omega arith) ∙ s q l
      go q k (inr (inl l)) = past q k (omega arith)
      go q k (inr (inr l)) = past q k (omega arith)
