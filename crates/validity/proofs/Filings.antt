-- The curve years of the filing in record and blocks, by its rows.
use mathlib.Core.Path.{◌≡◌, refl, ap, sym, ◌∙◌}
use mathlib.Core.Bool.{Bool, true, false, ◌&&◌, not, cond}
use mathlib.Core.List.{List, map}
use mathlib.Core.Option.{some, none}
use Prim.Native.Nat.{ℕ, zero, suc, ◌+◌, ◌-◌, ◌*◌, ◌<◌}
use native.Mathlib.Omega.{arith}
use lib.Dec.{T, eqb}
use lib.ListN.{get_or, take, drop}
use lib.Seq.{get_or-take, get_or-drop}
use borrow.Author.Tests.{lt-ltb, le-leb}
use Rattle.lists.specs.Lists.{sum, count, range, tab, is_some, Each, each_nil, each_cons}
use Rattle.lists.proofs.Tests.{is_true}
use Rattle.lists.proofs.Laws.{each_map}
use Rattle.calendar.specs.Spans.{among, history_years}
use Rattle.calendar.proofs.Laws.{among_words, known_parts, history_bounds, history_short}
use Rattle.note.proofs.PeakDays.{each_winter}
use Rattle.note.proofs.History.{known}
use Rattle.meaning.specs.Filing.{Site}
use Rattle.meaning.specs.Validity.{present_points, expected_points, enough, curve_valid}
use Rattle.meaning.specs.Blocks.{Blocks, missing_point, row_size, is_near, near_start, far_start, slot_at, code_at, point_of_code}
use Rattle.meaning.specs.Record.{Tallies, history_of_site, point_held, filing_held}
use Rattle.blocks.specs.Rows.{holds_year, part, row_of}
use Rattle.validity.specs.Availability.{is_present, present_on_day, present_in_row, valid_row}

-- ---- sums and counts that agree at each element
sum_each : {A : Type 0} (f g : A → ℕ) {xs : List A} → Each (λ x. f x ≡ g x) xs → sum (map f xs) ≡ sum (map g xs)
unfolding sum
sum_each f g each_nil = refl
sum_each f g (each_cons {x = x} {xs = xs} h r) = rw (h, sum_each f g r)

count_tab : (p q : ℕ → Bool) (n i : ℕ) → ((k : ℕ) → k < i + n → p k ≡ q k) → count p (tab n i (λ k. k)) ≡ count q (tab n i (λ k. k))
unfolding tab count
count_tab p q zero i h = refl
count_tab p q (suc n) i h = rw (h i (omega arith)) (ap (λ (c : ℕ). cond (q i) (suc c) c) (count_tab p q n (suc i) (λ k j. h k (omega arith))))

-- ---- the blocks have the years of every history
pub history_held : (al f y : ℕ) → T (among (history_years al f) y) → holds_year al y ≡ true
unfolding holds_year
history_held al f y t =
    let k = known al f y t in
    let b = history_bounds al f k in
    let a = known_parts al f k in
    let m = (among_words (history_years al f) y).0 t in
    let c = history_short al f k in
    rw (le-leb 2021 al (omega arith), le-leb al 2026 (omega arith), le-leb (al - 14) y (omega arith), le-leb y (al - 5) (omega arith))

-- ---- a place of a row in its block
row_code : (al : ℕ) (b : Blocks) (y w h : ℕ) → holds_year al y ≡ true → w < 152 → h < 20 → get_or (row_of al b.near b.far y) (slot_at w h) missing_point ≡ code_at al b y w h
unfolding row_of part code_at slot_at
row_code al b y w h e i j = rw e (go (is_near al y))
  where
    there : (xs : List ℕ) (a : ℕ) → get_or (take row_size (drop a xs)) (20 * w + h) missing_point ≡ get_or xs (a + (20 * w + h)) missing_point
    there xs a = get_or-take row_size (drop a xs) (20 * w + h) missing_point (omega arith) ∙ get_or-drop a xs (20 * w + h) missing_point

    go : (c : Bool) → get_or (cond c (take row_size (drop (near_start al y) b.near)) (take row_size (drop (far_start al y) b.far))) (20 * w + h) missing_point
        ≡ cond c (get_or b.near (near_start al y + (20 * w + h)) missing_point) (get_or b.far (far_start al y + (20 * w + h)) missing_point)
    go true = there b.near (near_start al y)
    go false = there b.far (far_start al y)

some_code : (v : ℕ) → is_some (point_of_code v) ≡ not (eqb v missing_point)
unfolding point_of_code
some_code v = go (eqb v missing_point)
  where
    go : (c : Bool) → is_some (cond c none (some v)) ≡ not c
    go true = refl
    go false = refl

module _ (t : Site) (n : ℕ) (k : Tallies) (e : Bool) (b : Blocks) (y : ℕ) (m : T (among (history_of_site t) y)) where
  held_year : holds_year t.al y ≡ true
  unfolding history_of_site
  held_year = history_held t.al t.filiere y m

  -- a point of the filing is the one in the year's row
  pub point_is : (w h : ℕ) → w < 152 → h < 20 → (filing_held t n k e b).point y w h ≡ point_of_code (get_or (row_of t.al b.near b.far y) (slot_at w h) missing_point)
  unfolding filing_held point_held
  point_is w h i j = rw (is_true (among (history_of_site t) y) m, lt-ltb w 152 i, lt-ltb h 20 j) (ap point_of_code (sym (row_code t.al b y w h held_year i j)))

  there_is : (w h : ℕ) → w < 152 → h < 20 → is_some ((filing_held t n k e b).point y w h) ≡ is_present (row_of t.al b.near b.far y) w h
  unfolding is_present
  there_is w h i j = ap is_some (point_is w h i j) ∙ some_code (get_or (row_of t.al b.near b.far y) (slot_at w h) missing_point)

  pub present_is : present_points (filing_held t n k e b) y ≡ present_in_row (row_of t.al b.near b.far y) y
  unfolding present_points present_in_row present_on_day range
  present_is =
      sum_each (λ w. count (λ h. is_some ((filing_held t n k e b).point y w h)) (tab 20 0 (λ h. h))) (λ w. count (is_present (row_of t.al b.near b.far y) w) (tab 20 0 (λ h. h)))
      (each_map (λ w i. count_tab (λ h. is_some ((filing_held t n k e b).point y w h)) (is_present (row_of t.al b.near b.far y) w) 20 0 (λ h j. there_is w h i (omega arith))) (each_winter y))

  -- a curve year of the filing is valid where its row is
  pub valid_is : curve_valid (filing_held t n k e b) y ≡ valid_row (row_of t.al b.near b.far y) y ((filing_held t n k e b).broken y)
  unfolding curve_valid valid_row
  valid_is = ap (λ (c : ℕ). not ((filing_held t n k e b).broken y) && enough c (expected_points y)) present_is
