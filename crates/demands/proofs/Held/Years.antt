-- Numbers by year: after a B, R, P or D line the tallies hold the breaks, rates and dates that the lines say.
use mathlib.Core.Path.{◌≡◌, refl, ap, ◌∙◌}
use mathlib.Core.Bool.{false, not, ◌&&◌, cond}
use mathlib.Core.List.{List, [], ◌∷◌, ◌++◌}
use mathlib.Core.Option.{some, none}
use Prim.Native.Nat.{ℕ, ◌+◌, ◌-◌, ◌≤◌, ◌<◌}
use native.Mathlib.Omega.{arith}
use lib.Dec.{T, eqb, eqb→eq}
use lib.ListN.{length, get_or, set}
use lib.Seq.{get_or-set_same, get_or-set_other}
use borrow.Author.Tests.{eq-eqb, ne_eqb}
use Rattle.lists.specs.Lists.{Each}
use Rattle.lists.proofs.Laws.{each_map}
use Rattle.lists.proofs.Tables.{found, any_held, count_held}
use Rattle.lists.proofs.Tests.{is_true, and_parts}
use Rattle.calendar.specs.declared.Years.{Years}
use Rattle.calendar.specs.Spans.{among}
use Rattle.calendar.proofs.Laws.Positions.{among_words}
use Rattle.meaning.specs.Line.{Line, Tag, B, R, is, tag_of, number_at, year_on, key_of}
use Rattle.meaning.specs.File.{broken_in, rate_in, dates_in}
use Rattle.meaning.specs.Record.{by_year, rate_of_code}
use Rattle.meaning.specs.Calls.{one_more}
use Rattle.demands.proofs.Held.Earlier.{Short, fails, short_key}
use Rattle.demands.proofs.Held.Rows.{where_same, stored_or_not}

-- ---- a line names a year
record Names (t : Tag) (l : Line) (y : ℕ) : Type 0 where
  tag : T (is t (tag_of l))
  year : year_on l ≡ y

names : (t : Tag) (l : Line) (y : ℕ) → T (is t (tag_of l) && eqb (year_on l) y) → Names t l y
names t l y z = let a = and_parts (is t (tag_of l)) (eqb (year_on l) y) z in record { tag = a.0; year = eqb→eq (year_on l) y a.1 }

unnamed : (t : Tag) (l : Line) (y : ℕ) → T (not (is t (tag_of l) && eqb (year_on l) y)) → T (is t (tag_of l)) → year_on l ≡ y → ⊥
unnamed t l y n a i = rw (is_true (is t (tag_of l)) a, eq-eqb (year_on l) y i) at n

-- ---- a line of tag t that sets its year's number to v, where its year has a place
module _ (t : Tag) (l : Line) (span : Years) (ns : List ℕ) (v : ℕ) (a : T (is t (tag_of l)) → T (among span (year_on l))) (n : span.count ≤ length ns) where
  year_named : (y : ℕ) → T (is t (tag_of l) && eqb (year_on l) y) → by_year span (cond (is t (tag_of l)) (set ns (year_on l - span.first) v) ns) y ≡ v
  unfolding by_year
  year_named y h =
      let p = names t l y h in
      let b = (among_words span (year_on l)).0 (a p.tag) in
      rw (← p.year, is_true (among span (year_on l)) (a p.tag), is_true (is t (tag_of l)) p.tag)
      (get_or-set_same ns (year_on l - span.first) v 0 (omega arith))

  year_kept : (y : ℕ) → T (not (is t (tag_of l) && eqb (year_on l) y))
      → by_year span (cond (is t (tag_of l)) (set ns (year_on l - span.first) v) ns) y ≡ by_year span ns y
  unfolding by_year
  year_kept y h =
      where_same (among span y) (get_or (cond (is t (tag_of l)) (set ns (year_on l - span.first) v) ns) (y - span.first) 0) (get_or ns (y - span.first) 0) 0
      (λ c. stored_or_not (is t (tag_of l)) ns (set ns (year_on l - span.first) v) (y - span.first) 0
      (λ d. get_or-set_other ns (year_on l - span.first) (y - span.first) v 0
      (λ e. unnamed t l y h d (omega (arith, (among_words span (year_on l)).0 (a d), (among_words span y).0 c)))))

-- ---- breaks
pub broken_step : (ls : List Line) (l : Line) (span : Years) (ns : List ℕ) → (T (is B (tag_of l)) → T (among span (year_on l))) → span.count ≤ length ns → (y : ℕ)
    → not (eqb (by_year span ns y) 0) ≡ broken_in ls y
    → not (eqb (by_year span (cond (is B (tag_of l)) (set ns (year_on l - span.first) 1) ns) y) 0) ≡ broken_in (ls ++ (l ∷ [])) y
unfolding broken_in
broken_step ls l span ns a n y e =
    any_held (λ (m : Line). is B (tag_of m) && eqb (year_on m) y) ls l
    (not (eqb (by_year span (cond (is B (tag_of l)) (set ns (year_on l - span.first) 1) ns) y) 0)) (not (eqb (by_year span ns y) 0)) e
    (λ h. rw (year_named B l span ns 1 a n y h))
    (λ h. rw (year_kept B l span ns 1 a n y h))

-- ---- rates
rate_free : (l m : Line) (y : ℕ) → Short R l m → year_on l ≡ y → (is R (tag_of m) && eqb (year_on m) y) ≡ false
unfolding key_of
rate_free l m y short i =
    fails (is R (tag_of m) && eqb (year_on m) y) (λ z. let p = names R m y z in let k : year_on m < year_on l = short_key R l m p.tag short in omega (arith, p.year))

rate_of : (n : ℕ) → 10 ≤ n → rate_of_code n ≡ some n
unfolding rate_of_code
rate_of n h = rw (ne_eqb n 0 (λ e. omega arith))

pub rate_step : (ls : List Line) (l : Line) (span : Years) (ns : List ℕ) → (T (is R (tag_of l)) → T (among span (year_on l))) → span.count ≤ length ns
    → (T (is R (tag_of l)) → 10 ≤ number_at l 2) → (T (is R (tag_of l)) → Each (Short R l) ls) → (y : ℕ)
    → rate_of_code (by_year span ns y) ≡ rate_in ls y
    → rate_of_code (by_year span (cond (is R (tag_of l)) (set ns (year_on l - span.first) (number_at l 2)) ns) y) ≡ rate_in (ls ++ (l ∷ [])) y
unfolding rate_in
rate_step ls l span ns a n b short y e =
    found (λ o. o) (λ (m : Line). cond (is R (tag_of m) && eqb (year_on m) y) (some (number_at m 2)) none) ls l (is R (tag_of l) && eqb (year_on l) y) (number_at l 2)
    (rate_of_code (by_year span (cond (is R (tag_of l)) (set ns (year_on l - span.first) (number_at l 2)) ns) y)) (rate_of_code (by_year span ns y)) refl e
    (λ h. let p = names R l y h in each_map (λ m g. rw (rate_free l m y g p.year)) (short p.tag))
    (λ h. rw (year_named R l span ns (number_at l 2) a n y h) (rate_of (number_at l 2) (b (names R l y h).tag)))
    (λ h. ap rate_of_code (year_kept R l span ns (number_at l 2) a n y h))

-- ---- how many dates
here_number : (span : Years) (ns : List ℕ) (y : ℕ) → T (among span y) → get_or ns (y - span.first) 0 ≡ by_year span ns y
unfolding by_year
here_number span ns y t = rw (is_true (among span y) t)

pub dates_step : (t : Tag) (ls : List Line) (l : Line) (span : Years) (ns : List ℕ) → (T (is t (tag_of l)) → T (among span (year_on l))) → span.count ≤ length ns → (y : ℕ)
    → by_year span ns y ≡ dates_in t ls y → by_year span (cond (is t (tag_of l)) (one_more span l ns) ns) y ≡ dates_in t (ls ++ (l ∷ [])) y
unfolding dates_in one_more
dates_step t ls l span ns a n y e =
    count_held (λ (m : Line). is t (tag_of m) && eqb (year_on m) y) ls l
    (by_year span (cond (is t (tag_of l)) (set ns (year_on l - span.first) (get_or ns (year_on l - span.first) 0 + 1)) ns) y) (by_year span ns y) e
    (λ h. let p = names t l y h in
    year_named t l span ns (get_or ns (year_on l - span.first) 0 + 1) a n y h
    ∙ ap (λ (k : ℕ). k + 1) (here_number span ns (year_on l) (a p.tag) ∙ ap (by_year span ns) p.year))
    (year_kept t l span ns (get_or ns (year_on l - span.first) 0 + 1) a n y)
