-- The lines before an accepted one: those of its tag have earlier dates or years, so none of them names its place.
use mathlib.Core.Path.{◌≡◌, refl, ap, sym, ◌∙◌}
use mathlib.Core.Bool.{Bool, true, false, not, ◌&&◌}
use mathlib.Core.List.{List}
use mathlib.Core.Option.{none}
use Prim.Native.Nat.{ℕ, ◌+◌, ◌*◌, ◌<◌}
use native.Mathlib.Omega.{arith}
use lib.Dec.{T, leb, ltb, eqb, nleb→lt, ltb→lt, lt→ltb, eqb→eq}
use borrow.Author.Tests.{eq-eqb}
use Rattle.lists.specs.Lists.{any, Each}
use Rattle.lists.proofs.Laws.{any_each}
use Rattle.lists.proofs.Tests.{both_not, is_true, and_parts, and_made}
use Rattle.calendar.specs.declared.Years.{Years}
use Rattle.calendar.specs.Dates.{is_day, is_winter}
use Rattle.calendar.specs.Places.{date_of_winter, has_winter_date}
use Rattle.calendar.specs.Spans.{among}
use Rattle.calendar.proofs.Laws.Days.{date_day, date_at_place}
use Rattle.calendar.proofs.Laws.Winter.{winter_day_place}
use Rattle.meaning.specs.Line.{Line, Tag, is, tag_of, year_on, month_on, day_on, has_date_on, is_winter_tag, is_rising, date_key, key_of, winter_on, place_on}
use Rattle.meaning.specs.Refusals.{not_later, holds}
use Rattle.meaning.specs.File.{not_later_in, before_in, refusal_at}
use Rattle.meaning.specs.Record.{is_dated}
use Rattle.meaning.proofs.Passed.{passed}
use Rattle.meaning.proofs.Accepted.{WinterLine, is_tag}
use Rattle.demands.proofs.Held.Parts.{Dated}

-- a test that cannot pass
pub fails : (b : Bool) → (T b → ⊥) → b ≡ false
fails true f = absurd (f tt)
fails false f = refl

-- ---- a line m of tag t has an earlier date or year than l
abbrev pub Short : Tag → Line → Line → Type 0
Short t l m = T (not (is t (tag_of m) && leb (key_of t l) (key_of t m)))

unreached_by : (a b : Bool) → T a → T (not (a && b)) → T (not b)
unreached_by true b t n = n
unreached_by false b t n = absurd t

pub unreached : (ls : List Line) (l : Line) → refusal_at ls l ≡ none → (t : Tag) → tag_of l ≡ t → T (is_rising t) → Each (Short t l) ls
unfolding refusal_at holds before_in not_later_in
unreached ls l e t u r =
    any_each (λ (m : Line). is t (tag_of m) && leb (key_of t l) (key_of t m)) ls
    (unreached_by (is_rising t) (any (λ (m : Line). is t (tag_of m) && leb (key_of t l) (key_of t m)) ls) r (rw u at (passed (before_in ls) l e not_later)))

pub short_key : (t : Tag) (l m : Line) → T (is t (tag_of m)) → Short t l m → key_of t m < key_of t l
short_key t l m a n = nleb→lt (key_of t l) (key_of t m) (unreached_by (is t (tag_of m)) (leb (key_of t l) (key_of t m)) a n)

pub date_key_lem : (t : Tag) (l : Line) → T (has_date_on t) → key_of t l ≡ 366 * year_on l + place_on l
unfolding key_of date_key place_on
date_key_lem t l h = rw (is_true (has_date_on t) h)

-- ---- a winter date's place
pub record WinterPlaced (l : Line) : Type 0 where
  pub below : winter_on l < 152
  pub place : date_of_winter (winter_on l) ≡ place_on l

pub winter_placed : (l : Line) → T (is_day (month_on l) (day_on l)) → T (is_winter (month_on l)) → WinterPlaced l
unfolding winter_on place_on
winter_placed l d w = let p = winter_day_place (month_on l) (day_on l) d w in record { below = p.below; place = p.date_place_lem }

pub line_placed : {h : Years} {l : Line} → WinterLine h l → WinterPlaced l
line_placed {h} {l} a = winter_placed l (date_day (year_on l) (month_on l) (day_on l) a.date) a.winter

pub line_dated : {h : Years} {l : Line} → WinterLine h l → T (is_dated h (year_on l) (winter_on l))
unfolding is_dated has_winter_date place_on
line_dated {h} {l} a =
    and_made (among h (year_on l)) (has_winter_date (year_on l) (winter_on l)) a.year
    (rw ((line_placed a).place, ← date_at_place (year_on l) (month_on l) (day_on l) (date_day (year_on l) (month_on l) (day_on l) a.date)) a.date)

-- ---- a line of tag t names a year, and what a test q says of its date
pub record Names (t : Tag) (l : Line) (y : ℕ) (q : Bool) : Type 0 where
  pub tag : T (is t (tag_of l))
  pub year : year_on l ≡ y
  pub date : T q

pub names : (t : Tag) (l : Line) (y : ℕ) (q : Bool) → T (is t (tag_of l) && (eqb (year_on l) y && q)) → Names t l y q
names t l y q z =
    let a = and_parts (is t (tag_of l)) (eqb (year_on l) y && q) z in
    let b = and_parts (eqb (year_on l) y) q a.1 in
    record { tag = a.0; year = eqb→eq (year_on l) y b.0; date = b.1 }

pub unnamed : (t : Tag) (l : Line) (y : ℕ) (q : Bool) → T (not (is t (tag_of l) && (eqb (year_on l) y && q))) → T (is t (tag_of l)) → year_on l ≡ y → T q → ⊥
unnamed t l y q n a i d = both_not q d (rw (is_true (is t (tag_of l)) a, eq-eqb (year_on l) y i) at n)

-- a winter place and a half-hour
pub at_place : (l : Line) (v h : ℕ) → T (eqb (winter_on l) v && ltb h 20) → (winter_on l ≡ v) × (h < 20)
at_place l v h z = let a = and_parts (eqb (winter_on l) v) (ltb h 20) z in (eqb→eq (winter_on l) v a.0, ltb→lt h 20 a.1)

pub is_place_lem : (l : Line) (v h : ℕ) → winter_on l ≡ v → h < 20 → T (eqb (winter_on l) v && ltb h 20)
is_place_lem l v h e k = rw (eq-eqb (winter_on l) v e) (lt→ltb h 20 k)

-- ---- the winter place of an accepted line is named by no earlier line of its tag
pub winter_free : {axis h : Years} (t : Tag) (l m : Line) (y v n : ℕ) → T (has_date_on t) → T (is_winter_tag t) → WinterLine h l → Dated axis m → Short t l m
    → year_on l ≡ y → winter_on l ≡ v → (is t (tag_of m) && (eqb (year_on m) y && (eqb (winter_on m) v && ltb n 20))) ≡ false
winter_free t l m y v n d w a k short i j =
    fails (is t (tag_of m) && (eqb (year_on m) y && (eqb (winter_on m) v && ltb n 20))) (λ z. go (names t m y (eqb (winter_on m) v && ltb n 20) z))
  where
    go : Names t m y (eqb (winter_on m) v && ltb n 20) → ⊥
    go p =
        let u : t ≡ tag_of m = is_tag t (tag_of m) p.tag in
        let its = (winter_placed m (k.day (rw (← u) d)) (k.winter (rw (← u) w))).place in
        let same : place_on m ≡ place_on l = sym its ∙ ap date_of_winter ((at_place m v n p.date).0 ∙ sym j) ∙ (line_placed a).place in
        let year = p.year in
        omega (arith, short_key t l m p.tag short, date_key_lem t l d, date_key_lem t m d)
