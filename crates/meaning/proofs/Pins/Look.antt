-- Each look-up of a file is given by the line that the words name.
use mathlib.Core.Path.{◌≡◌, refl, ap, sym, ◌∙◌}
use mathlib.Core.Logic.Iff
use mathlib.Core.Logic.{◌≢◌, ◌↔◌, ◌⊎◌, inl, inr}
use mathlib.Core.Bool.{Bool, true, false, not, ◌&&◌, cond}
use mathlib.Core.List.{List, [], ◌∷◌, ◌++◌, append_assoc, append-nil}
use mathlib.Core.Option.{Option, some, none}
use Prim.Native.Nat.{ℕ, ◌+◌, ◌*◌, ◌≤◌, ◌<◌}
use native.Mathlib.Omega.{arith}
use lib.Dec.{T, eqb, ltb}
use lib.ListN.{length}
use borrow.Author.Tests.{eqb-true}
use Rattle.lists.specs.Lists.{or_else, seek, present, Each, each_nil, Some}
use Rattle.lists.specs.Restated.{CountIs, First}
use Rattle.lists.proofs.Laws.{some_map}
use Rattle.lists.proofs.Reflect.{of_eq, of_lt, of_and, of_any}
use Rattle.lists.proofs.Tables.{each_snoc}
use Rattle.lists.proofs.RestatedLists.{none_some, some_cons, some_append, of_none, of_seek, seek_empty, of_count, first_has, first_append, first_snoc, first_with, some_each, present_keep}
use Rattle.lists.proofs.Tests.{both_not, is_true}
use Rattle.calendar.specs.Dates.{is_date, is_winter}
use Rattle.calendar.specs.Places.{date_of_winter}
use Rattle.calendar.proofs.Laws.Days.{date_day}
use Rattle.calendar.proofs.Laws.Winter.{winter_day_place}
use Rattle.text.specs.Fields.{field_at}
use Rattle.text.specs.Numbers.{is_dash}
use Rattle.text.proofs.NumberLaws.{of_dash}
use Rattle.meaning.specs.Filing.{no_meter, curve_meter, index_meter, Kind, real, corrected, estimated, no_kind}
use Rattle.meaning.specs.Line.{Line, Tag, S, C, X, D, P, B, R, E, is, tag_of, meter_of_letter, meter_of, number_at, year_on, month_on, day_on, site_on, value_at, point_of, kind_of_letter, kind_of, has_date_on, date_key, key_of, winter_on, place_on}
use Rattle.meaning.specs.Refusals.{Reason, misplaced, no_date, not_later}
use Rattle.meaning.specs.File.{site_in, refusal_at, point_on, point_in, profile_on, profile_in, daily_on, daily_in, reading_on, readings_in, broken_in, rate_in, dates_in, ended_in, filing_in}
use Rattle.meaning.specs.Blocks.{letter_of_kind}
use Rattle.meaning.specs.Sheet.{outcome_by, outcome_from, outcome_of}
use Rattle.meaning.specs.Restated.Dates.{Date, Winter}
use Rattle.meaning.specs.Restated.Lines.{Dash, Dated, OnlyWinter, Rising, Words}
use Rattle.meaning.specs.Restated.Look.{AllAccepted, fine_nil, fine_snoc, Names, reading_of, LookWords, SiteWords, KindWords, FirstRefused, SheetWords}
use Rattle.meaning.proofs.Pins.Dates.{date_words}
use Rattle.meaning.proofs.Pins.Tables.{of_is}
use Rattle.meaning.proofs.Pins.Lines.{refusal_words}

-- ---- accepted lines
-- no condition holds of an accepted line
clear : (es : List Line) (l : Line) → refusal_at es l ≡ none → (y : Reason) → ¬ Words y es l
clear es l e = (refusal_words.accepted es l).0 e

-- what holds of each accepted line holds of each line of a fine file
fine_each : {Q : Line → Type 0} → ((es : List Line) (l : Line) → refusal_at es l ≡ none → Q l) → {ls : List Line} → AllAccepted ls → Each Q ls
fine_each q fine_nil = each_nil
fine_each q (fine_snoc ls l f e) = each_snoc (fine_each q f) (q ls l e)

-- where no accepted line has P after one that has, one that has P is the first
once : {A B : Line → Type 0} → ((es : List Line) (l : Line) → AllAccepted es → refusal_at es l ≡ none → A l → ¬ Some A es) → {ls : List Line} → AllAccepted ls
    → Some (λ k. A k × B k) ls → (k : Line) × First A k ls × B k
once never fine_nil s = absurd (none_some s)
once {A} {B} never (fine_snoc ls l f e) s = go ((some_append ls (l ∷ [])).0 s) (λ t. once {A = A} {B = B} never f t)
  where
    here_is : A l × B l → (k : Line) × First A k (ls ++ (l ∷ [])) × B k
    here_is p = (l, first_snoc l ((of_none ls).0 (never ls l f e p.0)) p.0, p.1)

    go : Some (λ k. A k × B k) ls ⊎ Some (λ k. A k × B k) (l ∷ []) → (Some (λ k. A k × B k) ls → (k : Line) × First A k ls × B k) → (k : Line) × First A k (ls ++ (l ∷ [])) × B k
    go (inl t) r = let q = r t in (q.0, first_append (l ∷ []) q.1, q.2)
    go (inr t) r = elim ((some_cons l []).0 t) [ inl p ↦ here_is p | inr z ↦ absurd (none_some z) ]

-- an earlier line of its tag has a lower key
rises : (es : List Line) (l : Line) (t : Tag) → refusal_at es l ≡ none → Rising t → tag_of l ≡ t → ¬ Some (λ k. (tag_of k ≡ t) × (key_of t l ≤ key_of t k)) es
unfolding Words
rises es l t e r h s = clear es l e not_later (rw h (r, s))

-- a C or P line has a date in winter
winter_date : (es : List Line) (l : Line) → refusal_at es l ≡ none → OnlyWinter (tag_of l) → T (is_date (year_on l) (month_on l) (day_on l)) × T (is_winter (month_on l))
unfolding Words
winter_date es l e o = (date (is_date (year_on l) (month_on l) (day_on l)) (date_words.date (year_on l) (month_on l) (day_on l)), winter (is_winter (month_on l)) (date_words.winter (month_on l)))
  where
    dated : OnlyWinter (tag_of l) → Dated (tag_of l)
    dated (inl c) = inl c
    dated (inr p) = inr (inr (inr p))

    date : (b : Bool) → T b ↔ Date (year_on l) (month_on l) (day_on l) → T b
    date true f = tt
    date false f = clear es l e no_date (dated o, inl (λ d. f.1 d))

    winter : (b : Bool) → T b ↔ Winter (month_on l) → T b
    winter true f = tt
    winter false f = clear es l e no_date (dated o, inr (o, λ d. f.1 d))

-- the key of a C or P line goes by its year and winter place
winter_key : (t : Tag) (l : Line) → T (has_date_on t) → T (is_date (year_on l) (month_on l) (day_on l)) × T (is_winter (month_on l)) → key_of t l ≡ 366 * year_on l + date_of_winter (winter_on l)
unfolding key_of date_key winter_on
winter_key t l h d =
    rw (is_true (has_date_on t) h) (ap (λ (p : ℕ). 366 * year_on l + p) (sym (winter_day_place (month_on l) (day_on l) (date_day (year_on l) (month_on l) (day_on l) d.0) d.1).date_place_lem))

-- ---- no second line of a year and winter place
only_winter : (t : Tag) → OnlyWinter t → T (has_date_on t) × Rising t
only_winter t (inl e) = (rw e tt, inl (inl e))
only_winter t (inr e) = (rw e tt, inl (inr (inr (inr e))))

no_second : (t : Tag) → OnlyWinter t → (y w : ℕ) (es : List Line) (l : Line) → AllAccepted es → refusal_at es l ≡ none → Names t y w l → ¬ Some (Names t y w) es
no_second t o y w es l f e n s =
    rises es l t e (only_winter t o).1 n.0
    (some_map (λ k q. (q.0.0, same k q.0 q.1)) (some_each s (fine_each {Q = λ k. OnlyWinter (tag_of k) → T (is_date (year_on k) (month_on k) (day_on k)) × T (is_winter (month_on k))} winter_date f)))
  where
    same : (k : Line) → Names t y w k → (OnlyWinter (tag_of k) → T (is_date (year_on k) (month_on k) (day_on k)) × T (is_winter (month_on k))) → key_of t l ≤ key_of t k
    same k m q =
        let a : key_of t l ≡ 366 * year_on l + date_of_winter (winter_on l) = winter_key t l (only_winter t o).0 (winter_date es l e (rw n.0 o)) in
        let b : key_of t k ≡ 366 * year_on k + date_of_winter (winter_on k) = winter_key t k (only_winter t o).0 (q (rw m.0 o)) in
        let c : date_of_winter (winter_on l) ≡ date_of_winter (winter_on k) = ap date_of_winter (n.1.1 ∙ sym m.1.1) in
        omega (arith, n.1.0, m.1.0)

-- the same, asked at a half-hour
abbrev NamesAt : Tag → ℕ → ℕ → ℕ → Line → Type 0
NamesAt t y w h l = (tag_of l ≡ t) × ((year_on l ≡ y) × ((winter_on l ≡ w) × (h < 20)))

of_names : (t : Tag) (y w h : ℕ) (l : Line) → T (is t (tag_of l) && (eqb (year_on l) y && (eqb (winter_on l) w && ltb h 20))) ↔ NamesAt t y w h l
of_names t y w h l =
    of_and (is t (tag_of l)) (eqb (year_on l) y && (eqb (winter_on l) w && ltb h 20)) (of_is t (tag_of l))
    (of_and (eqb (year_on l) y) (eqb (winter_on l) w && ltb h 20) (of_eq (year_on l) y) (of_and (eqb (winter_on l) w) (ltb h 20) (of_eq (winter_on l) w) (of_lt h 20)))

no_second_at : (t : Tag) → OnlyWinter t → (y w h : ℕ) (es : List Line) (l : Line) → AllAccepted es → refusal_at es l ≡ none → NamesAt t y w h l → ¬ Some (NamesAt t y w h) es
no_second_at t o y w h es l f e n s = no_second t o y w es l f e (n.0, (n.1.0, n.1.1.0)) (some_map (λ k m. (m.0, (m.1.0, m.1.1.0))) s)

-- ---- points
of_point : (l : Line) (h v : ℕ) → (point_of l h ≡ some v) ↔ ((¬ Dash (field_at l (4 + h))) × (number_at l (4 + h) ≡ v))
unfolding point_of value_at
of_point l h v = go (is_dash (field_at l (4 + h))) (of_dash (field_at l (4 + h)))
  where
    go : (b : Bool) → T b ↔ Dash (field_at l (4 + h)) → (cond b none (some (number_at l (4 + h))) ≡ some v) ↔ ((¬ Dash (field_at l (4 + h))) × (number_at l (4 + h) ≡ v))
    go true r = (λ e. let z : ◌≡◌ {A = ℕ} 0 1 = cc in absurd (omega arith), λ p. absurd (p.0 (r.0 tt)))
    go false r = (λ e. (λ d. r.1 d, let z : number_at l (4 + h) ≡ v = cc in z), λ p. ap some p.1)

sought_point : (ls : List Line) (y w h v : ℕ) → (point_in ls y w h ≡ some v) ↔ ((k : Line) × First (NamesAt C y w h) k ls × (point_of k h ≡ some v))
unfolding point_in point_on
sought_point ls y w h v =
    Iff.trans (deep (seek (λ (l : Line). cond (is C (tag_of l) && (eqb (year_on l) y && (eqb (winter_on l) w && ltb h 20))) (some (point_of l h)) none) ls))
    (of_seek (λ (l : Line). is C (tag_of l) && (eqb (year_on l) y && (eqb (winter_on l) w && ltb h 20))) (λ l. point_of l h) (of_names C y w h) (some v) ls)
  where
    deep : (o : Option (Option ℕ)) → (or_else o none ≡ some v) ↔ (o ≡ some (some v))
    deep none = (λ e. let z : ◌≡◌ {A = ℕ} 0 1 = cc in absurd (omega arith), λ e. let z : ◌≡◌ {A = ℕ} 0 1 = cc in absurd (omega arith))
    deep (some o) = (λ e. ap some e, λ e. let z : o ≡ some v = cc in z)

point_words : (ls : List Line) → AllAccepted ls → (y w h v : ℕ)
    → (point_in ls y w h ≡ some v) ↔ ((h < 20) × Some (λ l. Names C y w l × ((¬ Dash (field_at l (4 + h))) × (number_at l (4 + h) ≡ v))) ls)
point_words ls f y w h v = Iff.trans (sought_point ls y w h v) (
  λ q. ((first_has q.1).1.1.1, some_map (λ k n. ((n.0.0, (n.0.1.0, n.0.1.1.0)), (of_point k h v).0 n.1)) (first_with {Q = λ k. point_of k h ≡ some v} q.1 q.2)),
  λ s. once {A = NamesAt C y w h} {B = λ k. point_of k h ≡ some v} (no_second_at C (inl refl) y w h) f
      (some_map (λ k n. ((n.0.0, (n.0.1.0, (n.0.1.1, s.0))), (of_point k h v).1 n.1)) s.1),
)

-- ---- profiles, daily sums, the site, rates
-- what the first such line says, where there is one
found : {A : Type 0} (p : Line → Bool) (g : Line → A) {B : Line → Type 0} → ((l : Line) → T (p l) ↔ B l) → ((es : List Line) (l : Line) → AllAccepted es → refusal_at es l ≡ none → B l → ¬ Some B es)
    → (ls : List Line) → AllAccepted ls → (a : A) → Some (λ l. B l × (g l ≡ a)) ls → seek (λ l. cond (p l) (some (g l)) none) ls ≡ some a
found p g {B} r never ls f a s = (of_seek p g r a ls).1 (once {A = B} {B = λ l. g l ≡ a} never f s)

profile_words : (ls : List Line) → AllAccepted ls → (y w h v : ℕ) → h < 20 → Some (λ l. Names P y w l × (number_at l (4 + h) ≡ v)) ls → profile_in ls y w h ≡ v
unfolding profile_in profile_on value_at
profile_words ls f y w h v c s =
    rw (found (λ (l : Line). is P (tag_of l) && (eqb (year_on l) y && (eqb (winter_on l) w && ltb h 20))) (λ l. number_at l (4 + h)) (of_names P y w h) (no_second_at P (inr refl) y w h) ls f v
    (some_map (λ k n. ((n.0.0, (n.0.1.0, (n.0.1.1, c))), n.1)) s))

no_profile_words : (ls : List Line) (y w h : ℕ) → (¬ Some (Names P y w) ls) → profile_in ls y w h ≡ 0
unfolding profile_in profile_on
no_profile_words ls y w h n =
    rw ((seek_empty (λ (l : Line). is P (tag_of l) && (eqb (year_on l) y && (eqb (winter_on l) w && ltb h 20))) (λ l. value_at l h) ls).0
    (λ s. n (some_map (λ k t. let q = (of_names P y w h k).0 t in (q.0, (q.1.0, q.1.1.0))) s)))

abbrev OnDay : ℕ → ℕ → Line → Type 0
OnDay y p l = (tag_of l ≡ D) × ((year_on l ≡ y) × (place_on l ≡ p))

of_day : (y p : ℕ) (l : Line) → T (is D (tag_of l) && (eqb (year_on l) y && eqb (place_on l) p)) ↔ OnDay y p l
of_day y p l = of_and (is D (tag_of l)) (eqb (year_on l) y && eqb (place_on l) p) (of_is D (tag_of l)) (of_and (eqb (year_on l) y) (eqb (place_on l) p) (of_eq (year_on l) y) (of_eq (place_on l) p))

no_second_day : (y p : ℕ) (es : List Line) (l : Line) → AllAccepted es → refusal_at es l ≡ none → OnDay y p l → ¬ Some (OnDay y p) es
unfolding key_of date_key place_on
no_second_day y p es l f e n s = rises es l D e (inl (inr (inr (inl refl)))) n.0 (some_map (λ k m. (m.0, omega (arith, n.1.0, n.1.1, m.1.0, m.1.1))) s)

daily_words : (ls : List Line) → AllAccepted ls → (y p v : ℕ) → Some (λ l. OnDay y p l × (number_at l 4 ≡ v)) ls → daily_in ls y p ≡ v
unfolding daily_in daily_on
daily_words ls f y p v s = rw (found (λ (l : Line). is D (tag_of l) && (eqb (year_on l) y && eqb (place_on l) p)) (λ l. number_at l 4) (of_day y p) (no_second_day y p) ls f v s)

no_daily_words : (ls : List Line) (y p : ℕ) → (¬ Some (OnDay y p) ls) → daily_in ls y p ≡ 0
unfolding daily_in daily_on
no_daily_words ls y p n =
    rw ((seek_empty (λ (l : Line). is D (tag_of l) && (eqb (year_on l) y && eqb (place_on l) p)) (λ l. number_at l 4) ls).0 (λ s. n (some_map (λ k t. (of_day y p k).0 t) s)))

no_second_site : (es : List Line) (l : Line) → AllAccepted es → refusal_at es l ≡ none → tag_of l ≡ S → ¬ Some (λ k. tag_of k ≡ S) es
unfolding Words
no_second_site es l f e n s = clear es l e misplaced (inr (inl (some_map (λ k m. inr (inl n)) s)))

site_words_in : (ls : List Line) → AllAccepted ls → (l : Line) → Some (λ k. (tag_of k ≡ S) × (k ≡ l)) ls → site_in ls ≡ site_on l
unfolding site_in
site_words_in ls f l s = rw (found (λ (k : Line). is S (tag_of k)) site_on (λ k. of_is S (tag_of k)) no_second_site ls f (site_on l) (some_map (λ k m. (m.0, ap site_on m.1)) s))

abbrev OfYear : Tag → ℕ → Line → Type 0
OfYear t y l = (tag_of l ≡ t) × (year_on l ≡ y)

of_year : (t : Tag) (y : ℕ) (l : Line) → T (is t (tag_of l) && eqb (year_on l) y) ↔ OfYear t y l
of_year t y l = of_and (is t (tag_of l)) (eqb (year_on l) y) (of_is t (tag_of l)) (of_eq (year_on l) y)

no_second_rate : (y : ℕ) (es : List Line) (l : Line) → AllAccepted es → refusal_at es l ≡ none → OfYear R y l → ¬ Some (OfYear R y) es
no_second_rate y es l f e n s =
    rises es l R e (inr (inr refl)) n.0 (some_map (λ k m. (m.0, omega (arith, n.1, m.1, refusal_words.years R l (inr refl), refusal_words.years R k (inr refl)))) s)

rate_words : (ls : List Line) → AllAccepted ls → (y r : ℕ) → (rate_in ls y ≡ some r) ↔ Some (λ l. OfYear R y l × (number_at l 2 ≡ r)) ls
unfolding rate_in
rate_words ls f y r = (
  λ e. let q = (of_seek (λ (l : Line). is R (tag_of l) && eqb (year_on l) y) (λ l. number_at l 2) (of_year R y) r ls).0 e in first_with {Q = λ l. number_at l 2 ≡ r} q.1 q.2,
  λ s. found (λ (l : Line). is R (tag_of l) && eqb (year_on l) y) (λ l. number_at l 2) (of_year R y) (no_second_rate y) ls f r s,
)

dates : (t : Tag) (ls : List Line) (y : ℕ) → CountIs (λ l. (tag_of l ≡ t) × (year_on l ≡ y)) ls (dates_in t ls y)
unfolding dates_in
dates t ls y = (of_count (λ (l : Line). is t (tag_of l) && eqb (year_on l) y) (of_year t y) ls (dates_in t ls y)).0 refl

pub look_words : LookWords
unfolding filing_in broken_in ended_in readings_in reading_on point_in seek present
look_words = record {
  point = point_words;
  profile = profile_words;
  no_profile = no_profile_words;
  daily = daily_words;
  no_daily = no_daily_words;
  site = site_words_in;
  ca = λ ls y. refl;
  rate = rate_words;
  broken = λ ls y. of_any (λ (l : Line). is B (tag_of l) && eqb (year_on l) y) (of_year B y) ls;
  ended = λ ls. of_any (λ (l : Line). is E (tag_of l)) (λ l. of_is E (tag_of l)) ls;
  dates = dates;
  profile_dates = λ ls y. dates P ls y;
  daily_dates = λ ls y. dates D ls y;
  readings = λ ls. present_keep (λ (l : Line). is X (tag_of l)) (reading_of ls) ls;
  no_point = λ y w h. refl;
  no_reading_lem = refl;
}

-- ---- what S says
curve_letter : (f : List ℕ) → (meter_of f ≡ curve_meter) ↔ (f ≡ 84 ∷ [])
unfolding meter_of meter_of_letter
curve_letter f = (one f, λ e. ap meter_of e)
  where
    one : (f : List ℕ) → meter_of f ≡ curve_meter → f ≡ 84 ∷ []
    one [] e = let z : ◌≡◌ {A = ℕ} 0 1 = cc in absurd (omega arith)
    one (b ∷ []) e = go (eqb b 84) (eqb b 73) refl e
      where
        go : (p q : Bool) → eqb b 84 ≡ p → cond p curve_meter (cond q index_meter no_meter) ≡ curve_meter → b ∷ [] ≡ 84 ∷ []
        go true q h k = ap (λ (x : ℕ). x ∷ []) (eqb-true b 84 h)
        go false true h k = let z : ◌≡◌ {A = ℕ} 0 1 = cc in absurd (omega arith)
        go false false h k = let z : ◌≡◌ {A = ℕ} 0 1 = cc in absurd (omega arith)
    one (b ∷ c ∷ f) e = let z : ◌≡◌ {A = ℕ} 0 1 = cc in absurd (omega arith)

index_letter : (f : List ℕ) → (meter_of f ≡ index_meter) ↔ (f ≡ 73 ∷ [])
unfolding meter_of meter_of_letter
index_letter f = (one f, λ e. ap meter_of e)
  where
    one : (f : List ℕ) → meter_of f ≡ index_meter → f ≡ 73 ∷ []
    one [] e = let z : ◌≡◌ {A = ℕ} 0 1 = cc in absurd (omega arith)
    one (b ∷ []) e = go (eqb b 84) (eqb b 73) refl e
      where
        go : (p q : Bool) → eqb b 73 ≡ q → cond p curve_meter (cond q index_meter no_meter) ≡ index_meter → b ∷ [] ≡ 73 ∷ []
        go true q h k = let z : ◌≡◌ {A = ℕ} 0 1 = cc in absurd (omega arith)
        go false true h k = ap (λ (x : ℕ). x ∷ []) (eqb-true b 73 h)
        go false false h k = let z : ◌≡◌ {A = ℕ} 0 1 = cc in absurd (omega arith)
    one (b ∷ c ∷ f) e = let z : ◌≡◌ {A = ℕ} 0 1 = cc in absurd (omega arith)

pub site_words : (l : Line) → SiteWords l
unfolding site_on
site_words l = record { al = refl; filiere = refl; ps = refl; curve = curve_letter (field_at l 4); index = index_letter (field_at l 4) }

-- ---- kinds
-- of three letters tried in order, the one that fits is the kind's own
kind_is : (k : Kind) → k ≢ no_kind → (b : ℕ) → kind_of_letter b ≡ k → b ≡ letter_of_kind k
unfolding kind_of_letter
kind_is k n b e =
    try 82 real refl (cond (eqb b 67) corrected (cond (eqb b 69) estimated no_kind))
    (try 67 corrected refl (cond (eqb b 69) estimated no_kind) (try 69 estimated refl no_kind (λ q. absurd (n (sym q))))) e
  where
    try : (a : ℕ) (u : Kind) → a ≡ letter_of_kind u → (rest : Kind) → (rest ≡ k → b ≡ letter_of_kind k) → cond (eqb b a) u rest ≡ k → b ≡ letter_of_kind k
    try a u h rest r q = go (eqb b a) refl q
      where
        go : (c : Bool) → eqb b a ≡ c → cond c u rest ≡ k → b ≡ letter_of_kind k
        go true i j = eqb-true b a i ∙ h ∙ ap letter_of_kind j
        go false i j = r j

kind_letter_lem : (k : Kind) → k ≢ no_kind → kind_of_letter (letter_of_kind k) ≡ k → (f : List ℕ) → (kind_of f ≡ k) ↔ (f ≡ letter_of_kind k ∷ [])
unfolding kind_of
kind_letter_lem k n h f = (one f, λ e. ap kind_of e ∙ h)
  where
    one : (f : List ℕ) → kind_of f ≡ k → f ≡ letter_of_kind k ∷ []
    one [] e = absurd (n (sym e))
    one (b ∷ []) e = ap (λ (x : ℕ). x ∷ []) (kind_is k n b e)
    one (b ∷ c ∷ g) e = absurd (n (sym e))

-- a kind whose letter is not 0 is not `no_kind`
not_strange : (k : Kind) → T (not (eqb (letter_of_kind k) 0)) → k ≢ no_kind
not_strange k h e = both_not (eqb (letter_of_kind k) 0) ((of_eq (letter_of_kind k) 0).1 (ap letter_of_kind e)) h

pub kind_words : (f : List ℕ) → KindWords f
unfolding kind_of_letter
kind_words f = record {
  real = kind_letter_lem real (not_strange real tt) refl f;
  corrected = kind_letter_lem corrected (not_strange corrected tt) refl f;
  estimated = kind_letter_lem estimated (not_strange estimated tt) refl f;
}

-- ---- the sheet
fine_on : {es : List Line} → AllAccepted es → (later : List Line) → outcome_of (es ++ later) ≡ outcome_from es later
unfolding outcome_of outcome_from outcome_by
fine_on fine_nil later = refl
fine_on (fine_snoc ls l f e) later = rw (append_assoc ls (l ∷ []) later) (fine_on f (l ∷ later) ∙ rw e)

either_from : (ls es : List Line) → AllAccepted es → AllAccepted (es ++ ls) ⊎ FirstRefused (es ++ ls)
either_from [] es f = inl (rw (append-nil es) f)
either_from (l ∷ ls) es f = go (refusal_at es l) refl (either_from ls (es ++ (l ∷ [])))
  where
    go : (o : Option Reason) → refusal_at es l ≡ o → (AllAccepted (es ++ (l ∷ [])) → AllAccepted ((es ++ (l ∷ [])) ++ ls) ⊎ FirstRefused ((es ++ (l ∷ [])) ++ ls)) → AllAccepted (es ++ (l ∷ ls)) ⊎ FirstRefused (es ++ (l ∷ ls))
    go none e r = rw (append_assoc es (l ∷ []) ls) at (r (fine_snoc es l f e))
    go (some y) e r = inr (record { taken = es; line = l; left = ls; reason = y; file = refl; fine = f; refused = e })

pub sheet_words : SheetWords
unfolding outcome_from outcome_by
sheet_words = record {
  either = λ f. either_from f [] fine_nil;
  stops = λ f h.
      ap outcome_of h.file ∙ fine_on h.fine (h.line ∷ h.left)
      ∙ ap (λ (o : Option Reason). outcome_by o (length h.taken + 1) (outcome_from (h.taken ++ (h.line ∷ [])) h.left)) h.refused;
  ends = λ f h. ap outcome_of (sym (append-nil f)) ∙ fine_on h [];
}
