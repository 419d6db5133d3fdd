-- A line is refused for a reason exactly where its words hold and those of no reason checked before it do.
use mathlib.Core.Path.{◌≡◌, refl, ap}
use mathlib.Core.Logic.Iff
use mathlib.Core.Logic.{◌↔◌, ◌⊎◌, inl, inr}
use mathlib.Core.Bool.{Bool, true, false, not, ◌&&◌, ◌||◌, cond, beq}
use mathlib.Core.List.{List, [], ◌∷◌}
use mathlib.Core.Option.{Option, some, none}
use Prim.Native.Nat.{ℕ, zero, suc, ◌+◌, ◌*◌, ◌≤◌, ◌<◌}
use native.Mathlib.Omega.{arith}
use lib.Dec.{T, leb, ltb, eqb, leb→le, nleb→lt, not_T}
use lib.ListN.{length, replicate}
use borrow.Author.Tests.{eqb-true, leb-true, leb-false}
use Rattle.text.proofs.NumberLaws.{of_number, of_dash}
use Rattle.lists.specs.Lists.{any, all, count, seek, latest, or_else, Each, each_nil, each_cons, Some}
use Rattle.lists.specs.Restated.{CountIs, First, Last}
use Rattle.lists.proofs.Reflect.{of_eq, of_le, of_lt, of_or, of_and, of_not, of_any, of_all}
use Rattle.lists.proofs.RestatedLists.{none_some, first_some, of_seek, of_latest, of_count, Front, front_nil, front_cons, of_order, of_order_none}
use Rattle.lists.proofs.Tests.{is_true}
use Rattle.calendar.specs.Dates.{is_date, is_winter, is_day}
use Rattle.calendar.specs.Places.{date_place}
use Rattle.calendar.specs.Spans.{years, among, axis_years, position_of}
use Rattle.calendar.specs.Restated.{EarlierDate}
use Rattle.calendar.proofs.Tables.{beq→eq}
use Rattle.calendar.proofs.Laws.Days.{date_day}
use Rattle.calendar.proofs.Laws.Positions.{earlier_position}
use Rattle.text.specs.Fields.{up_to, past, tabs, rest_at, field_at, reads, edition as editionText, is_invalid}
use Rattle.text.specs.Numbers.{is_number, value_of, is_dash}
use Rattle.text.proofs.Laws.{of_reads}
use Rattle.meaning.specs.Filing.{no_meter, curve_meter, index_meter, Site, no_site, real, corrected, estimated, no_kind}
use Rattle.meaning.specs.Line.{Line, Tag, S, C, X, D, P, B, R, E, other, rank, is, tag_of, Form, number, number_or_dash, most_power, most_index, most_daily, most_profile, forms_of, size, meter_of_letter, meter_of, is_meter, kind_of_letter, kind_of, is_kind, in_form, in_range, some_field, number_at, year_on, month_on, day_on, site_on, has_date_on, is_winter_tag, has_year_on, date_key, key_of, is_rising}
use Rattle.meaning.specs.Refusals.{Reason, illegible, unknown, misplaced, malformed, outside, no_date, not_later, too_soon, falling, too_many, miscounted, number_of, is_too_soon, is_illegible, is_unknown, is_malformed, is_outside, has_no_date, holds, order, refusal}
use Rattle.meaning.specs.File.{site_in, history_in, rules_out, is_index_meter, misplaced_in, not_later_in, last_index_in, before_in, refusal_at}
use Rattle.meaning.specs.Restated.Dates.{Winter, Date}
use Rattle.meaning.specs.Restated.Lines.{Invalid, HasFields, after, IndexFile, RulesOut, Misplaced, Number, Malformed, Off, OffHistory, OffAxis, Outside, Dated, OnlyWinter, Rising, Words, earlier, RefusalWords}
use Rattle.meaning.proofs.Passed.{each_head, each_tail, each_reason}
use Rattle.meaning.proofs.Pins.Dates.{date_words}
use Rattle.meaning.proofs.Pins.Tables.{of_is}
use Rattle.meaning.proofs.Pins.Says.{Says, say, either, alone}

-- ---- 2
of_strange : (b : ℕ) → T (is_invalid b) ↔ Invalid b
unfolding is_invalid
of_strange b = of_and (not (eqb b 9)) (ltb b 32 || ltb 126 b) (of_not (eqb b 9) (of_eq b 9)) (of_or (ltb b 32) (ltb 126 b) (of_lt b 32) (of_lt 126 b))

of_illegible : (l : Line) → T (is_illegible l) ↔ ((length l ≡ 0) ⊎ (320 < length l) ⊎ Some Invalid l)
unfolding is_illegible
of_illegible l =
    of_or (eqb (length l) 0) (ltb 320 (length l) || any is_invalid l) (of_eq (length l) 0)
    (of_or (ltb 320 (length l)) (any is_invalid l) (of_lt 320 (length l)) (of_any is_invalid of_strange l))

-- ---- 3
of_fields : (t : Tag) (k : ℕ) → T (eqb (k + 1) (size t)) ↔ HasFields t (k + 1)
of_fields S k = of_eq (k + 1) 6
of_fields C k = of_eq (k + 1) 24
of_fields X k = of_eq (k + 1) 6
of_fields D k = of_eq (k + 1) 5
of_fields P k = of_eq (k + 1) 24
of_fields B k = of_eq (k + 1) 2
of_fields R k = of_eq (k + 1) 3
of_fields E k = of_eq (k + 1) 2
of_fields other k = (λ t. absurd (omega (arith, (of_eq (k + 1) 0).0 t)), λ e. absurd e)

of_unknown : (l : Line) → T (is_unknown l) ↔ (¬ HasFields (tag_of l) (tabs l + 1))
unfolding is_unknown
of_unknown l = of_not (eqb (tabs l + 1) (size (tag_of l))) (of_fields (tag_of l) (tabs l))

-- ---- 4
abbrev tags : List Tag
tags = S ∷ C ∷ X ∷ D ∷ P ∷ B ∷ R ∷ E ∷ other ∷ []

each_tag : {Q : Tag → Type 0} → Each Q tags → (t : Tag) → Q t
each_tag e S = each_head e
each_tag e C = each_head (each_tail e)
each_tag e X = each_head (each_tail (each_tail e))
each_tag e D = each_head (each_tail (each_tail (each_tail e)))
each_tag e P = each_head (each_tail (each_tail (each_tail (each_tail e))))
each_tag e B = each_head (each_tail (each_tail (each_tail (each_tail (each_tail e)))))
each_tag e R = each_head (each_tail (each_tail (each_tail (each_tail (each_tail (each_tail e))))))
each_tag e E = each_head (each_tail (each_tail (each_tail (each_tail (each_tail (each_tail (each_tail e)))))))
each_tag e other = each_head (each_tail (each_tail (each_tail (each_tail (each_tail (each_tail (each_tail (each_tail e))))))))

-- a later tag has a higher rank
rank_test : Tag → Tag → Bool
rank_test t k = beq (ltb (rank t) (rank k)) (any (λ u. is u k) (after t))

rank_tests : T (all (λ t. all (rank_test t) tags) tags)
unfolding all any after rank_test
rank_tests = tt

of_later : (t k : Tag) → T (ltb (rank t) (rank k)) ↔ Some (λ u. k ≡ u) (after t)
unfolding rank_test
of_later t k = rw same (of_any (λ u. is u k) (λ u. of_is u k) (after t))
  where
    same : ltb (rank t) (rank k) ≡ any (λ u. is u k) (after t)
    same = beq→eq _ _ (each_tag ((of_all (rank_test t) (λ j. (λ u. u, λ u. u)) tags).0 (each_tag ((of_all (λ j. all (rank_test j) tags) (λ j. (λ u. u, λ u. u)) tags).0 rank_tests) t)) k)

of_stops : (k t : Tag) → T (rules_out k t) ↔ RulesOut k t
unfolding rules_out
of_stops k t = of_or (ltb (rank t) (rank k)) (is S t || is E k) (of_later t k) (of_or (is S t) (is E k) (of_is S t) (of_is E k))

-- ---- letters
same_letter : (b a : ℕ) → b ∷ [] ≡ a ∷ [] → b ≡ a
same_letter b a e = cc

of_letter : (b a : ℕ) → T (eqb b a) ↔ (b ∷ [] ≡ a ∷ [])
of_letter b a = Iff.trans (of_eq b a) (ap (λ (x : ℕ). x ∷ []), same_letter b a)

no_letter : (a : ℕ) → [] ≡ a ∷ [] → ⊥
no_letter a e = let z : ◌≡◌ {A = ℕ} 0 1 = ap length e in omega arith

two_letters : (b c : ℕ) (f : List ℕ) (a : ℕ) → b ∷ c ∷ f ≡ a ∷ [] → ⊥
two_letters b c f a e = let z : suc (suc (length f)) ≡ 1 = ap length e in omega arith

of_index_letter : (f : List ℕ) → T (is_index_meter (meter_of f)) ↔ (f ≡ 73 ∷ [])
unfolding meter_of meter_of_letter
of_index_letter [] = (λ t. absurd t, λ e. absurd (no_letter 73 e))
of_index_letter (b ∷ []) = go (eqb b 84) (eqb b 73) refl (of_letter b 73)
  where
    go : (p q : Bool) → eqb b 84 ≡ p → T q ↔ (b ∷ [] ≡ 73 ∷ []) → T (is_index_meter (cond p curve_meter (cond q index_meter no_meter))) ↔ (b ∷ [] ≡ 73 ∷ [])
    go true q e r = (λ t. absurd t, λ k. absurd (omega (arith, eqb-true b 84 e, same_letter b 73 k)))
    go false true e r = r
    go false false e r = r
of_index_letter (b ∷ c ∷ f) = (λ t. absurd t, λ e. absurd (two_letters b c f 73 e))

of_meter : (f : List ℕ) → T (is_meter (meter_of f)) ↔ ((f ≡ 84 ∷ []) ⊎ (f ≡ 73 ∷ []))
unfolding meter_of meter_of_letter
of_meter [] = (λ t. absurd t, λ s. elim s [ inl e ↦ absurd (no_letter 84 e) | inr e ↦ absurd (no_letter 73 e) ])
of_meter (b ∷ []) = go (eqb b 84) (eqb b 73) (of_letter b 84) (of_letter b 73)
  where
    go : (p q : Bool) → T p ↔ (b ∷ [] ≡ 84 ∷ []) → T q ↔ (b ∷ [] ≡ 73 ∷ []) → T (is_meter (cond p curve_meter (cond q index_meter no_meter))) ↔ ((b ∷ [] ≡ 84 ∷ []) ⊎ (b ∷ [] ≡ 73 ∷ []))
    go true q f g = (λ t. inl (f.0 tt), λ s. tt)
    go false true f g = (λ t. inr (g.0 tt), λ s. tt)
    go false false f g = (λ t. absurd t, λ s. elim s [ inl e ↦ f.1 e | inr e ↦ g.1 e ])
of_meter (b ∷ c ∷ f) = (λ t. absurd t, λ s. elim s [ inl e ↦ absurd (two_letters b c f 84 e) | inr e ↦ absurd (two_letters b c f 73 e) ])

of_kind : (f : List ℕ) → T (is_kind (kind_of f)) ↔ ((f ≡ 82 ∷ []) ⊎ (f ≡ 67 ∷ []) ⊎ (f ≡ 69 ∷ []))
unfolding kind_of kind_of_letter
of_kind [] = (λ t. absurd t, λ s. elim s [ inl e ↦ absurd (no_letter 82 e) | inr r ↦ elim r [ inl e ↦ absurd (no_letter 67 e) | inr e ↦ absurd (no_letter 69 e) ] ])
of_kind (b ∷ []) = go (eqb b 82) (eqb b 67) (eqb b 69) (of_letter b 82) (of_letter b 67) (of_letter b 69)
  where
    go : (p q r : Bool) → T p ↔ (b ∷ [] ≡ 82 ∷ []) → T q ↔ (b ∷ [] ≡ 67 ∷ []) → T r ↔ (b ∷ [] ≡ 69 ∷ [])
        → T (is_kind (cond p real (cond q corrected (cond r estimated no_kind)))) ↔ ((b ∷ [] ≡ 82 ∷ []) ⊎ (b ∷ [] ≡ 67 ∷ []) ⊎ (b ∷ [] ≡ 69 ∷ []))
    go true q r f g h = (λ t. inl (f.0 tt), λ s. tt)
    go false true r f g h = (λ t. inr (inl (g.0 tt)), λ s. tt)
    go false false true f g h = (λ t. inr (inr (h.0 tt)), λ s. tt)
    go false false false f g h = (λ t. absurd t, λ s. elim s [ inl e ↦ f.1 e | inr k ↦ elim k [ inl e ↦ g.1 e | inr e ↦ h.1 e ] ])
of_kind (b ∷ c ∷ f) = (
  λ t. absurd t,
  λ s. elim s [ inl e ↦ absurd (two_letters b c f 82 e) | inr r ↦ elim r [ inl e ↦ absurd (two_letters b c f 67 e) | inr e ↦ absurd (two_letters b c f 69 e) ] ],
)

-- the first S line says I
of_index_file : (ls : List Line) → T (is_index_meter (site_in ls).meter) ↔ IndexFile ls
unfolding site_in site_on no_site
of_index_file ls = (λ t. forth (seek (λ (l : Line). cond (is S (tag_of l)) (some (site_on l)) none) ls) refl t, back)
  where
    sought : (v : Site) → (seek (λ (l : Line). cond (is S (tag_of l)) (some (site_on l)) none) ls ≡ some v) ↔ ((k : Line) × First (λ m. tag_of m ≡ S) k ls × (site_on k ≡ v))
    sought v = of_seek (λ (l : Line). is S (tag_of l)) site_on (λ l. of_is S (tag_of l)) v ls

    forth : (o : Option Site) → seek (λ (l : Line). cond (is S (tag_of l)) (some (site_on l)) none) ls ≡ o → T (is_index_meter (or_else o no_site).meter) → IndexFile ls
    forth none e t = absurd t
    forth (some v) e t = let q = (sought v).0 e in (q.0, q.1, (of_index_letter (field_at q.0 4)).0 (rw (← q.2) at t))

    back : IndexFile ls → T (is_index_meter (or_else (seek (λ (l : Line). cond (is S (tag_of l)) (some (site_on l)) none) ls) no_site).meter)
    back q = rw ((sought (site_on q.0)).1 (q.0, q.1, refl)) ((of_index_letter (field_at q.0 4)).1 q.2)

of_barred : (ls : List Line) (t : Tag) → T (misplaced_in ls t) ↔ Misplaced ls t
unfolding misplaced_in
of_barred [] t = (
  λ s. inl (refl, (of_not (is S t) (of_is S t)).0 s),
  λ s. elim s [ inl n ↦ (of_not (is S t) (of_is S t)).1 n.1 | inr r ↦ elim r [ inl q ↦ absurd (none_some q) | inr q ↦ absurd (none_some (first_some q.1.1)) ] ],
)
of_barred (k ∷ ls) t = Iff.trans (
    of_or (any (λ (m : Line). rules_out (tag_of m) t) (k ∷ ls)) (is C t && is_index_meter (site_in (k ∷ ls)).meter)
    (of_any (λ (m : Line). rules_out (tag_of m) t) (λ m. of_stops (tag_of m) t) (k ∷ ls))
    (of_and (is C t) (is_index_meter (site_in (k ∷ ls)).meter) (of_is C t) (of_index_file (k ∷ ls)))
    ) (λ s. inr s, λ s. elim s [ inl n ↦ absurd (long n.0) | inr r ↦ r ])
  where
    long : k ∷ ls ≡ [] → ⊥
    long e = let z : suc (length ls) ≡ 0 = ap length e in omega arith

-- ---- 5
of_no_number : (f : List ℕ) → T (not (is_number f)) ↔ (¬ Number f)
of_no_number f = of_not (is_number f) (of_number f)

-- a row of fields of one form
of_row : {Q : List ℕ → Type 0} (fails : Form → List ℕ → Bool) (m : Form) → ((f : List ℕ) → T (fails m f) ↔ Q f) → (n : ℕ) (l : List ℕ)
    → T (some_field fails (replicate n m) l) ↔ ((h : ℕ) × (h < n) × Q (field_at l h))
unfolding some_field field_at rest_at
of_row {Q} fails m f zero l = (λ t. absurd t, λ s. absurd (omega (arith, s.1)))
of_row {Q} fails m f (suc n) l = Iff.trans (of_or (fails m (up_to l)) (some_field fails (replicate n m) (past l)) (f (up_to l)) (of_row {Q = Q} fails m f n (past l))) (
  λ s. elim s [ inl q ↦ (0, omega arith, q) | inr r ↦ (suc r.0, omega (arith, r.1), r.2) ],
  λ s. back s.0 s.1 s.2,
)
  where
    back : (h : ℕ) → h < suc n → Q (up_to (rest_at l h)) → Q (up_to l) ⊎ ((j : ℕ) × (j < n) × Q (up_to (rest_at (past l) j)))
    back zero k q = inl q
    back (suc j) k q = inr (j, omega arith, q)

-- the row after the tag and three fields
row_at : (l : Line) (h : ℕ) → field_at (past (past (past (past l)))) h ≡ field_at l (4 + h)
unfolding field_at rest_at
row_at l h = rw e
  where
    e : 4 + h ≡ suc (suc (suc (suc h)))
    e = omega arith

of_values : {Q : List ℕ → Type 0} (fails : Form → List ℕ → Bool) (m : Form) → ((f : List ℕ) → T (fails m f) ↔ Q f) → (l : Line)
    → T (some_field fails (replicate 20 m) (past (past (past (past l))))) ↔ ((h : ℕ) × (h < 20) × Q (field_at l (4 + h)))
of_values {Q} fails m f l = Iff.trans (of_row {Q = Q} fails m f 20 (past (past (past (past l))))) (
  λ s. (s.0, s.1, rw (row_at l s.0) at s.2),
  λ s. (s.0, s.1, rw (row_at l s.0) s.2),
)

no_number : (f : List ℕ) → Says (not (is_number f)) (¬ Number f)
no_number f = say (not (is_number f)) (of_no_number f)

of_malformed : (t : Tag) (l : Line) → T (some_field (λ m f. not (in_form m f)) (forms_of t) (past l)) ↔ Malformed t l
unfolding forms_of some_field in_form field_at rest_at editionText
of_malformed S l =
    (either (say (not (reads (field_at l 1) editionText)) (of_not (reads (field_at l 1) editionText) (of_reads (field_at l 1) editionText)))
    (either (no_number (field_at l 2)) (either (no_number (field_at l 3))
    (either (say (not (is_meter (meter_of (field_at l 4)))) (of_not (is_meter (meter_of (field_at l 4))) (of_meter (field_at l 4)))) (alone (no_number (field_at l 5))))))).iff
of_malformed C l =
    (either (no_number (field_at l 1)) (either (no_number (field_at l 2)) (either (no_number (field_at l 3))
    (say (some_field (λ m f. not (in_form m f)) (replicate 20 (number_or_dash most_power)) (past (past (past (past l)))))
    (of_values (λ m f. not (in_form m f)) (number_or_dash most_power) (λ f. of_not (is_dash f || is_number f) (of_or (is_dash f) (is_number f) (of_dash f) (of_number f))) l))))).iff
of_malformed X l =
    (either (no_number (field_at l 1)) (either (no_number (field_at l 2)) (either (no_number (field_at l 3)) (either (no_number (field_at l 4))
    (alone (say (not (is_kind (kind_of (field_at l 5)))) (of_not (is_kind (kind_of (field_at l 5))) (of_kind (field_at l 5))))))))).iff
of_malformed D l = (either (no_number (field_at l 1)) (either (no_number (field_at l 2)) (either (no_number (field_at l 3)) (alone (no_number (field_at l 4)))))).iff
of_malformed P l =
    (either (no_number (field_at l 1)) (either (no_number (field_at l 2)) (either (no_number (field_at l 3))
    (say (some_field (λ m f. not (in_form m f)) (replicate 20 (number 0 most_profile)) (past (past (past (past l)))))
    (of_values (λ m f. not (in_form m f)) (number 0 most_profile) of_no_number l))))).iff
of_malformed B l = (alone (no_number (field_at l 1))).iff
of_malformed R l = (either (no_number (field_at l 1)) (alone (no_number (field_at l 2)))).iff
of_malformed E l = (alone (no_number (field_at l 1))).iff
of_malformed other l = (λ t. t, λ t. t)

-- ---- 6
of_more : (m n : ℕ) → T (not (leb m n)) ↔ (n < m)
of_more m n = (nleb→lt m n, λ h. not_T (leb m n) (λ t. omega (arith, leb→le m n t)))

of_nand : {A B : Type 0} (a b : Bool) → T (not a) ↔ A → T (not b) ↔ B → T (not (a && b)) ↔ (A ⊎ B)
of_nand true b f g = (λ t. inr (g.0 t), λ s. elim s [ inl x ↦ absurd (f.1 x) | inr y ↦ g.1 y ])
of_nand false b f g = (λ t. inl (f.0 tt), λ s. tt)

of_nor : {A B : Type 0} (a b : Bool) → T (not a) ↔ A → T (not b) ↔ B → T (not (a || b)) ↔ (A × B)
of_nor true b f g = (λ t. absurd t, λ s. f.1 s.0)
of_nor false b f g = (λ t. (f.0 tt, g.0 t), λ s. g.1 s.1)

of_off : (a b n : ℕ) → T (not (leb a n && leb n b)) ↔ Off a b n
of_off a b n = of_nand (leb a n) (leb n b) (of_more a n) (of_more n b)

of_above : (b n : ℕ) → T (not (leb 0 n && leb n b)) ↔ (b < n)
of_above b n = Iff.trans (of_off 0 b n) (λ s. elim s [ inl h ↦ absurd (omega arith) | inr h ↦ h ], λ h. inr h)

off : (a b n : ℕ) → Says (not (leb a n && leb n b)) (Off a b n)
off a b n = say (not (leb a n && leb n b)) (of_off a b n)

above : (b n : ℕ) → Says (not (leb 0 n && leb n b)) (b < n)
above b n = say (not (leb 0 n && leb n b)) (of_above b n)

module _ (ls : List Line) where
  of_off_history : (y : ℕ) → T (not (among (history_in ls) y)) ↔ OffHistory ls y
  unfolding history_in
  of_off_history y = of_not (among (history_in ls) y) (date_words.history (site_in ls).al (site_in ls).filiere y)

  of_off_axis : (y : ℕ) → T (not (among (axis_years (history_in ls)) y)) ↔ OffAxis ls y
  unfolding history_in
  of_off_axis y = of_not (among (axis_years (history_in ls)) y) (date_words.axis (site_in ls).al (site_in ls).filiere y)

  off_history : (l : Line) → Says (not (among (history_in ls) (year_on l))) (OffHistory ls (year_on l))
  off_history l = say (not (among (history_in ls) (year_on l))) (of_off_history (year_on l))

  off_axis : (l : Line) → Says (not (among (axis_years (history_in ls)) (year_on l))) (OffAxis ls (year_on l))
  off_axis l = say (not (among (axis_years (history_in ls)) (year_on l))) (of_off_axis (year_on l))

  of_outside : (t : Tag) (l : Line) → T (some_field (λ m f. not (in_range (history_in ls) m f)) (forms_of t) (past l)) ↔ Outside ls t l
  unfolding forms_of some_field in_range field_at rest_at number_at
  of_outside S l = (either (off 2021 2026 (number_at l 2)) (either (off 1 11 (number_at l 3)) (alone (off 1 most_power (number_at l 5))))).iff
  of_outside C l =
      (either (off_history l) (say (some_field (λ m f. not (in_range (history_in ls) m f)) (replicate 20 (number_or_dash most_power)) (past (past (past (past l)))))
      (of_values (λ m f. not (in_range (history_in ls) m f)) (number_or_dash most_power)
      (λ f. of_nor (is_dash f) (leb (value_of f) most_power) (of_not (is_dash f) (of_dash f)) (of_more (value_of f) most_power)) l))).iff
  of_outside X l = (either (off_axis l) (alone (above most_index (number_at l 4)))).iff
  of_outside D l = (either (off_axis l) (alone (above most_daily (number_at l 4)))).iff
  of_outside P l =
      (either (off_history l) (say (some_field (λ m f. not (in_range (history_in ls) m f)) (replicate 20 (number 0 most_profile)) (past (past (past (past l)))))
      (of_values (λ m f. not (in_range (history_in ls) m f)) (number 0 most_profile) (λ f. of_above most_profile (value_of f)) l))).iff
  of_outside B l = (alone (off_history l)).iff
  of_outside R l = (either (off_history l) (alone (off 10 1000 (number_at l 2)))).iff
  of_outside E l = (alone (above 9999 (number_at l 1))).iff
  of_outside other l = (λ t. t, λ t. t)

-- ---- 7 and 8
tagged : (k t : Tag) → Says (is k t) (t ≡ k)
tagged k t = say (is k t) (of_is k t)

of_dated : (t : Tag) → T (has_date_on t) ↔ Dated t
of_dated t = (either (tagged C t) (either (tagged X t) (either (tagged D t) (tagged P t)))).iff

of_no_date : (l : Line) → T (has_no_date l) ↔ (Dated (tag_of l) × ((¬ Date (year_on l) (month_on l) (day_on l)) ⊎ (OnlyWinter (tag_of l) × (¬ Winter (month_on l)))))
unfolding has_no_date
of_no_date l =
    of_and (has_date_on (tag_of l)) (not (is_date (year_on l) (month_on l) (day_on l)) || (is_winter_tag (tag_of l) && not (is_winter (month_on l)))) (of_dated (tag_of l))
    (of_or (not (is_date (year_on l) (month_on l) (day_on l))) (is_winter_tag (tag_of l) && not (is_winter (month_on l)))
    (of_not (is_date (year_on l) (month_on l) (day_on l)) (date_words.date (year_on l) (month_on l) (day_on l)))
    (of_and (is_winter_tag (tag_of l)) (not (is_winter (month_on l))) (of_or (is C (tag_of l)) (is P (tag_of l)) (of_is C (tag_of l)) (of_is P (tag_of l)))
    (of_not (is_winter (month_on l)) (date_words.winter (month_on l)))))

of_rising : (t : Tag) → T (is_rising t) ↔ Rising t
unfolding is_rising
of_rising t = of_or (has_date_on t) (has_year_on t) (of_dated t) (of_or (is B t) (is R t) (of_is B t) (of_is R t))

of_reached : (ls : List Line) (t : Tag) (n : ℕ) → T (not_later_in ls t n) ↔ (Rising t × Some (λ k. (tag_of k ≡ t) × (n ≤ key_of t k)) ls)
unfolding not_later_in
of_reached ls t n =
    of_and (is_rising t) (any (λ (m : Line). is t (tag_of m) && leb n (key_of t m)) ls) (of_rising t)
    (of_any (λ (m : Line). is t (tag_of m) && leb n (key_of t m)) (λ m. of_and (is t (tag_of m)) (leb n (key_of t m)) (of_is t (tag_of m)) (of_le n (key_of t m))) ls)

-- ---- 10
of_falling : (ls : List Line) (n : ℕ) → T (ltb n (last_index_in ls)) ↔ ((k : Line) × Last (λ m. tag_of m ≡ X) k ls × (n < number_at k 4))
unfolding last_index_in
of_falling ls n = (λ t. forth (latest (λ (l : Line). cond (is X (tag_of l)) (some (number_at l 4)) none) ls) refl t, back)
  where
    found : (v : ℕ) → (latest (λ (l : Line). cond (is X (tag_of l)) (some (number_at l 4)) none) ls ≡ some v) ↔ ((k : Line) × Last (λ m. tag_of m ≡ X) k ls × (number_at k 4 ≡ v))
    found v = of_latest (λ (l : Line). is X (tag_of l)) (λ l. number_at l 4) (λ l. of_is X (tag_of l)) v ls

    forth : (o : Option ℕ) → latest (λ (l : Line). cond (is X (tag_of l)) (some (number_at l 4)) none) ls ≡ o → T (ltb n (or_else o 0)) → (k : Line) × Last (λ m. tag_of m ≡ X) k ls × (n < number_at k 4)
    forth none e t = absurd (omega (arith, (of_lt n 0).0 t))
    forth (some v) e t = let q = (found v).0 e in (q.0, q.1, omega (arith, q.2, (of_lt n v).0 t))

    back : (k : Line) × Last (λ m. tag_of m ≡ X) k ls × (n < number_at k 4) → T (ltb n (or_else (latest (λ (l : Line). cond (is X (tag_of l)) (some (number_at l 4)) none) ls) 0))
    back q = rw ((found (number_at q.0 4)).1 (q.0, q.1, refl)) ((of_lt n (number_at q.0 4)).1 q.2)

-- ---- 11
of_many : (ls : List Line) → T (leb 600 (count (λ (l : Line). is X (tag_of l)) ls)) ↔ ((n : ℕ) × CountIs (λ k. tag_of k ≡ X) ls n × (600 ≤ n))
of_many ls = Iff.trans (of_le 600 (count (λ (l : Line). is X (tag_of l)) ls)) (
  λ h. (count (λ (l : Line). is X (tag_of l)) ls, (tally (count (λ (l : Line). is X (tag_of l)) ls)).0 refl, h),
  λ s. omega (arith, s.2, (tally s.0).1 s.1),
)
  where
    tally : (n : ℕ) → (count (λ (l : Line). is X (tag_of l)) ls ≡ n) ↔ CountIs (λ k. tag_of k ≡ X) ls n
    tally n = of_count (λ (l : Line). is X (tag_of l)) (λ l. of_is X (tag_of l)) ls n

-- ---- each condition
pub of_holds : (ls : List Line) (l : Line) (y : Reason) → T (holds y (before_in ls) l) ↔ Words y ls l
unfolding holds before_in Words is_malformed is_outside is_too_soon site_on
of_holds ls l illegible = of_illegible l
of_holds ls l unknown = of_unknown l
of_holds ls l misplaced = of_barred ls (tag_of l)
of_holds ls l malformed = of_malformed (tag_of l) l
of_holds ls l outside = of_outside ls (tag_of l) l
of_holds ls l no_date = of_no_date l
of_holds ls l not_later = of_reached ls (tag_of l) (key_of (tag_of l) l)
of_holds ls l too_soon = of_and (is S (tag_of l)) (leb 6 (number_at l 3) && ltb (number_at l 2) 2023) (of_is S (tag_of l)) (of_and (leb 6 (number_at l 3)) (ltb (number_at l 2) 2023) (of_le 6 (number_at l 3)) (of_lt (number_at l 2) 2023))
of_holds ls l falling = of_and (is X (tag_of l)) (ltb (number_at l 4) (last_index_in ls)) (of_is X (tag_of l)) (of_falling ls (number_at l 4))
of_holds ls l too_many = of_and (is X (tag_of l)) (leb 600 (count (λ (m : Line). is X (tag_of m)) ls)) (of_is X (tag_of l)) (of_many ls)
of_holds ls l miscounted = of_and (is E (tag_of l)) (not (eqb (number_at l 1) (length ls))) (of_is E (tag_of l)) (of_not (eqb (number_at l 1) (length ls)) (of_eq (number_at l 1) (length ls)))

-- ---- the first that holds
front : (y : Reason) → Front y (earlier y) order
unfolding earlier order
front illegible = front_nil
front unknown = front_cons front_nil
front misplaced = front_cons (front_cons front_nil)
front malformed = front_cons (front_cons (front_cons front_nil))
front outside = front_cons (front_cons (front_cons (front_cons front_nil)))
front no_date = front_cons (front_cons (front_cons (front_cons (front_cons front_nil))))
front not_later = front_cons (front_cons (front_cons (front_cons (front_cons (front_cons front_nil)))))
front too_soon = front_cons (front_cons (front_cons (front_cons (front_cons (front_cons (front_cons front_nil))))))
front falling = front_cons (front_cons (front_cons (front_cons (front_cons (front_cons (front_cons (front_cons front_nil)))))))
front too_many = front_cons (front_cons (front_cons (front_cons (front_cons (front_cons (front_cons (front_cons (front_cons front_nil))))))))
front miscounted = front_cons (front_cons (front_cons (front_cons (front_cons (front_cons (front_cons (front_cons (front_cons (front_cons front_nil)))))))))

lower_test : (y : Reason) → T (all (λ z. ltb (number_of z) (number_of y)) (earlier y))
unfolding earlier number_of all
lower_test illegible = tt
lower_test unknown = tt
lower_test misplaced = tt
lower_test malformed = tt
lower_test outside = tt
lower_test no_date = tt
lower_test not_later = tt
lower_test too_soon = tt
lower_test falling = tt
lower_test too_many = tt
lower_test miscounted = tt

lower : (y : Reason) → Each (λ z. number_of z < number_of y) (earlier y)
lower y = (of_all (λ z. ltb (number_of z) (number_of y)) (λ z. of_lt (number_of z) (number_of y)) (earlier y)).0 (lower_test y)

every_reason : {Q : Reason → Type 0} → ((y : Reason) → Q y) → (ys : List Reason) → Each Q ys
every_reason f [] = each_nil
every_reason f (y ∷ ys) = each_cons (f y) (every_reason f ys)

-- ---- the order of dates
key_words : (t : Tag) (k l : Line) → Dated t → Date (year_on k) (month_on k) (day_on k) → Date (year_on l) (month_on l) (day_on l)
    → (key_of t l ≤ key_of t k) ↔ (¬ EarlierDate (year_on k) (month_on k) (day_on k) (year_on l) (month_on l) (day_on l))
unfolding key_of date_key
key_words t k l d a b = rw (is_true (has_date_on t) ((of_dated t).1 d)) (
  λ h e. omega (arith, h, earlier_key.0 e),
  λ n. by (leb (366 * year_on l + date_place (month_on l) (day_on l)) (366 * year_on k + date_place (month_on k) (day_on k))) refl n,
)
  where
    day : (m : Line) → Date (year_on m) (month_on m) (day_on m) → T (is_day (month_on m) (day_on m))
    day m e = date_day (year_on m) (month_on m) (day_on m) ((date_words.date (year_on m) (month_on m) (day_on m)).1 e)

    earlier_key : EarlierDate (year_on k) (month_on k) (day_on k) (year_on l) (month_on l) (day_on l) ↔ (366 * year_on k + date_place (month_on k) (day_on k) < 366 * year_on l + date_place (month_on l) (day_on l))
    earlier_key = Iff.trans (earlier_position (years 0 0) (year_on k) (month_on k) (day_on k) (year_on l) (month_on l) (day_on l) (omega arith) (omega arith) (day k a) (day l b)) (unfold position_of in (λ h. omega arith, λ h. omega arith))

    by : (b : Bool) → leb (366 * year_on l + date_place (month_on l) (day_on l)) (366 * year_on k + date_place (month_on k) (day_on k)) ≡ b
        → (¬ EarlierDate (year_on k) (month_on k) (day_on k) (year_on l) (month_on l) (day_on l)) → 366 * year_on l + date_place (month_on l) (day_on l) ≤ 366 * year_on k + date_place (month_on k) (day_on k)
    by true e n = leb-true _ _ e
    by false e n = absurd (n (earlier_key.1 (leb-false _ _ e)))

year_key : (t : Tag) (l : Line) → (t ≡ B) ⊎ (t ≡ R) → key_of t l ≡ year_on l
unfolding key_of
year_key t l (inl e) = rw e
year_key t l (inr e) = rw e

pub refusal_words : RefusalWords
unfolding refusal_at refusal
refusal_words = record {
  refused = λ ls l y. of_order (λ z. holds z (before_in ls) l) (of_holds ls l) number_of (front y) (lower y);
  accepted = λ ls l. Iff.trans (of_order_none (λ z. holds z (before_in ls) l) (of_holds ls l) order) (λ e y. each_reason e y, λ f. every_reason f order);
  dates = key_words;
  years = year_key;
}
