-- Years, dates and winter say what the words say.
use mathlib.Core.Path.{◌≡◌, refl, ap}
use mathlib.Core.Logic.Iff
use mathlib.Core.Logic.{◌↔◌, ◌⊎◌, inl, inr}
use mathlib.Core.Bool.{Bool, true, false, not, ◌&&◌, ◌||◌, cond}
use mathlib.Core.List.{List, [], ◌∷◌}
use Prim.Native.Nat.{ℕ, ◌+◌, ◌-◌, ◌≤◌, ◌<◌}
use native.Mathlib.Omega.{arith}
use lib.Dec.{T, leb, ltb, eqb, eqb→eq}
use borrow.Author.Tests.{ltb-true, ltb-false}
use Rattle.lists.specs.Lists.{any, Each, each_nil, each_cons, here, there}
use Rattle.lists.proofs.Laws.{paired}
use Rattle.lists.proofs.Reflect.{of_eq, of_le, of_and, of_or, of_any}
use Rattle.calendar.specs.Dates.{leap, month_lengths, longest, days_in, is_date, is_winter}
use Rattle.calendar.specs.declared.Years.{Years}
use Rattle.calendar.specs.Spans.{years, among, history_length, is_known, history_years, axis_years}
use Rattle.calendar.proofs.Tables.{at, given}
use Rattle.calendar.proofs.Laws.Months.{to_december}
use Rattle.calendar.proofs.Laws.Days.{leap_words, days_in_longest}
use Rattle.calendar.proofs.Laws.Positions.{among_words, known_history, no_history, known_parts, history_bounds, known_axis, no_axis}
use Rattle.lists.proofs.RestatedLists.{none_some, some_cons}
use Rattle.meaning.specs.Restated.Dates.{OneOf, Winter, Leap, Date, HistoryYear, AxisYear, DateWords}

-- a number is one of some where one of their tests passes
of_one : (ns : List ℕ) (n : ℕ) → T (any (eqb n) ns) ↔ OneOf ns n
of_one ns n = of_any (eqb n) (λ k. of_eq n k) ns

-- what holds of each of some numbers holds of one that is among them
each_one : (P : ℕ → Type 0) {ns : List ℕ} {n : ℕ} → Each P ns → OneOf ns n → P n
each_one P e s = let q = paired s e in rw q.1 q.2

-- ---- winter
winter_test : ℕ → Bool
unfolding is_winter any
winter_test m = not (is_winter m) || any (eqb m) (1 ∷ 2 ∷ 3 ∷ 11 ∷ 12 ∷ [])

of_winter : (m : ℕ) → T (is_winter m) ↔ Winter m
unfolding winter_test is_winter
of_winter m = (
  λ t. (of_one (1 ∷ 2 ∷ 3 ∷ 11 ∷ 12 ∷ []) m).0 (given (is_winter m) _ (at winter_test 13 tt m (low (words.0 t))) t),
  each_one (λ k. T (is_winter k)) (each_cons tt (each_cons tt (each_cons tt (each_cons tt (each_cons tt each_nil))))),
)
  where
    words : T (is_winter m) ↔ (((1 ≤ m) × (m ≤ 3)) ⊎ ((11 ≤ m) × (m ≤ 12)))
    words = of_or (leb 1 m && leb m 3) (leb 11 m && leb m 12) (of_and (leb 1 m) (leb m 3) (of_le 1 m) (of_le m 3)) (of_and (leb 11 m) (leb m 12) (of_le 11 m) (of_le m 12))

    low : ((1 ≤ m) × (m ≤ 3)) ⊎ ((11 ≤ m) × (m ≤ 12)) → m < 13
    low (inl h) = omega arith
    low (inr h) = omega arith

-- ---- dates
abbrev long : List ℕ
long = 1 ∷ 3 ∷ 5 ∷ 7 ∷ 8 ∷ 10 ∷ 12 ∷ []

abbrev short : List ℕ
short = 4 ∷ 6 ∷ 9 ∷ 11 ∷ []

month_test : ℕ → Bool
unfolding longest month_lengths any
month_test m = eqb (longest m) 0 || (any (eqb m) long || (any (eqb m) short || eqb m 2))

-- a number of days of a month is that of its kind
long_days : (y m : ℕ) → OneOf long m → days_in y m ≡ 31
unfolding days_in longest month_lengths
long_days y m = each_one (λ k. days_in y k ≡ 31) (each_cons refl (each_cons refl (each_cons refl (each_cons refl (each_cons refl (each_cons refl (each_cons refl each_nil)))))))

short_days : (y m : ℕ) → OneOf short m → days_in y m ≡ 30
unfolding days_in longest month_lengths
short_days y m = each_one (λ k. days_in y k ≡ 30) (each_cons refl (each_cons refl (each_cons refl (each_cons refl each_nil))))

february : (y d : ℕ) → (d ≤ days_in y 2) ↔ ((d ≤ 28) ⊎ (Leap y × (d ≤ 29)))
unfolding days_in longest month_lengths
february y d = go (leap y) (leap_words y)
  where
    go : (b : Bool) → T b ↔ Leap y → (d ≤ cond (not b) 28 29) ↔ ((d ≤ 28) ⊎ (Leap y × (d ≤ 29)))
    go true r = (λ h. inr (r.0 tt, h), λ s. elim s [ inl h ↦ omega arith | inr h ↦ h.1 ])
    go false r = (λ h. inl h, λ s. elim s [ inl h ↦ h | inr h ↦ absurd (r.1 h.0) ])

-- a month that has a day is of one of the three kinds
month_kinds : (m : ℕ) → 1 ≤ longest m → OneOf long m ⊎ (OneOf short m ⊎ (m ≡ 2))
unfolding month_test longest month_lengths
month_kinds m h =
    words.0 (given_not (eqb (longest m) 0) _ (at month_test 13 tt m (omega (arith, to_december m h))) (λ t. absurd (omega (arith, eqb→eq (longest m) 0 t))))
  where
    words : T (any (eqb m) long || (any (eqb m) short || eqb m 2)) ↔ (OneOf long m ⊎ (OneOf short m ⊎ (m ≡ 2)))
    words = of_or (any (eqb m) long) (any (eqb m) short || eqb m 2) (of_one long m) (of_or (any (eqb m) short) (eqb m 2) (of_one short m) (of_eq m 2))

    given_not : (a b : Bool) → T (a || b) → (T a → ⊥) → T b
    given_not true b t n = absurd (n tt)
    given_not false b t n = t

of_date : (y m d : ℕ) → T (is_date y m d) ↔ Date y m d
unfolding is_date
of_date y m d = (λ t. forth (words.0 t).0 (words.0 t).1, λ s. words.1 (s.0, back s.1))
  where
    words : T (leb 1 d && leb d (days_in y m)) ↔ ((1 ≤ d) × (d ≤ days_in y m))
    words = of_and (leb 1 d) (leb d (days_in y m)) (of_le 1 d) (of_le d (days_in y m))

    forth : 1 ≤ d → d ≤ days_in y m → Date y m d
    forth h k = (h, by (month_kinds m (omega (arith, days_in_longest y m))))
      where
        by : OneOf long m ⊎ (OneOf short m ⊎ (m ≡ 2)) → (OneOf long m × (d ≤ 31)) ⊎ ((OneOf short m × (d ≤ 30)) ⊎ ((m ≡ 2) × ((d ≤ 28) ⊎ (Leap y × (d ≤ 29)))))
        by (inl s) = inl (s, omega (arith, long_days y m s))
        by (inr (inl s)) = inr (inl (s, omega (arith, short_days y m s)))
        by (inr (inr e)) = inr (inr (e, (february y d).0 (omega (arith, ap (days_in y) e))))

    back : (OneOf long m × (d ≤ 31)) ⊎ ((OneOf short m × (d ≤ 30)) ⊎ ((m ≡ 2) × ((d ≤ 28) ⊎ (Leap y × (d ≤ 29))))) → d ≤ days_in y m
    back (inl s) = omega (arith, long_days y m s.0)
    back (inr (inl s)) = omega (arith, short_days y m s.0)
    back (inr (inr s)) = omega (arith, (february y d).1 s.1, ap (days_in y) s.0)

-- ---- spans
known_words : (al f : ℕ) → T (is_known al f) ↔ ((2021 ≤ al) × (al ≤ 2026) × (1 ≤ f) × (f ≤ 11))
unfolding is_known
known_words al f = (λ t. let k = known_parts al f t in (k.first_al_lem, k.last_al, k.first_filiere, k.last_filiere), λ s. words.1 ((s.0, s.1), (s.2, s.3)))
  where
    words : T (is_known al f) ↔ (((2021 ≤ al) × (al ≤ 2026)) × ((1 ≤ f) × (f ≤ 11)))
    words = of_and (leb 2021 al && leb al 2026) (leb 1 f && leb f 11) (of_and (leb 2021 al) (leb al 2026) (of_le 2021 al) (of_le al 2026)) (of_and (leb 1 f) (leb f 11) (of_le 1 f) (of_le f 11))

-- a span of so many years that ends with AL-5
span_words : (al f y : ℕ) → 2021 ≤ al → T (among (years (al - (history_length f + 4)) (history_length f)) y) ↔ ((y + 5 ≤ al) × ((al ≤ y + 9) ⊎ (OneOf (4 ∷ 5 ∷ []) f × (al ≤ y + 14))))
unfolding history_length
span_words al f y k = Iff.trans (among_words (years (al - (history_length f + 4)) (history_length f)) y) (go (eqb f 4 || eqb f 5) four)
  where
    four : T (eqb f 4 || eqb f 5) ↔ OneOf (4 ∷ 5 ∷ []) f
    four = Iff.trans (of_or (eqb f 4) (eqb f 5) (of_eq f 4) (of_eq f 5)) (
      λ s. elim s [ inl e ↦ here e | inr e ↦ there (here e) ],
      λ s. elim ((some_cons {A = ℕ} 4 (5 ∷ [])).0 s) [ inl e ↦ inl e | inr t ↦ inr (last t) ],
    )
      where
        last : OneOf (5 ∷ []) f → f ≡ 5
        last s = elim ((some_cons {A = ℕ} 5 []).0 s) [ inl e ↦ e | inr t ↦ absurd (none_some t) ]

    go : (b : Bool) → T b ↔ OneOf (4 ∷ 5 ∷ []) f → ((al - (cond b 10 5 + 4) ≤ y) × (y < (al - (cond b 10 5 + 4)) + cond b 10 5)) ↔ ((y + 5 ≤ al) × ((al ≤ y + 9) ⊎ (OneOf (4 ∷ 5 ∷ []) f × (al ≤ y + 14))))
    go true r = (λ s. (omega arith, inr (r.0 tt, omega arith)), λ s. elim s.1 [ inl h ↦ omega arith | inr h ↦ omega arith ])
    go false r = (λ s. (omega arith, inl (omega arith)), λ s. elim s.1 [ inl h ↦ omega arith | inr h ↦ absurd (r.1 h.0) ])

no_years_lem : (y : ℕ) → T (among (years 0 0) y) → ⊥
no_years_lem y t = let q = (among_words (years 0 0) y).0 t in omega arith

of_history : (al f y : ℕ) → T (among (history_years al f) y) ↔ HistoryYear al f y
of_history al f y = go (is_known al f) refl
  where
    go : (b : Bool) → is_known al f ≡ b → T (among (history_years al f) y) ↔ HistoryYear al f y
    go true e = (
      λ t. (known, (span_words al f y known.0).0 (rw (known_history al f is) at t)),
      λ s. rw (known_history al f is) ((span_words al f y known.0).1 s.1),
    )
      where
        is : T (is_known al f)
        is = rw e tt

        known : (2021 ≤ al) × (al ≤ 2026) × (1 ≤ f) × (f ≤ 11)
        known = (known_words al f).0 is
    go false e = (
      λ t. absurd (no_years_lem y (rw (no_history al f (rw e tt)) at t)),
      λ s. absurd (rw e at ((known_words al f).1 s.0)),
    )

-- one year more on both sides
wider : (h : Years) (y : ℕ) → 1 ≤ h.first → 1 ≤ h.count → T (among (years (h.first - 1) (h.count + 2)) y) ↔ (T (among h y) ⊎ T (among h (y + 1)) ⊎ ((z : ℕ) × (y ≡ z + 1) × T (among h z)))
wider h y a b = (λ t. forth ((among_words (years (h.first - 1) (h.count + 2)) y).0 t), λ s. (among_words (years (h.first - 1) (h.count + 2)) y).1 (back s))
  where
    forth : (h.first - 1 ≤ y) × (y < h.first - 1 + (h.count + 2)) → T (among h y) ⊎ T (among h (y + 1)) ⊎ ((z : ℕ) × (y ≡ z + 1) × T (among h z))
    forth q = by (ltb y h.first) (ltb y (h.first + h.count)) refl refl
      where
        by : (p r : Bool) → ltb y h.first ≡ p → ltb y (h.first + h.count) ≡ r → T (among h y) ⊎ T (among h (y + 1)) ⊎ ((z : ℕ) × (y ≡ z + 1) × T (among h z))
        by true r c d = inr (inl ((among_words h (y + 1)).1 (omega (arith, ltb-true y h.first c))))
        by false true c d = inl ((among_words h y).1 (ltb-false y h.first c, ltb-true y (h.first + h.count) d))
        by false false c d = inr (inr (y - 1, omega (arith, ltb-false y (h.first + h.count) d), (among_words h (y - 1)).1 (omega (arith, ltb-false y (h.first + h.count) d))))

    back : T (among h y) ⊎ T (among h (y + 1)) ⊎ ((z : ℕ) × (y ≡ z + 1) × T (among h z)) → (h.first - 1 ≤ y) × (y < h.first - 1 + (h.count + 2))
    back (inl t) = let q = (among_words h y).0 t in omega arith
    back (inr (inl t)) = let q = (among_words h (y + 1)).0 t in omega arith
    back (inr (inr s)) = let q = (among_words h s.0).0 s.2 in omega (arith, s.1)

axis_wider : (al f y : ℕ) → T (among (axis_years (history_years al f)) y) ↔ (T (among (history_years al f) y) ⊎ T (among (history_years al f) (y + 1)) ⊎ ((z : ℕ) × (y ≡ z + 1) × T (among (history_years al f) z)))
axis_wider al f y = go (is_known al f) refl
  where
    go : (b : Bool) → is_known al f ≡ b → T (among (axis_years (history_years al f)) y) ↔ (T (among (history_years al f) y) ⊎ T (among (history_years al f) (y + 1)) ⊎ ((z : ℕ) × (y ≡ z + 1) × T (among (history_years al f) z)))
    go true e =
        let bounds = history_bounds al f (rw e tt) in
        rw (known_axis al f (rw e tt)) (wider (history_years al f) y (omega (arith, bounds.from)) (elim bounds.length [ inl h ↦ omega arith | inr h ↦ omega arith ]))
    go false e = (
      λ t. absurd (no_years_lem y (rw (no_axis al f (rw e tt)) at t)),
      λ s. absurd (elim s [ inl t ↦ bare y t | inr r ↦ elim r [ inl t ↦ bare (y + 1) t | inr q ↦ bare q.0 q.2 ] ]),
    )
      where
        bare : (z : ℕ) → T (among (history_years al f) z) → ⊥
        bare z t = no_years_lem z (rw (no_history al f (rw e tt)) at t)

of_axis : (al f y : ℕ) → T (among (axis_years (history_years al f)) y) ↔ AxisYear al f y
of_axis al f y = Iff.trans (axis_wider al f y) (
  λ s. elim s [ inl t ↦ inl ((of_history al f y).0 t) | inr r ↦ elim r [ inl t ↦ inr (inl ((of_history al f (y + 1)).0 t)) | inr q ↦ inr (inr (q.0, q.1, (of_history al f q.0).0 q.2)) ] ],
  λ s. elim s [ inl t ↦ inl ((of_history al f y).1 t) | inr r ↦ elim r [ inl t ↦ inr (inl ((of_history al f (y + 1)).1 t)) | inr q ↦ inr (inr (q.0, q.1, (of_history al f q.0).1 q.2)) ] ],
)

pub date_words : DateWords
date_words = record { winter = of_winter; date = of_date; history = of_history; axis = of_axis }
