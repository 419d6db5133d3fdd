-- Valid years and cases are what the words say.
use mathlib.Core.Path.{◌≡◌, refl, ap, sym, ◌∙◌}
use mathlib.Core.Logic.Iff
use mathlib.Core.Logic.{◌≢◌, ◌↔◌, inl, inr}
use mathlib.Core.Bool.{Bool, true, false, not, ◌&&◌, ◌||◌}
use mathlib.Core.List.{map}
use mathlib.Core.Option.{Option, some, none}
use Prim.Native.Nat.{ℕ, ◌+◌, ◌-◌, ◌*◌, ◌≤◌, ◌<◌}
use native.Mathlib.Omega.{arith}
use lib.Dec.{T, leb, ltb, eqb}
use lib.ListN.{length}
use Rattle.lists.specs.Lists.{any, all, keep, tab, range, count, is_some, neighbours, Each, Some}
use Rattle.lists.specs.Restated.{CountIs, Adjacent}
use Rattle.lists.proofs.Reflect.{of_eq, of_le, of_lt, of_and, of_not, of_any, of_all}
use Rattle.lists.proofs.RestatedLists.{of_count, count_flat, count_map, count_rises, sum_same, sum_rises, sum_constant, length_flat, some_keep, each_keep, map_some, map_each, some_range, each_range, some_neighbours, each_neighbours}
use Rattle.calendar.specs.Dates.{is_winter}
use Rattle.calendar.specs.Places.{has_date, month_of}
use Rattle.calendar.specs.Spans.{year_at, place_at}
use Rattle.note.specs.Peaks.{peak_days, peak_count, has_peaks, day_counts}
use Rattle.note.proofs.PeakDays.{days_length}
use Rattle.calendar.proofs.Tables.{given}
use Rattle.meaning.specs.Filing.{Filing, Kind, real, corrected, estimated, no_kind, is_trusted, Reading, axis_of, year_of}
use Rattle.meaning.specs.Validity.{Interval, half_hours, expected_points, present_points, enough, curve_valid, intervals, days_of, has_day, is_winter_day, overlaps_winter, winter_days, is_covered, is_sound, index_valid}
use Rattle.meaning.specs.Restated.Dates.{Winter}
use Rattle.meaning.specs.Restated.Years.{peak_points, Present, CurveValid, Between, WinterDay, Trusted, IndexValid, ValidWords}
use Rattle.meaning.proofs.Pins.Dates.{date_words}

-- ---- curve years
is_there : (o : Option ℕ) → T (is_some o) ↔ (o ≢ none)
is_there none = (λ t. absurd t, λ n. n refl)
is_there (some v) = (λ t (e : some v ≡ none). let z : ◌≡◌ {A = ℕ} 0 1 = cc in absurd (omega arith), λ n. tt)

present_pairs : (F : Filing) (y : ℕ) → count (λ (q : ℕ × ℕ). is_some (F.point y q.0 q.1)) (peak_points y) ≡ present_points F y
unfolding present_points peak_points
present_pairs F y =
    count_flat (λ (q : ℕ × ℕ). is_some (F.point y q.0 q.1)) (λ w. map (λ (h : ℕ). (w, h)) (range 0 20)) (peak_days y)
    ∙ sum_same (λ w. count (λ (q : ℕ × ℕ). is_some (F.point y q.0 q.1)) (map (λ (h : ℕ). (w, h)) (range 0 20))) (λ w. count (λ h. is_some (F.point y w h)) (range 0 20)) (peak_days y)
    (λ w. count_map (λ (q : ℕ × ℕ). is_some (F.point y q.0 q.1)) (λ (h : ℕ). (w, h)) (range 0 20))

present_tally : (F : Filing) (y n : ℕ) → (present_points F y ≡ n) ↔ CountIs (Present F y) (peak_points y) n
present_tally F y n = Iff.trans (λ e. present_pairs F y ∙ e, λ e. sym (present_pairs F y) ∙ e) (of_count (λ (q : ℕ × ℕ). is_some (F.point y q.0 q.1)) (λ q. is_there (F.point y q.0 q.1)) (peak_points y) n)

points_length : (y : ℕ) → length (peak_points y) ≡ 20 * peak_count y
unfolding peak_points range tab
points_length y =
    length_flat (λ w. map (λ (h : ℕ). (w, h)) (range 0 20)) (peak_days y) ∙ sum_constant 20 (peak_days y) ∙ ap (λ (n : ℕ). 20 * n) (days_length y)

-- no break, and enough
valid_parts : (F : Filing) (y : ℕ) → T (curve_valid F y) ↔ ((¬ T (F.broken y)) × (80 * (20 * peak_count y) ≤ 100 * present_points F y))
unfolding curve_valid enough expected_points
valid_parts F y =
    of_and (not (F.broken y)) (leb (80 * (20 * peak_count y)) (100 * present_points F y)) (of_not (F.broken y) (λ t. t, λ t. t)) (of_le (80 * (20 * peak_count y)) (100 * present_points F y))

of_curve : (F : Filing) (y : ℕ) → T (curve_valid F y) ↔ CurveValid F y
of_curve F y = Iff.trans (valid_parts F y) (
  λ s. (s.0, (present_points F y, (present_tally F y (present_points F y)).0 refl, omega (arith, s.1, points_length y))),
  λ s. (s.0, omega (arith, s.1.2, points_length y, (present_tally F y s.1.0).1 s.1.1)),
)

more_points : (F G : Filing) (y : ℕ) → ((w h : ℕ) → F.point y w h ≢ none → G.point y w h ≢ none) → present_points F y ≤ present_points G y
unfolding present_points
more_points F G y r =
    sum_rises (λ w. count (λ h. is_some (F.point y w h)) (range 0 half_hours)) (λ w. count (λ h. is_some (G.point y w h)) (range 0 half_hours)) (peak_days y)
    (λ w. count_rises (λ h. is_some (F.point y w h)) (λ h. is_some (G.point y w h)) (λ h t. (is_there (G.point y w h)).1 (r w h ((is_there (F.point y w h)).0 t))) (range 0 half_hours))

count_2019 : peak_count 2019 ≡ 11
unfolding peak_count has_peaks day_counts
count_2019 = refl

count_2017 : peak_count 2017 ≡ 22
unfolding peak_count has_peaks day_counts
count_2017 = refl

-- ---- index years
pub some_intervals : {P : Interval → Type 0} (F : Filing) → Some P (intervals F) ↔ ((a : Reading) × (b : Reading) × Adjacent a b F.readings × P (record { from = a; to = b }))
unfolding intervals
some_intervals {P} F = Iff.trans (map_some {P = P} (λ (p : Reading × Reading). record { from = p.0; to = p.1 }) (neighbours F.readings)) (some_neighbours F.readings)

pub each_intervals : {P : Interval → Type 0} (F : Filing) → Each P (intervals F) ↔ ((a b : Reading) → Adjacent a b F.readings → P (record { from = a; to = b }))
unfolding intervals
each_intervals {P} F = Iff.trans (map_each {P = P} (λ (p : Reading × Reading). record { from = p.0; to = p.1 }) (neighbours F.readings)) (each_neighbours F.readings)

of_trusted : (k : Kind) → T (is_trusted k) ↔ Trusted k
of_trusted real = (λ t. inl refl, λ s. tt)
of_trusted corrected = (λ t. inr refl, λ s. tt)
of_trusted estimated = (λ t. absurd t, λ s. elim s [ inl e ↦ (let z : ◌≡◌ {A = ℕ} 0 1 = cc in absurd (omega arith)) | inr e ↦ (let z : ◌≡◌ {A = ℕ} 0 1 = cc in absurd (omega arith)) ])
of_trusted no_kind = (λ t. absurd t, λ s. elim s [ inl e ↦ (let z : ◌≡◌ {A = ℕ} 0 1 = cc in absurd (omega arith)) | inr e ↦ (let z : ◌≡◌ {A = ℕ} 0 1 = cc in absurd (omega arith)) ])

of_winter_day : (F : Filing) (y p : ℕ) → T (has_date (year_of F p) (place_at p)) × T (is_winter_day F y p) ↔ WinterDay F y p
unfolding is_winter_day has_date
of_winter_day F y p = (
  λ s. let d = day.0 s.1 in (d.0, (date_words.date y _ _).0 (rw d.0 at s.0), d.1),
  λ s. (rw s.0 ((date_words.date y _ _).1 s.1), day.1 (s.0, s.2)),
)
  where
    day : T (eqb (year_of F p) y && is_winter (month_of (place_at p))) ↔ ((year_of F p ≡ y) × Winter (month_of (place_at p)))
    day = of_and (eqb (year_of F p) y) (is_winter (month_of (place_at p))) (of_eq (year_of F p) y) (date_words.winter (month_of (place_at p)))

-- an interval overlaps a winter where a winter day lies between its readings
pub of_overlap : (F : Filing) (y : ℕ) (a b : Reading) → T (overlaps_winter F y (record { from = a; to = b })) ↔ ((p : ℕ) × Between a b p × WinterDay F y p)
unfolding overlaps_winter days_of
of_overlap F y a b =
    Iff.trans (of_any (is_winter_day F y) (λ p. (λ t. t, λ t. t)) (keep (λ p. has_date (year_of F p) (place_at p)) (range a.position (b.position - a.position))))
    (Iff.trans (some_keep (λ p. has_date (year_of F p) (place_at p)) (range a.position (b.position - a.position)))
    (Iff.trans (some_range a.position (b.position - a.position)) (
      λ s. (s.0, omega (arith, s.1, s.2), (of_winter_day F y s.0).0 s.3),
      λ s. (s.0, s.1.0, omega (arith, s.1), (of_winter_day F y s.0).1 s.2),
    )))

of_has_day : (a b : Reading) (p : ℕ) → T (has_day (record { from = a; to = b }) p) ↔ Between a b p
unfolding has_day
of_has_day a b p = of_and (leb a.position p) (ltb p b.position) (of_le a.position p) (of_lt p b.position)

-- a winter day of the year stands in the year's row
in_row : (F : Filing) (y p : ℕ) → year_of F p ≡ y → (366 * (y - (axis_of F).first) ≤ p) × (p < 366 * (y - (axis_of F).first) + 366)
unfolding year_of year_at
in_row F y p e = omega arith

of_covered : (F : Filing) (y : ℕ) → T (is_covered F y) ↔ ((p : ℕ) → WinterDay F y p → (a : Reading) × (b : Reading) × Adjacent a b F.readings × Between a b p)
unfolding is_covered winter_days
of_covered F y =
    Iff.trans (of_all (λ p. any (λ v. has_day v p) (intervals F)) covered (keep (λ p. has_date y (place_at p) && is_winter_day F y p) (range (366 * (y - (axis_of F).first)) 366)))
    (Iff.trans (each_keep (λ p. has_date y (place_at p) && is_winter_day F y p) (range (366 * (y - (axis_of F).first)) 366))
    (Iff.trans (each_range (366 * (y - (axis_of F).first)) 366) (
      λ f p d. f p (in_row F y p d.0).0 (in_row F y p d.0).1 ((test p).1 d),
      λ f p h l t. f p ((test p).0 t),
    )))
  where
    covered : (p : ℕ) → T (any (λ v. has_day v p) (intervals F)) ↔ ((a : Reading) × (b : Reading) × Adjacent a b F.readings × Between a b p)
    covered p = Iff.trans (of_any (λ v. has_day v p) (λ v. (λ t. t, λ t. t)) (intervals F)) (Iff.trans (some_intervals F) (
      λ s. (s.0, s.1, s.2, (of_has_day s.0 s.1 p).0 s.3),
      λ s. (s.0, s.1, s.2, (of_has_day s.0 s.1 p).1 s.3),
    ))

    test : (p : ℕ) → T (has_date y (place_at p) && is_winter_day F y p) ↔ WinterDay F y p
    test p = Iff.trans (of_and (has_date y (place_at p)) (is_winter_day F y p) (λ t. t, λ t. t) (λ t. t, λ t. t)) (
      λ s. (of_winter_day F y p).0 (rw (year s.1) s.0, s.1),
      λ d. let s = (of_winter_day F y p).1 d in (rw d.0 at s.0, s.1),
    )
      where
        year : T (is_winter_day F y p) → year_of F p ≡ y
        year t = unfold is_winter_day in ((of_and (eqb (year_of F p) y) (is_winter (month_of (place_at p))) (of_eq (year_of F p) y) (λ u. u, λ u. u)).0 t).0

of_sound : (F : Filing) (y : ℕ) → T (all (λ v. not (overlaps_winter F y v) || is_sound v) (intervals F))
    ↔ ((a b : Reading) → Adjacent a b F.readings → (p : ℕ) → Between a b p → WinterDay F y p → Trusted a.kind × Trusted b.kind)
unfolding is_sound
of_sound F y =
    Iff.trans (of_all (λ v. not (overlaps_winter F y v) || is_sound v) (λ v. (λ t. t, λ t. t)) (intervals F))
    (Iff.trans (each_intervals F) (
      λ f a b n p h d. (sound a b).0 (given (overlaps_winter F y (record { from = a; to = b })) _ (f a b n) ((of_overlap F y a b).1 (p, h, d))),
      λ f a b n. unless (overlaps_winter F y (record { from = a; to = b })) _ (λ t. let o = (of_overlap F y a b).0 t in (sound a b).1 (f a b n o.0 o.1 o.2)),
    ))
  where
    sound : (a b : Reading) → T (is_trusted a.kind && is_trusted b.kind) ↔ (Trusted a.kind × Trusted b.kind)
    sound a b = of_and (is_trusted a.kind) (is_trusted b.kind) (of_trusted a.kind) (of_trusted b.kind)

    unless : (a b : Bool) → (T a → T b) → T (not a || b)
    unless true b f = f tt
    unless false b f = tt

of_index : (F : Filing) (y : ℕ) → T (index_valid F y) ↔ IndexValid F y
unfolding index_valid
of_index F y = Iff.trans (
    of_and (not (F.broken y)) (is_covered F y && all (λ v. not (overlaps_winter F y v) || is_sound v) (intervals F)) (of_not (F.broken y) (λ t. t, λ t. t))
    (of_and (is_covered F y) (all (λ v. not (overlaps_winter F y v) || is_sound v) (intervals F)) (of_covered F y) (of_sound F y))
    ) (λ s. (s.0, s.1.0, s.1.1), λ s. (s.0, (s.1, s.2)))

pub valid_words : ValidWords
valid_words = record {
  curve = of_curve;
  points = points_length;
  index = of_index;
  more = λ F G y r n t. (valid_parts G y).1 (n, omega (arith, ((valid_parts F y).0 t).1, more_points F G y r));
  least_2019 = λ F. Iff.trans (valid_parts F 2019) (λ s. (s.0, omega (arith, s.1, count_2019)), λ s. (s.0, omega (arith, s.1, count_2019)));
  least_2017 = λ F. Iff.trans (valid_parts F 2017) (λ s. (s.0, omega (arith, s.1, count_2017)), λ s. (s.0, omega (arith, s.1, count_2017)));
  present = λ F y. (present_tally F y (present_points F y)).0 refl;
}
