use mathlib.Core.Path.{◌≡◌, ap, sym, subst}
use mathlib.Core.List.{List}
use Prim.Native.Nat.{ℕ, ◌+◌, ◌*◌, ◌≤◌, ◌<◌}
use native.Mathlib.Omega.{arith}
use lib.Dec.{T}
use lib.ListN.{length, get_or}
use Rattle.std.proofs.Common.{rules, tests}
use Rattle.note.specs.Peaks.{peak_count, peak_days}
use Rattle.calendar.specs.Places.{has_winter_date}
use Rattle.note.proofs.PeakDays.{days_length, most_days, in_winter, has_date_lem}
use Rattle.meaning.specs.Points.{CurvePlace}
use Rattle.history.specs.declared.YearOnDay.{YearOnDay}
use Rattle.history.specs.Cases.{case_view}
use Rattle.history.specs.Years.{no_year}
use Rattle.points.specs.Sources.{Day}
use Rattle.points.specs.Fits.{DayFits}
use Rattle.curve.specs.PlaceSums.{nothing, plus}
use Rattle.curve.specs.Files.{file_view}
use Rattle.curve.specs.YearPlaces.{day_in, places_on, places_in}
use Rattle.curve.specs.PlaceFits.{Entered}
use Rattle.curve.proofs.Walking.{Walked, not_begun, walk_on, walk_over, entered_more, days_left, days_all, days_on, days_over, hours_length, day_fits_lem, own_index, day_is}
use Rattle.curve.proofs.places.year_places.Goals as goal

-- the year's peak days as the code has them: how many, and the j-th
count_is : (y : ℕ) (ds : List ℕ) → ds ≡ peak_days y → (length ds ≡ peak_count y) × (length ds ≤ 22)
count_is y ds e = (omega (arith, ap length e, days_length y), omega (arith, ap length e, days_length y, most_days y))

day_at : (y j : ℕ) (ds : List ℕ) → ds ≡ peak_days y → j < length ds → (get_or ds j 0 ≡ get_or (peak_days y) j 0) × (get_or ds j 0 < 152)
day_at y j ds e h =
    let at : get_or ds j 0 ≡ get_or (peak_days y) j 0 = ap (λ (l : List ℕ). get_or l j 0) e in
    (at, omega (arith, at, in_winter y j (omega (arith, (count_is y ds e).0))))

-- it is a date of its year
dated : (y j : ℕ) (ds : List ℕ) → ds ≡ peak_days y → j < length ds → T (has_winter_date y (get_or ds j 0))
dated y j ds e h = rw e (has_date_lem y j (omega (arith, (count_is y ds e).0)))

pub loop-j-init : goal.loop-j-init
loop-j-init c =
    let a = c.args in
    let b = a.site_file.now.site.now in
    let l = file_view a.site_file.now.file.now a.site_file.now.cas.now in
    let x = case_view a.target.case in
    let all = places_in b l x a.target.rate a.target.k in
    subst (λ (qs : List CurvePlace). Walked 0 (440 * a.target.k) all qs a.curve.now a.curve.now (440 * a.target.k + 0) nothing) (sym (days_all b l x a.target.rate a.target.k))
    (not_begun (440 * a.target.k) all a.curve.now (440 * a.target.k + 0) (omega arith))

pub years_on-years-requires : goal.years_on-years-requires
years_on-years-requires c = let w = (day_at _ _ _ c.peak_days-days.ensures c.loop-j-test.true).1 in search (rules, tests)

pub overflow_mul-j : goal.overflow_mul-j
overflow_mul-j c =
    omega (arith, c.loop-j-test.true, count_is _ _ c.peak_days-days.ensures)

pub overflow_add-target : goal.overflow_add-target
overflow_add-target c =
    omega (arith, c.loop-j-test.true, count_is _ _ c.peak_days-days.ensures, c.args.site_file.now.site_fits.count, c.requires.k_lt_count)

pub invariant_of-day : goal.invariant_of-day
invariant_of-day c =
    let b = c.args.site_file.now.site.now in
    let l = file_view c.args.site_file.now.file.now c.args.site_file.now.cas.now in
    let w = get_or c.peak_days-days.result.now c.loop-j.j 0 in
    let o = c.years_on-years in record {
      in_winter = (day_at _ _ _ c.peak_days-days.ensures c.loop-j-test.true).1;
      site_fits = c.args.site_file.now.site_fits;
      fits = subst (DayFits b) (sym (day_is b.first l w o.result o.ensures)) (day_fits_lem b l w c.args.site_file.now.fits);
    }

pub half_hours-d-requires : goal.half_hours-d-requires
half_hours-d-requires c =
    let b = c.args.site_file.now.site.now in
    let l = file_view c.args.site_file.now.file.now c.args.site_file.now.cas.now in
    let w = get_or c.peak_days-days.result.now c.loop-j.j 0 in
    let k = c.args.target.k in
    record {
      rate_fits = c.requires.rate_fits;
      k_lt_count = (
        c.requires.k_lt_count,
        omega (arith, c.loop-j-test.true, count_is _ _ c.peak_days-days.ensures, c.args.site_file.now.site_fits.count, c.requires.k_lt_count),
      );
      own_index = λ u. subst (λ (ys : List YearOnDay). T (get_or ys k no_year).is_donor) (sym c.years_on-years.ensures)
          (own_index b.first l w k (omega (arith, c.args.site_file.now.site_fits.count, c.requires.k_lt_count)) (c.requires.own_index u) (dated (b.first + k) c.loop-j.j _ c.peak_days-days.ensures c.loop-j-test.true));
    }

pub plus-t-requires : goal.plus-t-requires
plus-t-requires c =
    let f = c.loop-j.invariant.fits in
    let g = c.half_hours-d.ensures.fits in
    let m = (count_is _ _ c.peak_days-days.ensures).1 in
    let t = c.loop-j-test.true in
    (omega (arith, f.sum, g.sum, f.counted, g.counted, t, m), omega (arith, f.counted, g.counted, t, m))

pub loop-j-preserved : goal.loop-j-preserved
loop-j-preserved c =
    let a = c.args in
    let b = a.site_file.now.site.now in
    let l = file_view a.site_file.now.file.now a.site_file.now.cas.now in
    let x = case_view a.target.case in
    let all = places_in b l x a.target.rate a.target.k in
    let j = c.loop-j.j in
    let t = c.loop-j-test.true in
    let days = c.peak_days-days in
    let w = get_or days.result.now j 0 in
    let o = c.years_on-years in
    let d = c.half_hours-d in
    let later = d.new.curve in
    let left = days_left b l x a.target.rate a.target.k (j + 1) in
    let places = places_on b (day_in b.first l w) x a.target.rate a.target.k w in
    let h = hours_length b (day_in b.first l w) x a.target.rate a.target.k w in
    let here = subst (λ (qs : List CurvePlace). Walked (20 * j) (440 * a.target.k) all qs a.curve.now c.loop-j.curve (440 * a.target.k + 20 * j) c.loop-j.t)
    (days_on b l x a.target.rate a.target.k j w (omega (arith, t, count_is _ _ days.ensures)) (day_at _ j _ days.ensures t).0) c.loop-j.invariant in
    let e : 20 * j + 20 ≡ 20 * (j + 1) = omega arith in
    rw c.plus-t.ensures
    (subst (λ (n : ℕ). Walked n (440 * a.target.k) all left a.curve.now later (440 * a.target.k + 20 * (j + 1)) (plus c.loop-j.t d.result)) e
    (walk_on (20 * j) (440 * a.target.k) 20 all places left a.curve.now c.loop-j.curve later (440 * a.target.k + 20 * j) (440 * a.target.k + 20 * (j + 1)) c.loop-j.t d.result here (subst (λ (z : Day). Entered 20 (440 * a.target.k + 20 * j) (places_on b z x a.target.rate a.target.k w) c.loop-j.curve later d.result) (day_is b.first l w o.result o.ensures) d.ensures) (omega (arith, h))))

pub returns : goal.returns
returns c =
    let a = c.args in
    let b = a.site_file.now.site.now in
    let l = file_view a.site_file.now.file.now a.site_file.now.cas.now in
    let x = case_view a.target.case in
    let all = places_in b l x a.target.rate a.target.k in
    let j = c.loop-j.j in
    let n = count_is (b.first + a.target.k) _ c.peak_days-days.ensures in
    entered_more (20 * j) 440 (440 * a.target.k) all a.curve.now c.loop-j.curve c.loop-j.t (omega (arith, c.loop-j.auto.j-end, n))
    (walk_over (20 * j) (440 * a.target.k) all a.curve.now c.loop-j.curve (440 * a.target.k + 20 * j) c.loop-j.t
    (subst (λ (qs : List CurvePlace). Walked (20 * j) (440 * a.target.k) all qs a.curve.now c.loop-j.curve (440 * a.target.k + 20 * j) c.loop-j.t)
    (days_over b l x a.target.rate a.target.k j (omega (arith, c.loop-j-test.false, n))) c.loop-j.invariant))
