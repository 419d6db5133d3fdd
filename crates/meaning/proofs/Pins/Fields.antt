-- The sizes of the blocks and the ranges of the record's fields are what the words of 1 say.
use mathlib.Core.Path.{◌≡◌, refl}
use mathlib.Core.Logic.Iff
use mathlib.Core.Logic.{◌↔◌, ◌⊎◌, inl, inr}
use mathlib.Core.Bool.{Bool, true, false, not, ◌&&◌, ◌||◌}
use Prim.Native.Nat.{ℕ, ◌+◌, ◌*◌, ◌/◌, ◌%◌, ◌≤◌, ◌<◌}
use native.Mathlib.Omega.{arith}
use lib.Dec.{T, eqb, leb}
use Rattle.calendar.specs.declared.Years.{Years}
use Rattle.calendar.specs.Dates.{is_winter, all_winter_dates, all_dates}
use Rattle.calendar.specs.Places.{date_place, has_date, month_of}
use Rattle.calendar.specs.Spans.{among, axis_years}
use Rattle.calendar.proofs.Laws.Days.{date_day, day_place}
use Rattle.meaning.specs.Filing.{Meter, no_meter, curve_meter, index_meter}
use Rattle.meaning.specs.Line.{most_power, most_index}
use Rattle.meaning.specs.Refusals.{is_too_soon, most_readings}
use Rattle.meaning.specs.Blocks.{Blocks, sizes_fit}
use Rattle.meaning.specs.Record.{Rec, is_taken, history_of_rec, is_within, meter_fits, site_fits, date_fits, year_fits, last_dates_fit, tallies_fit, rec_fits}
use Rattle.meaning.specs.Restated.Dates.{Date}
use Rattle.meaning.specs.Restated.Ranges.{Within, Taken, FileYear, FileAxisYear, SomeDate, SomeWinterDate, ByYear, UpTo, RecordFits, SizesFit}
use Rattle.meaning.proofs.Sizes.{sizes_of, sizes_fit_lem}
use Rattle.meaning.proofs.Pins.Says.{Says, say, reworded, either, both, neither, equal, at_most, below}
use Rattle.meaning.proofs.Pins.Dates.{date_words}
use Rattle.meaning.proofs.Pins.Spans.{of_taken, of_file_year, of_axis_year, of_some_date, by_year_lem, of_up_to}

pub of_sizes : (w : Blocks) → T (sizes_fit w) ↔ SizesFit w
of_sizes w = (
  λ t. let z = sizes_of w t in record { near = z.near; far = z.far; slots = z.slots; daily = z.daily; readings = z.readings; curve = z.curve },
  λ z. sizes_fit_lem w (record { near = z.near; far = z.far; slots = z.slots; daily = z.daily; readings = z.readings; curve = z.curve }),
)

-- ---- what S gave
within : (a b n : ℕ) → Says (is_within a b n) (Within a b n)
unfolding is_within
within a b n = both (at_most a n) (at_most n b)

module _ (s : Rec) where
  taken : Says (is_taken s) (Taken s)
  taken = say (is_taken s) (of_taken s)

  -- in its range, or 0 until S is taken
  given : (a b n : ℕ) → Says ((not (is_taken s) && eqb n 0) || is_within a b n) (((¬ Taken s) × (n ≡ 0)) ⊎ Within a b n)
  given a b n = either (both (neither taken) (equal n 0)) (within a b n)

  of_meter : (m : Meter) → T (meter_fits (is_taken s) m) ↔ ((Taken s × ((m ≡ curve_meter) ⊎ (m ≡ index_meter))) ⊎ ((¬ Taken s) × (m ≡ no_meter)))
  unfolding meter_fits
  of_meter m = go (is_taken s) (of_taken s) m
    where
      go : (b : Bool) → T b ↔ Taken s → (m : Meter) → T (meter_fits b m) ↔ ((Taken s × ((m ≡ curve_meter) ⊎ (m ≡ index_meter))) ⊎ ((¬ Taken s) × (m ≡ no_meter)))
      go true r no_meter = (λ t. absurd t, λ q. elim q [ inl k ↦ elim k.1 [ inl e ↦ (let z : ◌≡◌ {A = ℕ} 0 1 = cc in absurd (omega arith)) | inr e ↦ (let z : ◌≡◌ {A = ℕ} 0 1 = cc in absurd (omega arith)) ] | inr k ↦ absurd (k.0 (r.0 tt)) ])
      go true r curve_meter = (λ t. inl (r.0 tt, inl refl), λ q. tt)
      go true r index_meter = (λ t. inl (r.0 tt, inr refl), λ q. tt)
      go false r no_meter = (λ t. inr (λ k. r.1 k, refl), λ q. tt)
      go false r curve_meter = (λ t. absurd t, λ q. elim q [ inl k ↦ absurd (r.1 k.0) | inr k ↦ (let e : curve_meter ≡ no_meter = k.1 in let z : ◌≡◌ {A = ℕ} 0 1 = cc in absurd (omega arith)) ])
      go false r index_meter = (λ t. absurd t, λ q. elim q [ inl k ↦ absurd (r.1 k.0) | inr k ↦ (let e : index_meter ≡ no_meter = k.1 in let z : ◌≡◌ {A = ℕ} 0 1 = cc in absurd (omega arith)) ])

  abbrev SiteWords : Type 0
  SiteWords =
      (((¬ Taken s) × (s.site.al ≡ 0)) ⊎ Within 2021 2026 s.site.al)
      × ((((¬ Taken s) × (s.site.filiere ≡ 0)) ⊎ Within 1 11 s.site.filiere)
      × ((((¬ Taken s) × (s.site.ps ≡ 0)) ⊎ Within 1 100000000 s.site.ps)
      × ((Taken s × ((s.site.meter ≡ curve_meter) ⊎ (s.site.meter ≡ index_meter))) ⊎ ((¬ Taken s) × (s.site.meter ≡ no_meter)))))

  site : Says (site_fits (is_taken s) s.site) SiteWords
  unfolding site_fits
  site = both (given 2021 2026 s.site.al) (both (given 1 11 s.site.filiere) (both (given 1 most_power s.site.ps) (say (meter_fits (is_taken s) s.site.meter) (of_meter s.site.meter))))

  soon : Says (not (is_too_soon s.site.al s.site.filiere)) (¬ ((6 ≤ s.site.filiere) × (s.site.al < 2023)))
  unfolding is_too_soon
  soon = neither (both (at_most 6 s.site.filiere) (below s.site.al 2023))

  -- ---- the last of each tag
  date : {Is : ℕ → Type 0} (span : Years) → ((y : ℕ) → T (among span y) ↔ Is y) → (k : ℕ) → Says (date_fits span false k) ((k ≡ 0) ⊎ SomeDate Is k)
  unfolding date_fits
  date span f k =
      either (equal k 0)
      (reworded (both (say (among span (k / 366)) Iff.rfl) (both (say (has_date (k / 366) (k % 366)) Iff.rfl) (say true Iff.rfl)))
      (Iff.trans (λ q. (q.0, q.1.0), λ t. (t.0, (t.1, tt))) (of_some_date span f k)))

  winter_date : {Is : ℕ → Type 0} (span : Years) → ((y : ℕ) → T (among span y) ↔ Is y) → (k : ℕ) → Says (date_fits span true k) ((k ≡ 0) ⊎ SomeWinterDate Is k)
  unfolding date_fits
  winter_date {Is} span f k =
      either (equal k 0)
      (reworded (both (say (among span (k / 366)) Iff.rfl) (both (say (has_date (k / 366) (k % 366)) Iff.rfl) (say (is_winter (month_of (k % 366))) Iff.rfl))) (forth, back))
    where
      -- the month of a date's number
      month : (y m d : ℕ) → Date y m d → k ≡ 366 * y + date_place m d → month_of (k % 366) ≡ m
      month y m d h e =
          let day = day_place m d (date_day y m d ((date_words.date y m d).1 h)) in
          let place : k % 366 ≡ date_place m d = omega (arith, e, day.below) in
          rw place day.month

      forth : T (among span (k / 366)) × (T (has_date (k / 366) (k % 366)) × T (is_winter (month_of (k % 366)))) → SomeWinterDate Is k
      forth t =
          let q = (of_some_date span f k).0 (t.0, t.1.0) in
          (q.0, q.1, q.2, q.3, q.4, (date_words.winter q.1).0 (rw (month q.0 q.1 q.2 q.4 q.5) at t.1.1), q.5)

      back : SomeWinterDate Is k → T (among span (k / 366)) × (T (has_date (k / 366) (k % 366)) × T (is_winter (month_of (k % 366))))
      back q =
          let t = (of_some_date span f k).1 (q.0, q.1, q.2, q.3, q.4, q.6) in
          (t.0, (t.1, rw (month q.0 q.1 q.2 q.4 q.6) ((date_words.winter q.1).1 q.5)))

  year : (k : ℕ) → Says (year_fits (history_of_rec s) k) ((k ≡ 0) ⊎ FileYear s k)
  unfolding year_fits
  year k = either (equal k 0) (say (among (history_of_rec s) k) (of_file_year s k))

  abbrev LastWords : Type 0
  LastWords =
      ((s.lasts.c ≡ 0) ⊎ SomeWinterDate (FileYear s) s.lasts.c)
      × (((s.lasts.x ≡ 0) ⊎ SomeDate (FileAxisYear s) s.lasts.x)
      × (((s.lasts.d ≡ 0) ⊎ SomeDate (FileAxisYear s) s.lasts.d)
      × (((s.lasts.p ≡ 0) ⊎ SomeWinterDate (FileYear s) s.lasts.p)
      × (((s.lasts.b ≡ 0) ⊎ FileYear s s.lasts.b) × ((s.lasts.r ≡ 0) ⊎ FileYear s s.lasts.r)))))

  lasts : Says (last_dates_fit (history_of_rec s) s.lasts) LastWords
  unfolding last_dates_fit
  lasts =
      both (winter_date (history_of_rec s) (of_file_year s) s.lasts.c)
      (both (date (axis_years (history_of_rec s)) (of_axis_year s) s.lasts.x)
      (both (date (axis_years (history_of_rec s)) (of_axis_year s) s.lasts.d)
      (both (winter_date (history_of_rec s) (of_file_year s) s.lasts.p) (both (year s.lasts.b) (year s.lasts.r)))))

  -- ---- numbers by year
  abbrev TallyWords : Type 0
  TallyWords =
      ByYear (FileYear s) (UpTo 152 151) s.tallies.profile_dates
      × (ByYear (FileAxisYear s) (UpTo 366 365) s.tallies.daily_dates
      × (ByYear (FileYear s) (λ y n. n ≤ 1) s.tallies.breaks × ByYear (FileYear s) (λ y n. (n ≡ 0) ⊎ Within 10 1000 n) s.tallies.rates))

  tallies : Says (tallies_fit (history_of_rec s) s.tallies) TallyWords
  unfolding tallies_fit all_winter_dates all_dates
  tallies =
      both (by_year_lem (history_of_rec s) (of_file_year s) (λ y n. leb n (all_winter_dates y)) (of_up_to 152 151) s.tallies.profile_dates)
      (both (by_year_lem (axis_years (history_of_rec s)) (of_axis_year s) (λ y n. leb n (all_dates y)) (of_up_to 366 365) s.tallies.daily_dates)
      (both (by_year_lem (history_of_rec s) (of_file_year s) (λ y n. leb n 1) (λ y n. (at_most n 1).iff) s.tallies.breaks)
      (by_year_lem (history_of_rec s) (of_file_year s) (λ y n. eqb n 0 || is_within 10 1000 n) (λ y n. (either (equal n 0) (within 10 1000 n)).iff) s.tallies.rates)))

  numbers : Says (rec_fits s) (((s.count ≤ 9999) × (s.last ≤ 8)) × ((SiteWords × (¬ ((6 ≤ s.site.filiere) × (s.site.al < 2023)))) × (((s.readings ≤ 600) × (s.last_index ≤ 1000000000000)) × (LastWords × TallyWords))))
  unfolding rec_fits
  numbers =
      both (both (at_most s.count 9999) (at_most s.last 8))
      (both (both site soon) (both (both (at_most s.readings most_readings) (at_most s.last_index most_index)) (both lasts tallies)))

pub of_record : (s : Rec) → T (rec_fits s) ↔ RecordFits s
of_record s = Iff.trans (numbers s).iff (
  λ q. let tags = q.1.1.1.0 in
      let years = q.1.1.1.1 in
      record {
        count = q.0.0;
        last = q.0.1;
        al = q.1.0.0.0;
        filiere = q.1.0.0.1.0;
        ps = q.1.0.0.1.1.0;
        meter = q.1.0.0.1.1.1;
        soon = q.1.0.1;
        readings = q.1.1.0.0;
        last_index = q.1.1.0.1;
        c = tags.0;
        x = tags.1.0;
        d = tags.1.1.0;
        p = tags.1.1.1.0;
        b = tags.1.1.1.1.0;
        r = tags.1.1.1.1.1;
        profile_dates = years.0;
        daily_dates = years.1.0;
        breaks = years.1.1.0;
        rates = years.1.1.1;
      },
  λ r. (
    (r.count, r.last),
    (((r.al, (r.filiere, (r.ps, r.meter))), r.soon), ((r.readings, r.last_index), ((r.c, (r.x, (r.d, (r.p, (r.b, r.r))))), (r.profile_dates, (r.daily_dates, (r.breaks, r.rates)))))),
  ),
)
