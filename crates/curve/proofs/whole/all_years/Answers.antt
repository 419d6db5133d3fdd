use mathlib.Core.Path.{◌≡◌, refl, ap, sym, ◌∙◌}
use native.Mathlib.Omega.{arith}
use lib.ListN.{get_or}
use Rattle.std.specs.Prelude.{Err}
use Rattle.std.proofs.Common.{rules}
use Rattle.history.specs.declared.cases.Case.TheVariants.{M}
use Rattle.history.specs.Cases.{case_view}
use Rattle.curve.specs.Files.{file_view}
use Rattle.curve.specs.declared.place_sums.PlaceSum.{PlaceSum}
use Rattle.curve.specs.PlaceSums.{place_sum_of}
use Rattle.curve.specs.Places.{places_of, some_exceeds, all_places_in, present_years, curve_totals_of, curve_entry_in, curve_in}
use Rattle.curve.proofs.PlaceSums.{exceeded, kept}
use Rattle.curve.proofs.Years.{year_length, no_years_lem, years_on_lem, years_over}
use Rattle.curve.proofs.whole.all_years.Goals as goal

pub loop-k-init : goal.loop-k-init
loop-k-init c =
    let a = c.args in
    no_years_lem a.site_file.now.site.now.count (places_of a.site_file.now.site.now (file_view a.site_file.now.file.now a.site_file.now.cas.now) a.cases a.rates.now) _ a.curve.now refl c.requires.curve_value

pub loop-k-preserved : goal.loop-k-preserved
unfolding places_of
loop-k-preserved c =
    let a = c.args in
    let b = a.site_file.now.site.now in
    let l = file_view a.site_file.now.file.now a.site_file.now.cas.now in
    let k = c.loop-k.k in
    let y = c.year_places-p in
    rw c.plus-t.ensures
    (years_on_lem b.count (places_of b l a.cases a.rates.now) k c.loop-k.t y.result c.loop-k.present c.loop-k.curve y.new.curve c.loop-k-test.true c.args.site_file.now.site_fits.count
    (year_length b l (case_view (get_or a.cases k M)) (get_or a.rates.now k 0) k) c.loop-k.invariant y.ensures)

pub returns-in_err-t : goal.returns-in_err-t
unfolding some_exceeds all_places_in curve_in curve_entry_in place_sum_of
returns-in_err-t c =
    let a = c.args in
    let b = a.site_file.now.site.now in
    let l = file_view a.site_file.now.file.now a.site_file.now.cas.now in
    let w = c.loop-k.invariant in
    let e : c.loop-k.k ≡ b.count = omega (arith, c.loop-k.auto.k-end, c.loop-k-test.false) in
    let t = years_over b.count (places_of b l a.cases a.rates.now) c.loop-k.k c.loop-k.t c.loop-k.present c.loop-k.curve c.loop-k-test.false w in
    let x : c.from_residual.result ≡ Err c.in_err-t.field-0.0 = search rules in
    record {
      is = rw x (exceeded _ _ (sym (ap (λ (s : PlaceSum). s.limit) t) ∙ c.in_err-t.was));
      curve = rw e at w.curve_is;
      fits = rw x tt;
    }

pub returns : goal.returns
unfolding some_exceeds curve_totals_of present_years all_places_in curve_in curve_entry_in place_sum_of
returns c =
    let a = c.args in
    let b = a.site_file.now.site.now in
    let l = file_view a.site_file.now.file.now a.site_file.now.cas.now in
    let w = c.loop-k.invariant in
    let e : c.loop-k.k ≡ b.count = omega (arith, c.loop-k.auto.k-end, c.loop-k-test.false) in
    let t = years_over b.count (places_of b l a.cases a.rates.now) c.loop-k.k c.loop-k.t c.loop-k.present c.loop-k.curve c.loop-k-test.false w in
    let p = rw e at w.present_is in
    record {
      is = rw (t, p) (kept _ _ (sym (ap (λ (s : PlaceSum). s.limit) t) ∙ c.in_ok-t.was));
      curve = rw e at w.curve_is;
      fits = record { sum = w.fits.sum; counted = omega (arith, w.fits.counted, e, c.args.site_file.now.site_fits.count) };
    }
