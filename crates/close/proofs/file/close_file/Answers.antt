use mathlib.Core.Path.{◌≡◌, refl, sym, ◌∙◌}
use Rattle.std.specs.Prelude.{Err}
use Rattle.refusals.specs.declared.Refusal.TheVariants.{TooHigh}
use Rattle.std.proofs.Common.{rules}
use native.Mathlib.Omega.{arith}
use Rattle.close.proofs.FileFacts.{daily_size_lem, curve_size_lem, site_fits_lem}
use Rattle.close.proofs.CloseSteps.{few_years, found_by, rising_by, lists, stops, years_fit, exceeds, whole, some_counted, reported}
use Rattle.close.proofs.file.close_file.Goals as goal

pub valid_years-valid-requires : goal.valid_years-valid-requires
valid_years-valid-requires c = (few_years c.requires c.history-history.ensures).0

pub by_position-requires : goal.by_position-requires
by_position-requires c = record { rising = rising_by c.requires c.of-readings.ensures; daily_len = (daily_size_lem c.requires, refl, refl) }

pub invariant_of-profiled : goal.invariant_of-profiled
invariant_of-profiled c =
    let e = few_years c.requires c.history-history.ensures in
    record { few = (omega (arith, e.0), e.1); rising = (rising_by c.requires c.of-readings.ensures).0 }

pub returns-in_err-data_refusal : goal.returns-in_err-data_refusal
returns-in_err-data_refusal c =
    let g = found_by c.requires c.of-readings.ensures c.history-history.ensures c.valid_years-valid.ensures c.cases_of-cases.ensures c.default_years-defaults.ensures c.by_position.ensures.energies c.by_position.ensures.totals in
    let e : c.from_residual.result ≡ Err c.in_err-data_refusal.field-0.0 = search rules in
    rw e (stops c.requires g c.args.curve.now c.of-readings.ensures c.data_refusal.ensures c.in_err-data_refusal.was)

pub fill-requires : goal.fill-requires
fill-requires c =
    let g = found_by c.requires c.of-readings.ensures c.history-history.ensures c.valid_years-valid.ensures c.cases_of-cases.ensures c.default_years-defaults.ensures c.by_position.ensures.energies c.by_position.ensures.totals in
    record {
      site_fits = (site_fits_lem c.requires, lists c.requires g);
      index_years = years_fit c.requires g c.args.curve.now c.of-readings.ensures c.data_refusal.ensures c.in_ok-data_refusal.was;
      curve_value = refl;
    }

pub returns-in_err-found : goal.returns-in_err-found
returns-in_err-found c =
    let g = found_by c.requires c.of-readings.ensures c.history-history.ensures c.valid_years-valid.ensures c.cases_of-cases.ensures c.default_years-defaults.ensures c.by_position.ensures.energies c.by_position.ensures.totals in
    let e : c.from_residual-in_err-found.result ≡ Err TooHigh = search rules in
    rw e (exceeds c.requires g c.args.curve.now c.of-readings.ensures c.data_refusal.ensures c.in_ok-data_refusal.was c.fill.ensures c.in_err-found.was)

pub copy_from_slice-requires : goal.copy_from_slice-requires
copy_from_slice-requires c =
    let g = found_by c.requires c.of-readings.ensures c.history-history.ensures c.valid_years-valid.ensures c.cases_of-cases.ensures c.default_years-defaults.ensures c.by_position.ensures.energies c.by_position.ensures.totals in
    curve_size_lem c.requires ∙ sym (whole c.requires g c.args.curve.now c.of-readings.ensures c.data_refusal.ensures c.in_ok-data_refusal.was c.fill.ensures)

pub reported-requires : goal.reported-requires
reported-requires c =
    let g = found_by c.requires c.of-readings.ensures c.history-history.ensures c.valid_years-valid.ensures c.cases_of-cases.ensures c.default_years-defaults.ensures c.by_position.ensures.energies c.by_position.ensures.totals in
    let fits = c.in_ok-found.ensures.fits in
    let n = some_counted c.requires g c.args.curve.now c.of-readings.ensures c.data_refusal.ensures c.in_ok-data_refusal.was c.fill.ensures c.in_ok-found.was in
    record { first_bound = (few_years c.requires c.history-history.ensures).0; counted_nonzero = (n, fits.counted, fits.sum) }

pub returns : goal.returns
returns c =
    let g = found_by c.requires c.of-readings.ensures c.history-history.ensures c.valid_years-valid.ensures c.cases_of-cases.ensures c.default_years-defaults.ensures c.by_position.ensures.energies c.by_position.ensures.totals in
    reported c.requires g c.args.curve.now c.of-readings.ensures c.data_refusal.ensures c.in_ok-data_refusal.was c.fill.ensures c.in_ok-found.was c.reported.ensures c.copy_from_slice.ensures.after
