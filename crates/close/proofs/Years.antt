-- The years of a report and their rows: one row for each history year, with its year, and then empty ones.
use mathlib.Core.Path.{◌≡◌, refl, ap, ◌∙◌}
use mathlib.Core.Bool.{Bool, false, not, cond}
use mathlib.Core.List.{List, [], ◌∷◌, map}
use Prim.Native.Nat.{ℕ, zero, suc, ◌≤◌, ◌<◌}
use native.Mathlib.Omega.{arith}
use lib.Dec.{T, eqb}
use lib.ListN.{length, get_or, length-map}
use borrow.Author.Tests.{ne_eqb}
use Rattle.lists.specs.Lists.{tab, keep, range, Each, each_nil, each_cons}
use Rattle.lists.proofs.Laws.{length_tab}
use Rattle.calendar.specs.Spans.{is_known, history_years}
use Rattle.calendar.proofs.Laws.{history_bounds, history_short}
use Rattle.meaning.specs.Filing.{Filing, history_of, years_in, history_list}
use Rattle.meaning.specs.Level.{YearReport, year_report, report_of}
use Rattle.close.specs.declared.outcome.file.YearRow.{YearRow}
use Rattle.close.specs.FileOutcomes.{no_year, year_repr, years_repr}

-- a row with a year
abbrev pub has_year : YearRow → Bool
has_year y = not (eqb y.year 0)

empty_rows : (n i : ℕ) → keep has_year (tab n i (λ k. get_or {A = YearRow} [] k no_year)) ≡ []
unfolding tab keep
empty_rows zero i = refl
empty_rows (suc n) i = empty_rows n (suc i)

rows_on : (y : YearReport) (ys : List YearReport) (n i : ℕ) → tab n (suc i) (λ k. get_or (year_repr y ∷ map year_repr ys) k no_year) ≡ tab n i (λ k. get_or (map year_repr ys) k no_year)
unfolding tab
rows_on y ys zero i = refl
rows_on y ys (suc n) i = ap (λ (r : List YearRow). get_or (map year_repr ys) i no_year ∷ r) (rows_on y ys n (suc i))

rows_kept : (n : ℕ) (ys : List YearReport) → Each (λ y. 0 < y.year) ys → length ys ≤ n → keep has_year (tab n 0 (λ k. get_or (map year_repr ys) k no_year)) ≡ map year_repr ys
unfolding tab keep
rows_kept n [] each_nil h = empty_rows n 0
rows_kept zero (y ∷ ys) (each_cons p r) h = absurd (omega (arith, h))
rows_kept (suc n) (y ∷ ys) (each_cons p r) h =
    ap (λ (b : Bool). cond (not b) (year_repr y ∷ rest) rest) (shown_year y p) ∙ ap (λ (l : List YearRow). year_repr y ∷ l) (ap (keep has_year) (rows_on y ys n 0) ∙ rows_kept n ys r (omega (arith, h)))
  where
    rest : List YearRow
    rest = keep has_year (tab n 1 (λ k. get_or (year_repr y ∷ map year_repr ys) k no_year))

    shown_year : (v : YearReport) → 0 < v.year → eqb (year_repr v).year 0 ≡ false
    shown_year v q = unfold year_repr in (ne_eqb v.year 0 (λ e. omega (arith, q, e)))

-- ---- in a report
pub record YearsReported (F : Filing) : Type 0 where
  pub count : length (report_of F).years ≡ (history_of F).count
  pub few : (history_of F).count ≤ 10
  pub from : Each (λ (y : YearReport). 2007 ≤ y.year) (report_of F).years
  -- the rows with a year are those of the report
  pub shown : keep has_year (years_repr (report_of F).years) ≡ map year_repr (report_of F).years

each_year_lem : (F : Filing) (n i : ℕ) → 2007 ≤ i → Each (λ (y : YearReport). 2007 ≤ y.year) (map (year_report F) (tab n i (λ k. k)))
unfolding tab year_report
each_year_lem F zero i h = each_nil
each_year_lem F (suc n) i h = each_cons {x = year_report F i} h (each_year_lem F n (suc i) (omega (arith, h)))

later : {ys : List YearReport} → Each (λ (y : YearReport). 2007 ≤ y.year) ys → Each (λ (y : YearReport). 0 < y.year) ys
later each_nil = each_nil
later (each_cons {x = y} p r) = each_cons {x = y} (omega (arith, p)) (later r)

pub years_reported : (F : Filing) → T (is_known F.site.al F.site.filiere) → YearsReported F
unfolding report_of history_list years_in history_of range years_repr
years_reported F t =
    let s = history_years F.site.al F.site.filiere in
    let all = map (year_report F) (tab s.count s.first (λ k. k)) in
    let size : length all ≡ s.count = length-map (tab s.count s.first (λ k. k)) (year_report F) ∙ length_tab s.count s.first (λ k. k) in
    let short = history_short F.site.al F.site.filiere t in
    let from = each_year_lem F s.count s.first (omega (arith, (history_bounds F.site.al F.site.filiere t).from)) in
    record { count = size; few = short; from = from; shown = rows_kept 10 all (later from) (omega (arith, size, short)) }
