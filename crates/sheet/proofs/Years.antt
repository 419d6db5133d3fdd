-- The ten years beside a report print the lines of its years.
use mathlib.Core.Path.{◌≡◌, refl, ap}
use mathlib.Core.Bool.{Bool, true, false}
use mathlib.Core.List.{List, [], ◌∷◌, ◌++◌, map}
use Prim.Native.Nat.{ℕ, zero, suc, ◌≤◌}
use native.Mathlib.Omega.{arith}
use lib.Dec.{T}
use lib.ListN.{length, get_or}
use Rattle.lists.specs.Lists.{Each, each_nil, each_cons, flat, tab, range}
use Rattle.lists.proofs.Sums.{each_range}
use Rattle.lists.proofs.Laws.{length_tab}
use Rattle.calendar.specs.Spans.{is_known, history_years}
use Rattle.calendar.proofs.Laws.{history_bounds, history_short, no_history}
use Rattle.meaning.specs.Filing.{Filing, history_of, years_in, history_list}
use Rattle.meaning.specs.Text.{year_line}
use Rattle.meaning.specs.Level.{YearReport, year_report, report_of}
use Rattle.close.specs.FileOutcomes.{no_year, year_repr, years_repr}
use Rattle.sheet.specs.SheetTexts.{row_text, rows_text}
use Rattle.sheet.proofs.Rows.{row_none, row_some}

-- no more than ten years, and none is 0
pub record Printable (ys : List YearReport) : Type 0 where
  pub few : length ys ≤ 10
  pub dated : Each (λ (y : YearReport). y.year ≡ 0 → ⊥) ys

tab_next : {A : Type 0} (n i : ℕ) (f : ℕ → A) → tab n (suc i) f ≡ tab n i (λ k. f (suc k))
unfolding tab
tab_next zero i f = refl
tab_next {A} (suc n) i f = ap (λ (l : List A). f (suc i) ∷ l) (tab_next n (suc i) f)

no_rows : (n i : ℕ) → rows_text (tab n i (λ k. no_year)) ≡ []
unfolding rows_text tab flat
no_rows zero i = refl
no_rows (suc n) i = rw (row_none no_year refl) (no_rows n (suc i))

row_line : (y : YearReport) → (y.year ≡ 0 → ⊥) → row_text (year_repr y) ≡ year_line y
unfolding year_repr year_line
row_line y h = row_some (year_repr y) h

Dated : List YearReport → Type 0
Dated ys = Each (λ (y : YearReport). y.year ≡ 0 → ⊥) ys

first_row : (n : ℕ) (y : YearReport) (ys : List YearReport) → (y.year ≡ 0 → ⊥) → rows_text (tab n 0 (λ k. get_or (map year_repr ys) k no_year)) ≡ flat (map year_line ys)
    → rows_text (tab (suc n) 0 (λ k. get_or (map year_repr (y ∷ ys)) k no_year)) ≡ flat (map year_line (y ∷ ys))
unfolding rows_text tab flat
first_row n y ys d r = rw (row_line y d, tab_next n 0 (λ k. get_or (map year_repr (y ∷ ys)) k no_year)) (ap (λ (l : List ℕ). year_line y ++ l) r)

shown_in : (n : ℕ) (ys : List YearReport) → length ys ≤ n → Dated ys → rows_text (tab n 0 (λ k. get_or (map year_repr ys) k no_year)) ≡ flat (map year_line ys)
unfolding flat Dated
shown_in n [] h e = no_rows n 0
shown_in zero (y ∷ ys) h e = absurd (omega arith)
shown_in (suc n) (y ∷ ys) h (each_cons d e) = first_row n y ys d (shown_in n ys (omega arith) e)

pub rows_shown : {ys : List YearReport} → Printable ys → rows_text (years_repr ys) ≡ flat (map year_line ys)
unfolding years_repr Dated
rows_shown {ys} p = shown_in 10 ys p.few p.dated

pub none_printable : Printable []
none_printable = record { few = omega arith; dated = each_nil }

-- ---- those of a filing
dated_in : (F : Filing) {ys : List ℕ} → Each (λ y. 2007 ≤ y) ys → Dated (map (year_report F) ys)
unfolding Dated year_report
dated_in F each_nil = each_nil
dated_in F (each_cons {x = y} h r) = each_cons (λ (e : y ≡ 0). omega (arith, h)) (dated_in F r)

length_map : (F : Filing) (ys : List ℕ) → length (map (year_report F) ys) ≡ length ys
length_map F [] = refl
length_map F (y ∷ ys) = ap suc (length_map F ys)

pub report_printable : (F : Filing) → Printable (report_of F).years
unfolding report_of history_list years_in history_of range Dated tab
report_printable F = go (is_known F.site.al F.site.filiere) refl
  where
    h : ℕ × ℕ
    h = ((history_years F.site.al F.site.filiere).first, (history_years F.site.al F.site.filiere).count)

    Shows : Type 0
    Shows = Printable (map (year_report F) (tab (history_years F.site.al F.site.filiere).count (history_years F.site.al F.site.filiere).first (λ k. k)))

    go : (b : Bool) → is_known F.site.al F.site.filiere ≡ b → Shows
    go true e =
        let t : T (is_known F.site.al F.site.filiere) = rw e tt in
        let q = history_bounds F.site.al F.site.filiere t in
        record {
          few = omega (arith, length_map F (tab h.1 h.0 (λ k. k)), length_tab h.1 h.0 (λ k. k), history_short F.site.al F.site.filiere t);
          dated = dated_in F (each_range h.0 h.1 (λ k a b. omega (arith, q.from)));
        }
    go false e = rw (no_history F.site.al F.site.filiere (rw e tt)) none_printable
