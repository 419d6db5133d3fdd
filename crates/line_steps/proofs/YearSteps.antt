-- What the result of the checks says about a B or R line.
use Rattle.std.specs.Prelude.{Result, Ok, ℕ}
use mathlib.Core.Path.{◌≡◌, ap, sym, ◌∙◌}
use mathlib.Core.Option.{Option, none}
use Rattle.calendar.specs.declared.Years.{Years}
use Rattle.calendar.specs.Spans.{history_years}
use Rattle.meaning.specs.Line.{Line, B, R, year_on, number_at}
use Rattle.meaning.specs.Refusals.{Reason, refusal}
use Rattle.meaning.specs.Record.{Rec, history_of_rec, before_of}
use Rattle.refusals.specs.declared.Refusal.{Refusal}
use Rattle.refusals.specs.Refusals.{unless_reason}
use Rattle.line_form.specs.declared.year_fields.RateRead.{RateRead}
use Rattle.line_checks.specs.Before.{Known, before_rising}
use Rattle.line_checks.specs.Places.{rate_on}
use Rattle.line_checks.proofs.Chain.{told_ok}
use Rattle.line_checks.proofs.Records.{before_b, before_r}
use Rattle.progress.proofs.Rows.{Row}
use Rattle.progress.proofs.UndatedLines.{break_row, rate_row}

-- ---- B
module _ (s : Rec) (l : Line) (k : Known B l) (r : Result ℕ Refusal)
    (e : r ≡ unless_reason (refusal (before_rising s.last (history_years s.site.al s.site.filiere) s.lasts.b) l) (year_on l)) where
  pub break_seen : r ≡ unless_reason (refusal (before_of s) l) (year_on l)
  break_seen = e ∙ ap (λ (o : Option Reason). unless_reason o (year_on l)) (sym (before_b s l k.tag))

  module _ (y : ℕ) (q : r ≡ Ok y) where
    pub break_none : refusal (before_of s) l ≡ none
    break_none = (told_ok (refusal (before_of s) l) (year_on l) y (sym q ∙ break_seen)).0

    pub break_year : y ≡ year_on l
    break_year = (told_ok (refusal (before_of s) l) (year_on l) y (sym q ∙ break_seen)).1

    pub break_history : history_years s.site.al s.site.filiere ≡ history_of_rec s
    break_history = (break_row s l break_none k.tag).1

    pub break_place : (h : Years) → h ≡ history_years s.site.al s.site.filiere → Row h.first y 10
    break_place h p = rw (p, break_history, break_year) (break_row s l break_none k.tag).0

-- ---- R
module _ (s : Rec) (l : Line) (k : Known R l) (r : Result RateRead Refusal)
    (e : r ≡ unless_reason (refusal (before_rising s.last (history_years s.site.al s.site.filiere) s.lasts.r) l) (rate_on l)) where
  pub rate_seen : r ≡ unless_reason (refusal (before_of s) l) (rate_on l)
  rate_seen = e ∙ ap (λ (o : Option Reason). unless_reason o (rate_on l)) (sym (before_r s l k.tag))

  module _ (v : RateRead) (q : r ≡ Ok v) where
    pub rate_none : refusal (before_of s) l ≡ none
    rate_none = (told_ok (refusal (before_of s) l) (rate_on l) v (sym q ∙ rate_seen)).0

    rate_says : v ≡ rate_on l
    rate_says = (told_ok (refusal (before_of s) l) (rate_on l) v (sym q ∙ rate_seen)).1

    pub rate_year : v.year ≡ year_on l
    unfolding rate_on
    rate_year = ap (λ (x : RateRead). x.year) rate_says

    pub rate_rate : v.rate ≡ number_at l 2
    unfolding rate_on
    rate_rate = ap (λ (x : RateRead). x.rate) rate_says

    pub rate_history : history_years s.site.al s.site.filiere ≡ history_of_rec s
    rate_history = (rate_row s l rate_none k.tag).1

    pub rate_place : (h : Years) → h ≡ history_years s.site.al s.site.filiere → Row h.first v.year 10
    rate_place h p = rw (p, rate_history, rate_year) (rate_row s l rate_none k.tag).0
