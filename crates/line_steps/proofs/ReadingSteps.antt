-- What the result of the checks says about a D or X line.
use Rattle.std.specs.Prelude.{Result, Ok}
use mathlib.Core.Path.{◌≡◌, refl, ap, sym, ◌∙◌}
use mathlib.Core.Option.{Option, none}
use Rattle.calendar.specs.declared.Years.{Years}
use Rattle.calendar.specs.Spans.{history_years, axis_years}
use Rattle.text.specs.Fields.{field_at}
use Rattle.meaning.specs.Line.{Line, X, D, year_on, number_at, kind_of, key_of}
use Rattle.meaning.specs.Refusals.{Reason, refusal}
use Rattle.meaning.specs.Record.{Rec, axis_of_rec, before_of}
use Rattle.meaning.specs.Calls.{position_on}
use Rattle.meaning.proofs.Accepted.{kind_in}
use Rattle.refusals.specs.declared.Refusal.{Refusal}
use Rattle.refusals.specs.Refusals.{unless_reason}
use Rattle.readings.specs.Readings.{kind_view}
use Rattle.readings.proofs.Laws.{kind_shown}
use Rattle.line_checks.specs.Before.{Known, before_rising, before_reading}
use Rattle.line_checks.proofs.Chain.{told_ok}
use Rattle.line_checks.proofs.Records.{before_d, before_x}
use Rattle.line_steps.specs.ReadingAnswers.{reading_on, daily_on}
use Rattle.line_steps.specs.declared.readings_and_sums.checks.ReadingChecked.{ReadingChecked}
use Rattle.line_steps.specs.declared.readings_and_sums.checks.DailyChecked.{DailyChecked}
use Rattle.progress.proofs.Rows.{Row}
use Rattle.progress.proofs.DatedLines.{daily_row, daily_axis, position_d, position_x}

-- ---- D
module _ (s : Rec) (l : Line) (k : Known D l) (r : Result DailyChecked Refusal)
    (e : r ≡ unless_reason (refusal (before_rising s.last (history_years s.site.al s.site.filiere) s.lasts.d) l) (daily_on (history_years s.site.al s.site.filiere) l)) where
  pub daily_seen : r ≡ unless_reason (refusal (before_of s) l) (daily_on (history_years s.site.al s.site.filiere) l)
  daily_seen = e ∙ ap (λ (o : Option Reason). unless_reason o (daily_on (history_years s.site.al s.site.filiere) l)) (sym (before_d s l k.tag))

  module _ (j : DailyChecked) (q : r ≡ Ok j) where
    pub daily_none : refusal (before_of s) l ≡ none
    daily_none = (told_ok (refusal (before_of s) l) (daily_on (history_years s.site.al s.site.filiere) l) j (sym q ∙ daily_seen)).0

    pub daily_say : (j.year ≡ year_on l) × (j.position ≡ position_on (axis_of_rec s) l) × (j.sum ≡ number_at l 4) × (j.key ≡ key_of D l)
    unfolding daily_on
    daily_say = rw (told_ok (refusal (before_of s) l) (daily_on (history_years s.site.al s.site.filiere) l) j (sym q ∙ daily_seen)).1 (refl, position_d s l daily_none k.tag, refl, refl)

    pub daily_year_place : (a : Years) → a ≡ axis_years (history_years s.site.al s.site.filiere) → Row a.first j.year 12
    daily_year_place a p = rw (p, daily_axis s l daily_none k.tag, daily_say.0) (daily_row s l daily_none k.tag)

-- ---- X
module _ (s : Rec) (l : Line) (k : Known X l) (r : Result ReadingChecked Refusal)
    (e : r ≡ unless_reason (refusal (before_reading s.last (history_years s.site.al s.site.filiere) s.lasts.x s.last_index s.readings) l) (reading_on (history_years s.site.al s.site.filiere) l)) where
  pub reading_seen : r ≡ unless_reason (refusal (before_of s) l) (reading_on (history_years s.site.al s.site.filiere) l)
  reading_seen = e ∙ ap (λ (o : Option Reason). unless_reason o (reading_on (history_years s.site.al s.site.filiere) l)) (sym (before_x s l k.tag))

  module _ (j : ReadingChecked) (q : r ≡ Ok j) where
    pub reading_none : refusal (before_of s) l ≡ none
    reading_none = (told_ok (refusal (before_of s) l) (reading_on (history_years s.site.al s.site.filiere) l) j (sym q ∙ reading_seen)).0

    pub reading_say : (j.position ≡ position_on (axis_of_rec s) l) × (j.index.0 ≡ number_at l 4) × (kind_view j.kind ≡ kind_of (field_at l 5)) × (j.key ≡ key_of X l)
    unfolding reading_on
    reading_say =
        rw (told_ok (refusal (before_of s) l) (reading_on (history_years s.site.al s.site.filiere) l) j (sym q ∙ reading_seen)).1
        (position_x s l reading_none k.tag, refl, kind_shown (kind_of (field_at l 5)) (kind_in (before_of s) l reading_none k.tag), refl)
