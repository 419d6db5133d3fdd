-- What the result of the checks says about a C or P line.
use Rattle.std.specs.Prelude.{Result, Ok}
use mathlib.Core.Path.{◌≡◌, refl, ap, sym, ◌∙◌}
use mathlib.Core.Option.{Option, none}
use Rattle.calendar.specs.declared.Years.{Years}
use Rattle.calendar.specs.Spans.{history_years}
use Rattle.meaning.specs.Line.{Line, C, P, year_on, winter_on, key_of}
use Rattle.meaning.specs.Refusals.{Reason, refusal}
use Rattle.meaning.specs.Record.{Rec, before_of}
use Rattle.line_form.specs.Codes.{point_row, profile_row}
use Rattle.refusals.specs.declared.Refusal.{Refusal}
use Rattle.refusals.specs.Refusals.{unless_reason}
use Rattle.line_checks.specs.Before.{Known, before_points, before_rising}
use Rattle.line_checks.proofs.Chain.{told_ok}
use Rattle.line_checks.proofs.Records.{before_c, before_p}
use Rattle.line_steps.specs.PointAnswers.{date_on, points_on, profiles_on}
use Rattle.line_steps.specs.declared.points_and_profiles.checks.PointsChecked.{PointsChecked}
use Rattle.line_steps.specs.declared.points_and_profiles.checks.ProfilesChecked.{ProfilesChecked}
use Rattle.progress.proofs.Rows.{Row}
use Rattle.progress.proofs.DatedLines.{profiles_row, profiles_history}

-- ---- C
module _ (s : Rec) (l : Line) (k : Known C l) (r : Result PointsChecked Refusal)
    (e : r ≡ unless_reason (refusal (before_points s.last s.site.meter (history_years s.site.al s.site.filiere) s.lasts.c) l) (points_on l)) where
  pub points_seen : r ≡ unless_reason (refusal (before_of s) l) (points_on l)
  points_seen = e ∙ ap (λ (o : Option Reason). unless_reason o (points_on l)) (sym (before_c s l k.tag))

  module _ (j : PointsChecked) (q : r ≡ Ok j) where
    pub points_none : refusal (before_of s) l ≡ none
    points_none = (told_ok (refusal (before_of s) l) (points_on l) j (sym q ∙ points_seen)).0

    pub points_say : (j.date.year ≡ year_on l) × (j.date.place ≡ winter_on l) × (j.date.key ≡ key_of C l)
    unfolding points_on date_on
    points_say = rw (told_ok (refusal (before_of s) l) (points_on l) j (sym q ∙ points_seen)).1 (refl, refl, refl)

    pub points_read : j.points ≡ point_row l
    unfolding points_on
    points_read = rw (told_ok (refusal (before_of s) l) (points_on l) j (sym q ∙ points_seen)).1

-- ---- P
module _ (s : Rec) (l : Line) (k : Known P l) (r : Result ProfilesChecked Refusal)
    (e : r ≡ unless_reason (refusal (before_rising s.last (history_years s.site.al s.site.filiere) s.lasts.p) l) (profiles_on l)) where
  pub profiles_seen : r ≡ unless_reason (refusal (before_of s) l) (profiles_on l)
  profiles_seen = e ∙ ap (λ (o : Option Reason). unless_reason o (profiles_on l)) (sym (before_p s l k.tag))

  module _ (j : ProfilesChecked) (q : r ≡ Ok j) where
    pub profiles_none : refusal (before_of s) l ≡ none
    profiles_none = (told_ok (refusal (before_of s) l) (profiles_on l) j (sym q ∙ profiles_seen)).0

    pub profiles_say : (j.date.year ≡ year_on l) × (j.date.place ≡ winter_on l) × (j.date.key ≡ key_of P l)
    unfolding profiles_on date_on
    profiles_say = rw (told_ok (refusal (before_of s) l) (profiles_on l) j (sym q ∙ profiles_seen)).1 (refl, refl, refl)

    pub profiles_read : j.values ≡ profile_row l
    unfolding profiles_on
    profiles_read = rw (told_ok (refusal (before_of s) l) (profiles_on l) j (sym q ∙ profiles_seen)).1

    pub profiles_place : (h : Years) → h ≡ history_years s.site.al s.site.filiere → Row h.first j.date.year 10
    profiles_place h p = rw (p, profiles_history s l profiles_none k.tag, profiles_say.0) (profiles_row s l profiles_none k.tag).0
