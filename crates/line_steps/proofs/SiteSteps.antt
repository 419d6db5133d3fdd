-- What the result of the checks says about an S or E line.
use Rattle.std.specs.Prelude.{Result, Ok}
use mathlib.Core.Path.{◌≡◌, ap, sym, ◌∙◌}
use mathlib.Core.Option.{Option, none}
use Rattle.meaning.specs.Filing as meant
use Rattle.meaning.specs.Filing.{site}
use Rattle.meaning.specs.Line.{Line, S, E, site_on}
use Rattle.meaning.specs.Refusals.{Reason, refusal}
use Rattle.meaning.specs.Record.{Rec, before_of}
use Rattle.refusals.specs.declared.Refusal.{Refusal}
use Rattle.refusals.specs.Refusals.{unless_reason}
use Rattle.line_form.specs.Views.{site_view, site_repr}
use Rattle.line_form.specs.declared.Site.{Site}
use Rattle.line_form.proofs.LetterLaws.{shown}
use Rattle.line_checks.specs.Before.{Known, before_first, before_end}
use Rattle.line_checks.proofs.Chain.{told_ok}
use Rattle.line_checks.proofs.Records.{before_s, before_e}

viewed : (t : meant.Site) → site_view (site_repr t) ≡ t
viewed t = ap (λ (m : meant.Meter). site t.al t.filiere m t.ps) (shown t.meter)

-- ---- S
module _ (s : Rec) (l : Line) (k : Known S l) (r : Result Site Refusal) (e : r ≡ unless_reason (refusal (before_first s.last) l) (site_repr (site_on l))) where
  pub site_seen : r ≡ unless_reason (refusal (before_of s) l) (site_repr (site_on l))
  site_seen = e ∙ ap (λ (o : Option Reason). unless_reason o (site_repr (site_on l))) (sym (before_s s l k.tag))

  pub site_taken : (t : Site) → r ≡ Ok t → (refusal (before_of s) l ≡ none) × (site_view t ≡ site_on l)
  site_taken t q = let p = told_ok (refusal (before_of s) l) (site_repr (site_on l)) t (sym q ∙ site_seen) in (p.0, rw p.1 (viewed (site_on l)))

-- ---- E
module _ (s : Rec) (l : Line) (k : Known E l) (r : Result Unit Refusal) (e : r ≡ unless_reason (refusal (before_end s.last s.count) l) tt) where
  pub end_seen : r ≡ unless_reason (refusal (before_of s) l) tt
  end_seen = e ∙ ap (λ (o : Option Reason). unless_reason o tt) (sym (before_e s l k.tag))

  pub end_taken : r ≡ Ok tt → refusal (before_of s) l ≡ none
  end_taken q = (told_ok (refusal (before_of s) l) tt tt (sym q ∙ end_seen)).0
