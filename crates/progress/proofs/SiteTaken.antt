-- What S gave: AL and filière, 0 until S is taken.
use mathlib.Core.Path.{◌≡◌, refl}
use mathlib.Core.Bool.{Bool, true, false, not, cond}
use lib.Dec.{eqb}
use Rattle.meaning.specs.Filing.{no_site}
use Rattle.meaning.specs.Record.{Rec, is_taken, site_of_rec}

pub al_given : (s : Rec) → cond (not (eqb s.last 0)) s.site.al 0 ≡ (site_of_rec s).al
unfolding site_of_rec is_taken no_site
al_given s = go (not (eqb s.last 0))
  where
    go : (b : Bool) → cond b s.site.al 0 ≡ (cond b s.site no_site).al
    go true = refl
    go false = refl

pub filiere_given : (s : Rec) → cond (not (eqb s.last 0)) s.site.filiere 0 ≡ (site_of_rec s).filiere
unfolding site_of_rec is_taken no_site
filiere_given s = go (not (eqb s.last 0))
  where
    go : (b : Bool) → cond b s.site.filiere 0 ≡ (cond b s.site no_site).filiere
    go true = refl
    go false = refl
