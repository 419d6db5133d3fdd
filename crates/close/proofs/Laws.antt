-- What 1 says about a close: sizes, ranges and contents that fit.
use mathlib.Core.Path.{◌≡◌, refl, ap, sym, subst, ◌∙◌}
use mathlib.Core.Bool.{Bool, true, false, ◌&&◌, ◌||◌, not, cond}
use mathlib.Core.List.{List, []}
use Prim.Native.Nat.{ℕ, ◌≤◌}
use native.Mathlib.Omega.{arith}
use lib.Dec.{T, eqb, leb, leb→le, eqb→eq}
use Rattle.lists.proofs.Tests.{and_parts}
use Rattle.calendar.specs.declared.Years.{Years}
use Rattle.calendar.specs.Spans.{history_years, axis_years}
use Rattle.meaning.specs.Filing.{Reading}
use Rattle.meaning.specs.Line.{most_index}
use Rattle.meaning.specs.Refusals.{is_too_soon, most_readings}
use Rattle.meaning.specs.Blocks.{Blocks, sizes_fit, readings_of, readings_size}
use Rattle.meaning.specs.Record.{Rec, is_taken, is_within, history_of_site, history_of_rec, axis_of_rec, site_fits, rec_fits, contents_fit}
use Rattle.readings.specs.Columns.{readings_in, lent_blocks, lent_blocks_in}
use Rattle.close_checks.specs.Contents.{contents_in}
use Rattle.close_checks.proofs.ContentLaws.{contents_fit_lem}
use Rattle.progress.proofs.SiteTaken.{al_given, filiere_given}
use Rattle.answers.specs.declared.lengths.Lengths.{Lengths}
use Rattle.answers.specs.Refusals.{lengths_fit}
use Rattle.close.specs.FirstRefusals.{all_fit}

-- ---- bounds for a record within its ranges
few_of : (b : Bool) (al : ℕ) → T ((b && eqb al 0) || is_within 2021 2026 al) → al ≤ 9999
unfolding is_within
few_of b al = go (b && eqb al 0) (leb 2021 al && leb al 2026)
    (λ t. omega (arith, eqb→eq al 0 (and_parts b (eqb al 0) t).1))
    (λ t. omega (arith, leb→le al 2026 (and_parts (leb 2021 al) (leb al 2026) t).1))
  where
    go : (z v : Bool) → (T z → al ≤ 9999) → (T v → al ≤ 9999) → T (z || v) → al ≤ 9999
    go true v f g t = f tt
    go false v f g t = g t

pub within : (s : Rec) → rec_fits s ≡ true → (s.readings ≤ 600) × (s.site.al ≤ 9999)
unfolding rec_fits site_fits
within s e =
    let r = and_parts (leb s.count 9999 && leb s.last 8) _ (subst T (sym e) tt) in
    let t = and_parts (site_fits (is_taken s) s.site && not (is_too_soon s.site.al s.site.filiere)) _ r.1 in
    let u = and_parts (site_fits (is_taken s) s.site) _ t.0 in
    let n = and_parts (leb s.readings most_readings && leb s.last_index most_index) _ t.1 in (
      leb→le s.readings most_readings (and_parts (leb s.readings most_readings) _ n.0).0,
      few_of (not (is_taken s)) s.site.al (and_parts ((not (is_taken s) && eqb s.site.al 0) || is_within 2021 2026 s.site.al) _ u.0).0,
    )

-- the years from what S gave
pub history_by : (s : Rec) (al f : ℕ) (h : Years) → al ≡ cond (not (eqb s.last 0)) s.site.al 0 → f ≡ cond (not (eqb s.last 0)) s.site.filiere 0 → h ≡ history_years al f → h ≡ history_of_rec s
unfolding history_of_rec history_of_site
history_by s al f h ea ef e = e ∙ rw (ea ∙ al_given s, ef ∙ filiere_given s)

pub axis_by : (s : Rec) (al f : ℕ) (v : Years) → al ≡ cond (not (eqb s.last 0)) s.site.al 0 → f ≡ cond (not (eqb s.last 0)) s.site.filiere 0 → v ≡ axis_years (history_years al f) → v ≡ axis_of_rec s
unfolding axis_of_rec
axis_by s al f v ea ef e = e ∙ ap axis_years (history_by s al f (history_years al f) ea ef refl)

-- ---- 1, from the checks of the code
-- by the lengths of the lent blocks, and columns that hold their readings where each block has its size
pub all_fit_lem : (s : Rec) (w : Blocks) (n : Lengths) (ps xs ks : List ℕ) → lengths_fit n.near n.far n.slots n.daily n.readings n.curve ≡ sizes_fit w
    → (sizes_fit w ≡ true → readings_in ps xs ks readings_size ≡ w.readings)
    → all_fit s n (lent_blocks_in w.near w.far w.slots w.daily ps xs ks []) ≡ (sizes_fit w && (rec_fits s && contents_fit s w))
unfolding all_fit
all_fit_lem s w n ps xs ks l same = rw l (go (sizes_fit w) refl)
  where
    lent : List Reading → Blocks
    lent rs = lent_blocks w.near w.far w.slots w.daily rs []

    held : contents_fit s (lent w.readings) ≡ contents_fit s w
    held = unfold contents_fit readings_of in refl

    go : (b : Bool) → sizes_fit w ≡ b → (b && (rec_fits s && contents_fit s (lent (readings_in ps xs ks readings_size)))) ≡ (b && (rec_fits s && contents_fit s w))
    go true e = ap (λ (x : Bool). rec_fits s && x) (ap (λ (rs : List Reading). contents_fit s (lent rs)) (same e) ∙ held)
    go false e = refl

-- from the columns
pub fits_contents : (s : Rec) (w : Blocks) (ps xs ks : List ℕ) → readings_of w s.readings ≡ readings_in ps xs ks s.readings → (f : Bool) (h v : Years) → h ≡ history_of_rec s → v ≡ axis_of_rec s
    → f ≡ contents_in h v s.site.al w.near w.far w.slots w.daily ps xs ks s.readings → f ≡ contents_fit s w
fits_contents s w ps xs ks read f h v eh ev ef = rw (contents_fit_lem s w ps xs ks read, ← eh, ← ev) ef
