-- Blocks that are filled are fresh.
use mathlib.Core.Path.{◌≡◌, refl, ap, sym, ◌∙◌}
use mathlib.Core.Bool.{Bool, true, false}
use mathlib.Core.List.{List}
use Prim.Native.Nat.{ℕ}
use lib.ListN.{length, replicate}
use Rattle.std.specs.Prelude.{Ok, Err}
use Rattle.refusals.specs.declared.Refusal.TheVariants.{Unfit}
use Rattle.meaning.specs.Level.{missing_entry}
use Rattle.meaning.specs.Blocks.{Blocks, sizes_fit, fresh_reading, fresh_blocks, missing_point}
use Rattle.meaning.proofs.Sizes.{sizes_of}
use Rattle.readings.specs.declared.Reading.{Reading}
use Rattle.readings.specs.Readings.{readings_view, freshened}
use Rattle.readings.specs.Columns.{lent_blocks}
use Rattle.readings.proofs.Laws.{seen_length, seen_fresh}
use Rattle.answers.specs.Refusals.{lengths_fit}
use Rattle.answers.proofs.Laws.{by_lengths}
use Rattle.open_and_line.specs.Opens.{Opens}

module _ (near far slots daily : List ℕ) (rs : List Reading) (curve : List ℕ) (fit : Bool)
    (asked : fit ≡ lengths_fit (length near) (length far) (length slots) (length daily) (length rs) (length curve)) where
  abbrev w : Blocks
  w = lent_blocks near far slots daily (readings_view rs) curve

  fit_is : fit ≡ sizes_fit w
  fit_is = rw (← by_lengths w, seen_length rs) asked

  pub unopened : fit ≡ false → Opens (Err Unfit) w w
  unopened f = rw (← fit_is, f) (refl, refl)

  pub opened : fit ≡ true → (near' far' slots' daily' : List ℕ) (rs' : List Reading) (curve' : List ℕ)
      → near' ≡ replicate (length near) missing_point → far' ≡ replicate (length far) missing_point → slots' ≡ replicate (length slots) 0
      → daily' ≡ replicate (length daily) 0 → rs' ≡ freshened rs → curve' ≡ replicate (length curve) missing_entry
      → Opens (Ok tt) w (lent_blocks near' far' slots' daily' (readings_view rs') curve')
  unfolding fresh_blocks
  opened f near' far' slots' daily' rs' curve' a b c d r g =
      let t = sizes_of w (rw (← fit_is, f) tt) in
      rw (← fit_is, f) (
        refl,
        λ i. record {
          near = (a ∙ ap (λ (k : ℕ). replicate k missing_point) t.near) i;
          far = (b ∙ ap (λ (k : ℕ). replicate k missing_point) t.far) i;
          slots = (c ∙ ap (λ (k : ℕ). replicate k 0) t.slots) i;
          daily = (d ∙ ap (λ (k : ℕ). replicate k 0) t.daily) i;
          readings = (ap readings_view r ∙ seen_fresh rs ∙ ap (λ (k : ℕ). replicate k fresh_reading) (sym (seen_length rs) ∙ t.readings)) i;
          curve = (g ∙ ap (λ (k : ℕ). replicate k missing_entry) t.curve) i;
        },
      )
