-- Opening: refused where a block is not of its size, else a fresh record and fresh blocks.
use mathlib.Core.Path.{◌≡◌, refl, ap, ◌∙◌}
use mathlib.Core.Bool.{Bool, true, false, cond}
use Rattle.std.specs.Prelude.{Result, Ok, Err}
use Rattle.meaning.specs.Blocks.{Blocks, sizes_fit, fresh_blocks}
use Rattle.meaning.specs.Record.{open_state, empty_rec, fresh_rec}
use Rattle.meaning.specs.Calls.{out, accepted, leaves, opening_of}
use Rattle.refusals.specs.declared.Refusal.{Refusal}
use Rattle.refusals.specs.declared.Refusal.TheVariants.{Unfit}
use Rattle.refusals.specs.Refusals.{refusal_number}
use Rattle.answers.specs.declared.Answer.{Answer}
use Rattle.answers.specs.declared.Answer.TheVariants.{Accepted}
use Rattle.answers.specs.Views.{answer_to}
use Rattle.open_and_line.specs.Opens.{Opens}
use Rattle.record_calls.specs.declared.Record.{Record}
use Rattle.record_calls.specs.Views.{view, call_view}

-- what the answer of an opening says of the sizes
fits : (b : Bool) → ◌≡◌ {A = Result (Unit {0}) Refusal} (Ok tt) (cond b (Ok tt) (Err Unfit)) → b ≡ true
fits true q = refl
fits false q = cc

fits_not : (y : Refusal) (b : Bool) → ◌≡◌ {A = Result (Unit {0}) Refusal} (Err y) (cond b (Ok tt) (Err Unfit)) → (b ≡ false) × (y ≡ Unfit)
fits_not y true q = (cc, cc)
fits_not y false q = (refl, cc)

module _ (s : Record) (w v : Blocks) where
  pub opened : Opens (Ok tt) w v → (r : Record) → view r ≡ empty_rec open_state → call_view (record { «record» = r; answer = Accepted }) v ≡ opening_of (view s) w
  unfolding opening_of fresh_rec
  opened o r e =
      let t = fits (sizes_fit w) o.0 in
      rw (e, t) (ap (λ (x : Blocks). out accepted fresh_rec x) (o.1 ∙ ap (λ (c : Bool). cond c fresh_blocks w) t))

  pub unopened : (y : Refusal) → Opens (Err y) w v → (a : Answer) → a ≡ answer_to (Err y) s.count → call_view (record { «record» = s; answer = a }) v ≡ opening_of (view s) w
  unfolding opening_of leaves answer_to refusal_number
  unopened y o a e =
      let f = fits_not y (sizes_fit w) o.0 in
      rw (e, f.1, f.0) (ap (λ (x : Blocks). leaves 1 (view s) x) (o.1 ∙ ap (λ (c : Bool). cond c fresh_blocks w) f.0))
