-- The resulting step, in the order of checking; and a tag that writes some blocks leaves the others.
use Rattle.std.specs.Prelude as std
use Rattle.std.specs.Prelude.{Result, Ok, Err}
use mathlib.Core.Path.{◌≡◌, refl, sym, ◌∙◌}
use mathlib.Core.List.{List}
use mathlib.Core.Bool.{true, false, cond}
use mathlib.Core.Option.{Option, some, none}
use Prim.Native.Nat.{ℕ}
use Rattle.readings.specs.Columns.{lent_blocks}
use Rattle.lists.specs.Lists.{first_of}
use Rattle.text.specs.Fields.{field_at}
use Rattle.meaning.specs.Filing.{estimated}
use Rattle.meaning.specs.Line.{Line, Tag, S, C, X, D, P, B, R, E, is, tag_of, number_at, kind_of}
use Rattle.meaning.specs.Refusals.{Reason, number_of, is_illegible, is_unknown, holds, order, refusal}
use Rattle.meaning.specs.Blocks.{Blocks}
use Rattle.meaning.specs.Record.{Rec, in_state, axis_of_rec, before_of}
use Rattle.meaning.specs.Calls.{position_on, rec_after, blocks_after}
use Rattle.readings.specs.declared.Reading.{Reading}
use Rattle.refusals.specs.declared.Refusal.{Refusal}
use Rattle.refusals.specs.declared.Refusal.TheVariants.{Illegible, Unknown}
use Rattle.refusals.specs.Refusals.{refusal_number, of_reason, unless_reason}
use Rattle.refusals.proofs.Laws.{line_numbers}
use Rattle.line_checks.proofs.Chain.{told_err}
use Rattle.progress.specs.declared.Progress.{Progress}
use Rattle.progress.specs.ProgressViews.{open_rec, taken_view, step_view}
use Rattle.progress.specs.Steps.{Stepped, with_no_reading, stores_after, step_by, step_of, no_block, point_blocks, slot_block, daily_block}

module _ (s : Rec) (l : Line) (w : Blocks) where
  pub step_2 : is_illegible l ≡ true → with_no_reading (refusal_number Illegible) s w ≡ step_of s l w
  unfolding refusal_number step_of refusal first_of order holds step_by number_of
  step_2 e = rw e

  pub step_3 : is_illegible l ≡ false → is_unknown l ≡ true → with_no_reading (refusal_number Unknown) s w ≡ step_of s l w
  unfolding refusal_number step_of refusal first_of order holds step_by number_of
  step_3 e h = rw (e, h)

  -- refused by the checks of its tag
  pub step_refused : {A : Type 0} (a : A) (y : Refusal) → Err y ≡ unless_reason (refusal (before_of s) l) a → with_no_reading (refusal_number y) s w ≡ step_of s l w
  unfolding step_of step_by
  step_refused a y e = go (told_err (refusal (before_of s) l) a y e)
    where
      go : (z : Reason) × (refusal (before_of s) l ≡ some z) × (y ≡ of_reason z) → with_no_reading (refusal_number y) s w ≡ step_by (refusal (before_of s) l) s l w
      go t = rw (t.1, t.2, line_numbers t.0)

  pub step_took : (t : Tag) → tag_of l ≡ t → refusal (before_of s) l ≡ none
      → record {
        number = 0;
        after = in_state s.state s.count (rec_after t l s);
        reads = is X t;
        position = cond (is X t) (position_on (axis_of_rec s) l) 0;
        index = cond (is X t) (number_at l 4) 0;
        kind = cond (is X t) (kind_of (field_at l 5)) estimated;
        blocks = stores_after t l s w;
      }
      ≡ step_of s l w
  unfolding step_of step_by
  step_took t u e = rw (e, u)

-- ---- frames: a step is the same with any other blocks, and these are left as they are
-- a step with its blocks joined to others
abbrev pub within : (Blocks → Blocks) → Stepped → Stepped
within join o = record { number = o.number; after = o.after; reads = o.reads; position = o.position; index = o.index; kind = o.kind; blocks = join o.blocks }

-- the same of a step in the code
within_taken : (join : Blocks → Blocks) (s : Rec) (r : std.Option Reading) (v : Blocks) → within join (taken_view s r v) ≡ taken_view s r (join v)
within_taken join s std.None v = refl
within_taken join s (std.Some r) v = refl

pub within_view : (join : Blocks → Blocks) (n : ℕ) (p : Progress) (r : Result (std.Option Reading) Refusal) (v : Blocks) → within join (step_view n p r v) ≡ step_view n p r (join v)
within_view join n p (Err y) v = refl
within_view join n p (Ok r) v = within_taken join (open_rec n p) r v

pub stay : (s : Rec) (l : Line) (t : Tag) (v w : Blocks) (join : Blocks → Blocks) (o : Stepped) → tag_of l ≡ t
    → join (stores_after t l s v) ≡ stores_after t l s w → join v ≡ w → o ≡ step_of s l v → within join o ≡ step_of s l w
unfolding step_of step_by
stay s l t v w join o u a b e = rw e (go (refusal (before_of s) l))
  where
    go : (r : Option Reason) → within join (step_by r s l v) ≡ step_by r s l w
    go none = rw (u, a)
    go (some y) = rw b

-- by tag, n lines before it, from progress p to q
module _ (n : ℕ) (p q : Progress) (l : Line) (r : Result (std.Option Reading) Refusal) (w : Blocks) where
  stay_view : (t : Tag) (v v' : Blocks) (join : Blocks → Blocks) → tag_of l ≡ t → join (stores_after t l (open_rec n p) v) ≡ stores_after t l (open_rec n p) w → join v ≡ w
      → step_view n q r v' ≡ step_of (open_rec n p) l v → step_view n q r (join v') ≡ step_of (open_rec n p) l w
  stay_view t v v' join u a b e = sym (within_view join n q r v') ∙ stay (open_rec n p) l t v w join (step_view n q r v') u a b e

  pub stay_s : tag_of l ≡ S → step_view n q r no_block ≡ step_of (open_rec n p) l no_block → step_view n q r w ≡ step_of (open_rec n p) l w
  unfolding stores_after blocks_after
  stay_s u = stay_view S no_block no_block (λ v. w) u refl refl

  pub stay_x : tag_of l ≡ X → step_view n q r no_block ≡ step_of (open_rec n p) l no_block → step_view n q r w ≡ step_of (open_rec n p) l w
  unfolding stores_after blocks_after
  stay_x u = stay_view X no_block no_block (λ v. w) u refl refl

  pub stay_b : tag_of l ≡ B → step_view n q r no_block ≡ step_of (open_rec n p) l no_block → step_view n q r w ≡ step_of (open_rec n p) l w
  unfolding stores_after blocks_after
  stay_b u = stay_view B no_block no_block (λ v. w) u refl refl

  pub stay_r : tag_of l ≡ R → step_view n q r no_block ≡ step_of (open_rec n p) l no_block → step_view n q r w ≡ step_of (open_rec n p) l w
  unfolding stores_after blocks_after
  stay_r u = stay_view R no_block no_block (λ v. w) u refl refl

  pub stay_e : tag_of l ≡ E → step_view n q r no_block ≡ step_of (open_rec n p) l no_block → step_view n q r w ≡ step_of (open_rec n p) l w
  unfolding stores_after blocks_after
  stay_e u = stay_view E no_block no_block (λ v. w) u refl refl

  pub stay_c : (near far : List ℕ) → tag_of l ≡ C → step_view n q r (point_blocks near far) ≡ step_of (open_rec n p) l (point_blocks w.near w.far)
      → step_view n q r (lent_blocks near far w.slots w.daily w.readings w.curve) ≡ step_of (open_rec n p) l w
  unfolding stores_after blocks_after
  stay_c near far u = stay_view C (point_blocks w.near w.far) (point_blocks near far) (λ v. lent_blocks v.near v.far w.slots w.daily w.readings w.curve) u refl refl

  pub stay_p : (slots : List ℕ) → tag_of l ≡ P → step_view n q r (slot_block slots) ≡ step_of (open_rec n p) l (slot_block w.slots)
      → step_view n q r (lent_blocks w.near w.far slots w.daily w.readings w.curve) ≡ step_of (open_rec n p) l w
  unfolding stores_after blocks_after
  stay_p slots u = stay_view P (slot_block w.slots) (slot_block slots) (λ v. lent_blocks w.near w.far v.slots w.daily w.readings w.curve) u refl refl

  pub stay_d : (daily : List ℕ) → tag_of l ≡ D → step_view n q r (daily_block daily) ≡ step_of (open_rec n p) l (daily_block w.daily)
      → step_view n q r (lent_blocks w.near w.far w.slots daily w.readings w.curve) ≡ step_of (open_rec n p) l w
  unfolding stores_after blocks_after
  stay_d daily u = stay_view D (daily_block w.daily) (daily_block daily) (λ v. lent_blocks w.near w.far w.slots v.daily w.readings w.curve) u refl refl
