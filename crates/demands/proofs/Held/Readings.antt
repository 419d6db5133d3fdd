-- Readings: after an X line the lent list holds what the lines say.
use mathlib.Core.Path.{◌≡◌, ap, sym, ◌∙◌}
use mathlib.Core.Bool.{Bool, true, false, cond}
use mathlib.Core.List.{List, [], ◌∷◌, ◌++◌, append-nil}
use mathlib.Core.Option.{some, none}
use Prim.Native.Nat.{ℕ, ◌+◌, ◌<◌}
use native.Mathlib.Nat.{zero-add}
use native.Mathlib.Numerals.{add-one}
use native.Mathlib.Omega.{arith}
use lib.Dec.{T}
use lib.ListN.{length, get_or, set}
use lib.Seq.{get_or-set_same, get_or-set_other}
use Rattle.lists.specs.Lists.{tab, present}
use Rattle.lists.proofs.Tables.{tab_snoc, tab_same, present_snoc}
use Rattle.meaning.specs.Filing.{Reading}
use Rattle.meaning.specs.Line.{Line, X, is, tag_of}
use Rattle.meaning.specs.File.{axis_in, reading_on, readings_in}
use Rattle.meaning.specs.Blocks.{Blocks, readings_size, fresh_reading, readings_of}
use Rattle.meaning.specs.Record.{Rec, axis_of_rec}
use Rattle.meaning.specs.Calls.{position_on, reading_at, blocks_after}
use Rattle.meaning.proofs.Sizes.{Sizes}

-- ---- of the lines: one more where the line is X
pub readings_snoc : (ls : List Line) (l : Line) → axis_in (ls ++ (l ∷ [])) ≡ axis_in ls → readings_in (ls ++ (l ∷ [])) ≡ readings_in ls ++ present (reading_on (axis_in ls) l ∷ [])
unfolding readings_in
readings_snoc ls l e = rw e (present_snoc (reading_on (axis_in ls)) ls l)

-- ---- of the lent list
kept : (rs : List Reading) (n : ℕ) (r : Reading) (i : ℕ) → i < 0 + n → get_or (set rs n r) i fresh_reading ≡ get_or rs i fresh_reading
kept rs n r i h = get_or-set_other rs n i r fresh_reading (λ e. omega arith)

more : (rs : List Reading) (n : ℕ) (r : Reading) → n < length rs → tab (n + 1) 0 (λ i. get_or (set rs n r) i fresh_reading) ≡ tab n 0 (λ i. get_or rs i fresh_reading) ++ (r ∷ [])
more rs n r a =
    rw (
      add-one n,
      tab_snoc n 0 (λ i. get_or (set rs n r) i fresh_reading),
      tab_same n 0 (λ i. get_or (set rs n r) i fresh_reading) (λ i. get_or rs i fresh_reading) (kept rs n r),
      zero-add n,
      get_or-set_same rs n r fresh_reading a,
    )

more_by : (b : Bool) (qs rs : List Reading) (n : ℕ) (r : Reading) → (T b → n < length rs) → tab n 0 (λ i. get_or rs i fresh_reading) ≡ qs
    → tab (cond b (n + 1) n) 0 (λ i. get_or (cond b (set rs n r) rs) i fresh_reading) ≡ qs ++ present (cond b (some r) none ∷ [])
unfolding present
more_by true qs rs n r a e = more rs n r (a tt) ∙ ap (λ (q : List Reading). q ++ (r ∷ [])) e
more_by false qs rs n r a e = e ∙ sym (append-nil qs)

pub readings_step : (ls : List Line) (l : Line) (s : Rec) (w : Blocks) → Sizes w → axis_of_rec s ≡ axis_in ls → axis_in (ls ++ (l ∷ [])) ≡ axis_in ls
    → (T (is X (tag_of l)) → s.readings < readings_size) → readings_of w s.readings ≡ readings_in ls
    → readings_of (blocks_after (tag_of l) l s w) (cond (is X (tag_of l)) (s.readings + 1) s.readings) ≡ readings_in (ls ++ (l ∷ []))
unfolding readings_of blocks_after reading_on reading_at position_on
readings_step ls l s w z same longer n e =
    rw (same, readings_snoc ls l longer)
    (more_by (is X (tag_of l)) (readings_in ls) w.readings s.readings _ (λ x. omega (arith, n x, z.readings)) e)
