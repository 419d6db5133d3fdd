-- A run and the next line of its piece: the line is applied and the rest is left, or there is none, and what is left is pending.
use mathlib.Core.Path.{◌≡◌, refl, ap, sym, ◌∙◌}
use mathlib.Core.Bool.{Bool, true, false, ◌||◌, true≢false}
use mathlib.Core.List.{List, [], ◌∷◌}
use Prim.Native.Nat.{ℕ, ◌+◌, ◌≤◌, ◌<◌, min}
use native.Mathlib.Omega.{arith}
use lib.Dec.{ltb}
use lib.ListN.{length, take, drop, length-take, length-drop, take-append-drop}
use lib.Seq.{take_all}
use borrow.Author.Tests.{ltb-true, ltb-false}
use Rattle.meaning.specs.Line.{Line}
use Rattle.meaning.specs.Calls.{Out, line_of}
use Rattle.pieces.specs.Run.{run_of, is_final, applied, fed}
use Rattle.pieces.specs.Parts.{stepped}
use Rattle.pieces.specs.NextLines.{limit_in, bytes_in, has_line, IsNext}
use Rattle.pieces.proofs.Feeding.{fed_append, kept}
use Rattle.pieces.proofs.Parts.{end_within, longer_given, longer_held, none_left, turn_fed}

-- ---- a run and its next line
empty : (l : List ℕ) → length l ≤ 0 → l ≡ []
empty [] h = refl
empty (b ∷ l) h = absurd (omega arith)

module _ (bs : List ℕ) where
  abbrev n : ℕ
  n = limit_in bs

  abbrev e : ℕ
  e = bytes_in bs

  within : e ≤ n
  within = omega (arith, end_within (take n bs), length-take n bs)

  -- a whole line has a byte
  some_left : (b : Bool) → ltb e n ≡ b → (b || ltb 320 e) ≡ true → 0 < n
  some_left true q k = omega (arith, ltb-true e n q)
  some_left false q k = omega (arith, ltb-true 320 e k, within)

  pub shorter : (line : Line) (rest : List ℕ) → IsNext line rest bs → length rest < length bs
  shorter line rest next = rw next.after (omega (arith, length-drop (min (e + 1) n) bs, some_left (ltb e n) refl next.whole))

  module _ (O : Out) (going : is_final O.answer ≡ false) where
    stepped_given : (b : Bool) → ltb e n ≡ b → (b || ltb 320 e) ≡ true → stepped b (run_of O []) (take e bs) ≡ run_of (line_of O.after (take e bs) O.blocks) []
    unfolding stepped applied
    stepped_given true h k = refl
    stepped_given false h k = longer_given O (take e bs) (omega (arith, length-take e bs, ltb-true 320 e k, within))

    line_given : has_line bs ≡ true → fed (run_of O []) bs ≡ fed (run_of (line_of O.after (take e bs) O.blocks) []) (drop (min (e + 1) n) bs)
    line_given h =
        ap (fed (run_of O [])) (sym (take-append-drop (min (e + 1) n) bs))
        ∙ fed_append (run_of O []) (take (min (e + 1) n) bs) (drop (min (e + 1) n) bs)
        ∙ rw (turn_fed O [] bs 0 n e going (omega arith) (omega arith) (omega (arith, some_left (ltb e n) refl h)) refl refl, stepped_given (ltb e n) refl h) refl

    pub line_begun : has_line bs ≡ false → run_of O bs ≡ fed (run_of O []) bs
    unfolding stepped
    line_begun h = sym (go (ltb 0 (length bs)) refl (ltb e n) refl h)
      where
        go : (x : Bool) → ltb 0 (length bs) ≡ x → (b : Bool) → ltb e n ≡ b → (b || ltb 320 e) ≡ false → fed (run_of O []) bs ≡ run_of O bs
        go x p true q k = absurd (true≢false k)
        go false p false q k = none_left (run_of O []) bs (ltb-false 0 (length bs) p) ∙ ap (run_of O) (sym (empty bs (ltb-false 0 (length bs) p)))
        go true p false q k =
            let z : e ≡ length bs = omega (arith, ltb-false e n q, ltb-false 320 e k, within) in
            let y : take e bs ≡ bs = take_all e bs (omega (arith, z)) in
            let x : min (e + 1) n ≡ e = omega (arith, ltb-false e n q, within) in
            let u : fed (run_of O []) (take (min (e + 1) n) bs) ≡ stepped (ltb e n) (run_of O []) (take e bs) = turn_fed O [] bs 0 n e going (omega arith) (omega arith) (ltb-true 0 (length bs) p) refl refl in
            let v : fed (run_of O []) bs ≡ stepped false (run_of O []) bs = rw (x, q, y) at u in
            v ∙ longer_held O bs (omega (arith, z, ltb-false 320 e k))

    -- the run after the line, and what follows it
    pub line_on : (line : Line) (rest : List ℕ) → IsNext line rest bs → (O' : Out) → O' ≡ line_of O.after line O.blocks → fed (run_of O' []) rest ≡ fed (run_of O []) bs
    line_on line rest next O' called = rw (called, next.bytes, next.after) (sym (line_given next.whole))

-- once there is a final answer
pub kept_final : (O : Out) (bs : List ℕ) → is_final O.answer ≡ true → run_of O [] ≡ fed (run_of O []) bs
kept_final O bs h = sym (kept (run_of O []) bs h)
