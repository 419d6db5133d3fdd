-- A piece: the pending line goes on or is applied, and what is left after the lines applied is pending.
use mathlib.Core.Path.{◌≡◌, refl, ap, sym, ◌∙◌}
use mathlib.Core.Bool.{Bool, true, false, ◌||◌, cond}
use mathlib.Core.List.{List, [], ◌∷◌, ◌++◌}
use Prim.Native.Nat.{ℕ, ◌+◌, ◌-◌, ◌≤◌, ◌<◌, min}
use native.Mathlib.Omega.{arith}
use lib.Dec.{eqb, ltb}
use lib.ListN.{length, take, drop, length-append, length-take, take-append-drop}
use lib.Seq.{take_all}
use borrow.Author.Tests.{eqb-true, ltb-true, ltb-false}
use Rattle.std.proofs.Common.{subst, ◌==◌}
use Rattle.lists.proofs.Tests.{or_parts}
use Rattle.text.specs.Written.{written}
use Rattle.text.proofs.Written.{length_written, take_written}
use Rattle.text.proofs.Laws.{rest_of_lem}
use Rattle.meaning.specs.Line.{Line}
use Rattle.meaning.specs.Calls.{Out, line_of}
use Rattle.pieces.specs.Run.{Run, run_of, is_final, applied, longer, fed_byte, fed}
use Rattle.pieces.specs.Parts.{stepped}
use Rattle.pieces.proofs.Lines.{Endless}
use Rattle.pieces.proofs.Feeding.{fed_append}
use Rattle.pieces.proofs.Parts.{end_endless, longer_given, fed_begun, turn_fed}
use Rattle.pieces.specs.declared.joining.Pending.{Pending}
use Rattle.pieces.specs.declared.joining.Joined.TheVariants.{Whole, Begun}
use Rattle.pieces.specs.Joined.{held_of, limit_of, added_of, pending_line, joined_of}
use Rattle.pieces.proofs.Joins.{bytes_fit}

-- ---- the pending line is short
longer_short : (o : Out) (l : Line) → length (longer o l).pending ≤ 320
unfolding longer applied
longer_short o l = go (ltb 320 (length l)) refl
  where
    go : (b : Bool) → ltb 320 (length l) ≡ b → length (cond b (run_of (line_of o.after l o.blocks) []) (run_of o l)).pending ≤ 320
    go true e = omega arith
    go false e = ltb-false 320 (length l) e

byte_short : (r : Run) (b : ℕ) → length r.pending ≤ 320 → length (fed_byte r b).pending ≤ 320
unfolding fed_byte applied
byte_short r b h = go (is_final r.out.answer) (eqb b 10)
  where
    go : (x y : Bool) → length (cond x r (cond y (run_of (line_of r.out.after r.pending r.out.blocks) []) (longer r.out (r.pending ++ (b ∷ []))))).pending ≤ 320
    go true y = h
    go false true = omega arith
    go false false = longer_short r.out (r.pending ++ (b ∷ []))

fed_short : (bs : List ℕ) (r : Run) → length r.pending ≤ 320 → length (fed r bs).pending ≤ 320
unfolding fed
fed_short [] r h = h
fed_short (b ∷ bs) r h = fed_short bs (fed_byte r b) (byte_short r b h)

-- ---- what is left of a piece is held
pub rest_fed : (a o : Out) (rest bs l : List ℕ) → run_of a rest ≡ fed (run_of o []) bs → l ≡ take 320 rest → run_of a l ≡ fed (run_of o []) bs
rest_fed a o rest bs l q e =
    let short : length rest ≤ 320 = subst (λ (x : Run). length x.pending ≤ 320) (sym q) (fed_short bs (run_of o []) (omega arith)) in
    rw (e, take_all 320 rest short) q

-- ---- the pending line

-- with a piece t
module _ (p : Pending) (t : List ℕ) where
  abbrev k : ℕ
  k = held_of p.held

  abbrev n : ℕ
  n = limit_of p.held t

  abbrev e : ℕ
  e = added_of p.held t

  abbrev more : List ℕ
  more = written p.line k (take e t)

  fits : (n ≤ length t) × (e ≤ n) × (k + e ≤ 321)
  fits = bytes_fit t p.held k n e refl refl refl

  joined_by : (b : Bool) → (ltb e n || ltb 320 (k + e)) ≡ b → joined_of p t ≡ cond b (Whole more (k + e) (min (e + 1) n)) (Begun (record { line = more; held = k + e }))
  unfolding joined_of
  joined_by b g = rw g

  -- where it is not whole, what is held; where it is, its bytes and what is used up
  begun : (b : Bool) → (ltb e n || ltb 320 (k + e)) ≡ b → (q : Pending) → joined_of p t ≡ Begun q → (b ≡ false) × (q ≡ record { line = more; held = k + e })
  begun true g q j = let z : Whole more (k + e) (min (e + 1) n) ≡ Begun q = sym (joined_by true g) ∙ j in absurd (cc)
  begun false g q j = let z : Begun (record { line = more; held = k + e }) ≡ Begun q = sym (joined_by false g) ∙ j in (refl, cc)

  pub record IsWhole (line : List ℕ) (bytes used : ℕ) : Type 0 where
    pub test : (ltb e n || ltb 320 (k + e)) ≡ true
    pub line_is : line ≡ more
    pub bytes_is : bytes ≡ k + e
    pub used_is : used ≡ min (e + 1) n

  whole : (b : Bool) → (ltb e n || ltb 320 (k + e)) ≡ b → (line : List ℕ) (bytes used : ℕ) → joined_of p t ≡ Whole line bytes used → IsWhole line bytes used
  whole false g line bytes used j = let z : Begun (record { line = more; held = k + e }) ≡ Whole line bytes used = sym (joined_by false g) ∙ j in absurd (cc)
  whole true g line bytes used j =
      let z : Whole more (k + e) (min (e + 1) n) ≡ Whole line bytes used = sym (joined_by true g) ∙ j in
      record { test = g; line_is = cc; bytes_is = cc; used_is = cc }

  pub join_whole : (line : List ℕ) (bytes used : ℕ) → joined_of p t ≡ Whole line bytes used → IsWhole line bytes used
  join_whole = whole (ltb e n || ltb 320 (k + e)) refl

  pub join_fits : (line : List ℕ) (bytes used : ℕ) → joined_of p t ≡ Whole line bytes used → (length line ≡ length p.line) × (bytes ≤ 321) × (used ≤ length t)
  join_fits line bytes used j =
      let w = join_whole line bytes used j in
      (rw w.line_is (length_written p.line k (take e t)), omega (arith, w.bytes_is, fits), omega (arith, w.used_is, fits))

  bytes_are : length (take e t) ≡ e
  bytes_are = omega (arith, length-take e t, fits)

  module _ (O : Out) (long : length p.line ≡ 321) (unanswered : is_final O.answer ≡ false) where
    begun_is : take (k + e) (written p.line k (take e t)) ≡ take k p.line ++ take e t
    begun_is = rw bytes_are at (take_written p.line k (take e t) (omega (arith, bytes_are, fits)))

    carried_on : (ltb e n || ltb 320 (k + e)) ≡ false → run_of O (take (min (k + e) 320) (written p.line k (take e t))) ≡ fed (run_of O (take k p.line)) t
    carried_on g =
        let x = or_parts (ltb e n) (ltb 320 (k + e)) g in
        let z : e ≡ length t = omega (arith, ltb-false e n x.0, ltb-false 320 (k + e) x.1, fits) in
        let m : min (k + e) 320 ≡ k + e = omega (arith, ltb-false 320 (k + e) x.1) in
        let a : take e t ≡ t = take_all e t (omega arith) in
        let b : take n t ≡ t = take_all n t (omega (arith, fits)) in
        let u : Endless (take e (take n t)) = end_endless (take n t) in
        let q : take e (take n t) ≡ t = ap (take e) b ∙ a in
        let w : Endless t = rw q at u in
        rw (m, begun_is, a) (sym (fed_begun O unanswered t (take k p.line) w (omega (arith, length-take k p.line, ltb-false 320 (k + e) x.1))))

    stepped_given : (b : Bool) → ltb e n ≡ b → (b || ltb 320 (k + e)) ≡ true → stepped b (run_of O (take k p.line)) (take e t) ≡ applied O (take k p.line ++ take e t)
    unfolding stepped
    stepped_given true u v = refl
    stepped_given false u v =
        longer_given O (take k p.line ++ take e t) (omega (arith, length-append (take k p.line) (take e t), length-take k p.line, bytes_are, ltb-true 320 (k + e) v))

    some_left : (b : Bool) → ltb e n ≡ b → (b || ltb 320 (k + e)) ≡ true → 0 < length t
    some_left true u v = omega (arith, ltb-true e n u, fits)
    some_left false u v = omega (arith, ltb-true 320 (k + e) v, fits)

    carried : (ltb e n || ltb 320 (k + e)) ≡ true → (o' : Out) → o' ≡ line_of O.after (take (k + e) (written p.line k (take e t))) O.blocks
        → fed (run_of o' []) (drop (min (e + 1) n) t) ≡ fed (run_of O (take k p.line)) t
    unfolding applied
    carried g o' q =
        let s : 0 < length t = some_left (ltb e n) refl g in
        let f : fed (run_of O (take k p.line)) (take (min (e + 1) n) t) ≡ run_of o' [] =
        rw (turn_fed O (take k p.line) t k n e unanswered (omega (arith, length-take k p.line)) (omega arith) s refl refl, stepped_given (ltb e n) refl g, q, begun_is) in
        rw (← f) (sym (fed_append (run_of O (take k p.line)) (take (min (e + 1) n) t) (drop (min (e + 1) n) t)) ∙ ap (fed (run_of O (take k p.line))) (take-append-drop (min (e + 1) n) t))

    -- it goes on, or is applied and the rest of the piece follows
    pub join_on : (q : Pending) → joined_of p t ≡ Begun q → run_of O (pending_line q) ≡ fed (run_of O (pending_line p)) t
    join_on q j =
        let b = begun (ltb e n || ltb 320 (k + e)) refl q j in
        rw b.1 (carried_on b.0)

    pub join_given : (line : List ℕ) (bytes used : ℕ) → joined_of p t ≡ Whole line bytes used → (o' : Out) → o' ≡ line_of O.after (take bytes line) O.blocks
        → fed (run_of o' []) (take (length t - used) (drop used t)) ≡ fed (run_of O (pending_line p)) t
    join_given line bytes used j o' q =
        let w = join_whole line bytes used j in
        ap (fed (run_of o' [])) (rest_of_lem t used) ∙ rw w.used_is (carried w.test o' (rw (w.line_is, w.bytes_is) at q))

-- ---- nothing is pending
pub none_begun : (O : Out) (p : Pending) → (p.held == 0) ≡ true → run_of O (pending_line p) ≡ run_of O []
none_begun O p z = rw (eqb-true p.held 0 z)
