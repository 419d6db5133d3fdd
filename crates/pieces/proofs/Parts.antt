-- Where a line ends in a piece, and that a run fed up to there is the run with these bytes taken at once.
use mathlib.Core.Path.{◌≡◌, refl, ap, sym, ◌∙◌}
use mathlib.Core.Logic.{◌≢◌}
use mathlib.Core.Bool.{Bool, true, false, cond}
use mathlib.Core.List.{List, [], ◌∷◌, ◌++◌, append_assoc, append-nil}
use Prim.Native.Nat.{ℕ, zero, suc, ◌+◌, ◌-◌, ◌≤◌, ◌<◌, min}
use native.Mathlib.Numerals.{add-one}
use native.Mathlib.Omega.{arith}
use lib.Dec.{eqb, ltb}
use lib.ListN.{length, take, get_or, length-append, length-take}
use lib.Seq.{take-suc, get_or-take}
use borrow.Author.Tests.{ne_eqb, eqb-true, eqb-false, lt-ltb, le-ltb, ltb-true, ltb-false}
use Rattle.std.specs.Prelude.{Some, None}
use Rattle.std.specs.List.{position, position_or_len}
use Rattle.std.specs.Option.{unwrap_or}
use Rattle.std.proofs.lemmas.List.Recursion.{is_position_or_len}
use Rattle.lists.specs.Lists.{each_nil, each_cons}
use Rattle.meaning.specs.Line.{Line}
use Rattle.meaning.specs.Calls.{Out}
use Rattle.pieces.specs.Run.{Run, run_of, is_final, applied, longer, fed_byte, fed}
use Rattle.pieces.specs.Parts.{end_at, stepped}
use Rattle.pieces.proofs.Lines.{Endless}
use Rattle.pieces.proofs.Feeding.{fed_append}

-- ---- the place of the first byte 10, or the length
end_step : (b : ℕ) (l : List ℕ) → end_at (b ∷ l) ≡ cond (eqb b 10) 0 (1 + end_at l)
unfolding end_at
end_step b l = let q : suc (end_at l) ≡ 1 + end_at l = omega arith in rw q

end_first : (l : List ℕ) → end_at l ≡ position_or_len (λ b. eqb b 10) l
unfolding end_at
end_first l = is_position_or_len end_at (λ b. eqb b 10) refl end_step l

pub end_within : (l : List ℕ) → end_at l ≤ length l
unfolding end_at
end_within [] = omega arith
end_within (b ∷ l) = go (eqb b 10) (end_within l)
  where
    go : (c : Bool) → end_at l ≤ length l → cond c 0 (suc (end_at l)) ≤ suc (length l)
    go true e = omega arith
    go false e = omega arith

pub end_found : (l : List ℕ) → unwrap_or (position (λ b. eqb b 10) l) (length l) ≡ end_at l
end_found l = rw (end_first l) (go (ltb (position_or_len (λ b. eqb b 10) l) (length l)) refl)
  where
    go : (c : Bool) → ltb (position_or_len (λ b. eqb b 10) l) (length l) ≡ c
        → unwrap_or (cond c (Some (position_or_len (λ b. eqb b 10) l)) None) (length l) ≡ position_or_len (λ b. eqb b 10) l
    go true e = refl
    go false e = omega (arith, ltb-false (position_or_len (λ b. eqb b 10) l) (length l) e, end_within l, end_first l)

-- ---- no byte before the end of the line ends it
pub end_endless : (l : List ℕ) → Endless (take (end_at l) l)
unfolding end_at
end_endless [] = each_nil
end_endless (b ∷ l) = go (eqb b 10) refl (end_endless l)
  where
    go : (c : Bool) → eqb b 10 ≡ c → Endless (take (end_at l) l) → Endless (take (cond c 0 (suc (end_at l))) (b ∷ l))
    go true e r = each_nil
    go false e r = each_cons (eqb-false b 10 e) r

-- where the end is not the input's, byte 10 stands there
pub end_ten : (l : List ℕ) → end_at l < length l → get_or l (end_at l) 0 ≡ 10
unfolding end_at
end_ten [] h = absurd (omega arith)
end_ten (b ∷ l) h = go (eqb b 10) refl h (end_ten l)
  where
    go : (c : Bool) → eqb b 10 ≡ c → cond c 0 (suc (end_at l)) < suc (length l) → (end_at l < length l → get_or l (end_at l) 0 ≡ 10)
        → get_or (b ∷ l) (cond c 0 (suc (end_at l))) 0 ≡ 10
    go true e k r = eqb-true b 10 e
    go false e k r = r (omega arith)

-- ---- pending bytes: their line is applied at its 321st
pub longer_given : (o : Out) (l : Line) → 320 < length l → longer o l ≡ applied o l
unfolding longer
longer_given o l h = rw (lt-ltb 320 (length l) h)

pub longer_held : (o : Out) (l : Line) → length l ≤ 320 → longer o l ≡ run_of o l
unfolding longer
longer_held o l h = rw (le-ltb 320 (length l) h)

pub none_left : (r : Run) (t : List ℕ) → length t ≤ 0 → fed r t ≡ r
unfolding fed
none_left r [] h = refl
none_left r (b ∷ t) h = absurd (omega arith)

-- ---- bytes that end no line
module _ (o : Out) (h : is_final o.answer ≡ false) where
  fed_open : (b : ℕ) (l : Line) → b ≢ 10 → fed_byte (run_of o l) b ≡ longer o (l ++ (b ∷ []))
  unfolding fed_byte
  fed_open b l n = rw (h, ne_eqb b 10 n)

  fed_held : (b : ℕ) (l : Line) → b ≢ 10 → length l < 320 → fed_byte (run_of o l) b ≡ run_of o (l ++ (b ∷ []))
  fed_held b l n k = fed_open b l n ∙ longer_held o (l ++ (b ∷ [])) (omega (arith, length-append l (b ∷ [])))

  -- the last of them may be the 321st
  pub fed_longer : (p : List ℕ) (l : Line) → Endless p → 0 < length p → length l + length p ≤ 321 → fed (run_of o l) p ≡ longer o (l ++ p)
  unfolding fed
  fed_longer [] l e z k = absurd (omega arith)
  fed_longer (b ∷ []) l (each_cons n e) z k = fed_open b l n
  fed_longer (b ∷ d ∷ p) l (each_cons n e) z k =
      rw (fed_held b l n (omega arith))
      (fed_longer (d ∷ p) (l ++ (b ∷ [])) e (omega arith) (omega (arith, length-append l (b ∷ []))) ∙ ap (longer o) (append_assoc l (b ∷ []) (d ∷ p)))

  pub fed_begun : (p : List ℕ) (l : Line) → Endless p → length l + length p ≤ 320 → fed (run_of o l) p ≡ run_of o (l ++ p)
  unfolding fed
  fed_begun [] l e k = rw (append-nil l)
  fed_begun (b ∷ p) l (each_cons n e) k =
      rw (fed_held b l n (omega arith))
      (fed_begun p (l ++ (b ∷ [])) e (omega (arith, length-append l (b ∷ []))) ∙ ap (run_of o) (append_assoc l (b ∷ []) p))

  fed_end : (l : Line) → fed (run_of o l) (10 ∷ []) ≡ applied o l
  unfolding fed fed_byte
  fed_end l = rw h

  pub fed_line : (p : List ℕ) (l : Line) → Endless p → length l + length p ≤ 320 → fed (run_of o l) (p ++ (10 ∷ [])) ≡ applied o (l ++ p)
  fed_line p l e k = fed_append (run_of o l) p (10 ∷ []) ∙ rw (fed_begun p l e k) (fed_end (l ++ p))

-- ---- up to the end of the line, its 321st byte, or the end of the piece
take_within : (e n : ℕ) (t : List ℕ) → e ≤ n → take e (take n t) ≡ take e t
take_within zero n t h = refl
take_within (suc e) zero t h = absurd (omega arith)
take_within (suc e) (suc n) [] h = refl
take_within (suc e) (suc n) (b ∷ t) h = ap (λ (x : List ℕ). b ∷ x) (take_within e n t (omega arith))

module _ (o : Out) (l : Line) (t : List ℕ) (k n e : ℕ) (unanswered : is_final o.answer ≡ false) (short : length l ≤ k) (few : k ≤ 320)
    (some_left : 0 < length t) (limit : n ≡ min (321 - k) (length t)) (end : e ≡ end_at (take n t)) where
  cut : length (take n t) ≡ n
  cut = length-take n t ∙ omega arith

  within : e ≤ n
  within = omega (arith, end_within (take n t), cut)

  part : Endless (take e t)
  part = rw (← take_within e n t within, end) (end_endless (take n t))

  ends : e < n → fed (run_of o l) (take (e + 1) t) ≡ applied o (l ++ take e t)
  ends h =
      let b : get_or t e 0 ≡ 10 = sym (get_or-take n t e 0 h) ∙ rw end (end_ten (take n t) (omega (arith, end, cut))) in
      rw (add-one e, take-suc t e 0 (omega arith), b) (fed_line o unanswered (take e t) l part (omega (arith, length-take e t)))

  stays : n ≤ e → fed (run_of o l) (take e t) ≡ longer o (l ++ take e t)
  stays h = fed_longer o unanswered (take e t) l part (omega (arith, length-take e t, within)) (omega (arith, length-take e t, within))

  pub turn_fed : fed (run_of o l) (take (min (e + 1) n) t) ≡ stepped (ltb e n) (run_of o l) (take e t)
  unfolding stepped
  turn_fed = go (ltb e n) refl
    where
      go : (b : Bool) → ltb e n ≡ b → fed (run_of o l) (take (min (e + 1) n) t) ≡ stepped b (run_of o l) (take e t)
      go true h = let q : min (e + 1) n ≡ e + 1 = omega (arith, ltb-true e n h) in rw q (ends (ltb-true e n h))
      go false h = let q : min (e + 1) n ≡ e = omega (arith, ltb-false e n h, within) in rw q (stays (ltb-false e n h))
