use mathlib.Core.Path.{◌≡◌, refl, sym, ◌∙◌}
use mathlib.Core.Bool.{Bool, true, false, ◌&&◌, ◌||◌}
use Prim.Native.Nat.{zero-le}
use lib.Dec.{leb, eqb}
use borrow.Author.Tests.{le-leb}
use Rattle.std.proofs.Common.{rules}
use Rattle.lists.proofs.Tests.{and_assoc}
use Rattle.calendar.specs.Dates.{all_winter_dates, all_dates}
use Rattle.meaning.specs.Record.{each_year, is_within, tallies_fit}
use Rattle.progress.proofs.Spans.{history_ends, axis_ends}
use Rattle.progress.proofs.by_year.tallies_fit.Goals as goal
use Rattle.progress.proofs.by_year.tallies_fit.Goals.{then-each_year, else-each_year, then-each_year-2, else-each_year-2}

-- a test that is tried only where the first holds
both_then : (v r a b : Bool) → a ≡ true → v ≡ r → r ≡ b → v ≡ (a && b)
both_then v r a b h e f = rw h (e ∙ f)

both_else : (v a b : Bool) → a ≡ false → v ≡ a → v ≡ (a && b)
both_else v a b h e = rw h (e ∙ h)

last_then : (r a b c d : Bool) → ((a && b) && c) ≡ true → r ≡ d → r ≡ (a && (b && (c && d)))
last_then r a b c d h e = both_then r d ((a && b) && c) d h e refl ∙ and_assoc (a && b) c d ∙ and_assoc a b (c && d)

last_else : (v a b c d : Bool) → ((a && b) && c) ≡ false → v ≡ ((a && b) && c) → v ≡ (a && (b && (c && d)))
last_else v a b c d h e = both_else v ((a && b) && c) d h e ∙ and_assoc (a && b) c d ∙ and_assoc a b (c && d)

pub returns-then-each_year-3 : goal.returns-then-each_year-3
unfolding tallies_fit is_within
returns-then-each_year-3 c =
    let h = c.history-h.result in
    let s = c.axis-around.result in
    let t = c.args.tallies.now in
    let A = each_year h (λ y n. leb n (all_winter_dates y)) t.profile_dates in
    let B = each_year s (λ y n. leb n (all_dates y)) t.daily_dates in
    let C = each_year h (λ y n. leb n 1) t.breaks in
    let D = each_year h (λ y n. eqb n 0 || is_within 10 1000 n) t.rates in
    let ends = history_ends h _ _ c.history-h.ensures in
    let a : c.each_year.result ≡ A =
    c.each_year.ensures (λ y n. leb n (all_winter_dates y)) (record { says = λ y n b p q r. search rules; zero = λ y. le-leb 0 _ zero-le }) ends in
    let b : c.if-each_year.value ≡ (A && B) =
    elim c.if-each_year.branch [
      | then-each_year w ↦
          both_then _ _ A B (sym a ∙ w.if-each_year.true) w.value-is
          (w.each_year-then-each_year.ensures (λ y n. leb n (all_dates y)) (record { says = λ y n b p q r. search rules; zero = λ y. le-leb 0 _ zero-le }) (axis_ends s _ _ c.axis-around.ensures))
      | else-each_year w ↦ both_else _ A B (sym a ∙ w.if-each_year.false) (w.value-is ∙ a)
    ] in
    let d : c.if-each_year-2.value ≡ ((A && B) && C) =
    elim c.if-each_year-2.branch [
      | then-each_year-2 w ↦
          both_then _ _ (A && B) C (sym b ∙ w.if-each_year-2.true) w.value-is
          (w.each_year-then-each_year-2.ensures (λ y n. leb n 1) (record { says = λ y n b p q r. search rules; zero = λ y. refl }) ends)
      | else-each_year-2 w ↦ both_else _ (A && B) C (sym b ∙ w.if-each_year-2.false) (w.value-is ∙ b)
    ] in
    rw (← c.axis-around.ensures, ← c.history-h.ensures)
    (last_then _ A B C D (sym d ∙ c.if-each_year-3.true)
    (c.each_year-then-each_year-3.ensures (λ y n. eqb n 0 || is_within 10 1000 n) (record { says = λ y n b p q r. search rules; zero = λ y. refl }) ends))

pub returns-else-each_year-3 : goal.returns-else-each_year-3
unfolding tallies_fit is_within
returns-else-each_year-3 c =
    let h = c.history-h.result in
    let s = c.axis-around.result in
    let t = c.args.tallies.now in
    let A = each_year h (λ y n. leb n (all_winter_dates y)) t.profile_dates in
    let B = each_year s (λ y n. leb n (all_dates y)) t.daily_dates in
    let C = each_year h (λ y n. leb n 1) t.breaks in
    let D = each_year h (λ y n. eqb n 0 || is_within 10 1000 n) t.rates in
    let ends = history_ends h _ _ c.history-h.ensures in
    let a : c.each_year.result ≡ A =
    c.each_year.ensures (λ y n. leb n (all_winter_dates y)) (record { says = λ y n b p q r. search rules; zero = λ y. le-leb 0 _ zero-le }) ends in
    let b : c.if-each_year.value ≡ (A && B) =
    elim c.if-each_year.branch [
      | then-each_year w ↦
          both_then _ _ A B (sym a ∙ w.if-each_year.true) w.value-is
          (w.each_year-then-each_year.ensures (λ y n. leb n (all_dates y)) (record { says = λ y n b p q r. search rules; zero = λ y. le-leb 0 _ zero-le }) (axis_ends s _ _ c.axis-around.ensures))
      | else-each_year w ↦ both_else _ A B (sym a ∙ w.if-each_year.false) (w.value-is ∙ a)
    ] in
    let d : c.if-each_year-2.value ≡ ((A && B) && C) =
    elim c.if-each_year-2.branch [
      | then-each_year-2 w ↦
          both_then _ _ (A && B) C (sym b ∙ w.if-each_year-2.true) w.value-is
          (w.each_year-then-each_year-2.ensures (λ y n. leb n 1) (record { says = λ y n b p q r. search rules; zero = λ y. refl }) ends)
      | else-each_year-2 w ↦ both_else _ (A && B) C (sym b ∙ w.if-each_year-2.false) (w.value-is ∙ b)
    ] in
    rw (← c.axis-around.ensures, ← c.history-h.ensures)
    (last_else _ A B C D (sym d ∙ c.if-each_year-3.false) d)
