-- Laws of text put into bytes.
use mathlib.Core.Path.{◌≡◌, refl, ap, sym, ◌∙◌}
use mathlib.Core.Bool.{Bool, true, false}
use mathlib.Core.List.{List, ◌++◌, append_assoc}
use Prim.Native.Nat.{ℕ, ◌+◌, ◌≤◌, ◌<◌}
use native.Mathlib.Omega.{arith}
use lib.Dec.{leb}
use lib.ListN.{length, take, drop, length-append, length-take, length-drop}
use lib.Seq.{take_at, drop_at, drop-drop}
use borrow.Author.Tests.{le-leb, lt-leb, leb-true, leb-false}
use Rattle.text.specs.Written.{written, place_after}

module _ (w : List ℕ) (a : ℕ) (s : List ℕ) where
  pub written_fits : a + length s ≤ length w → written w a s ≡ take a w ++ (s ++ drop (a + length s) w)
  unfolding written
  written_fits h = simp (le-leb _ _ h)

  pub written_out : length w < a + length s → written w a s ≡ w
  unfolding written
  written_out h = simp (lt-leb _ _ h)

  pub place_fits : a + length s ≤ length w → place_after w a s ≡ a + length s
  unfolding place_after
  place_fits h = simp (le-leb _ _ h)

-- ---- for callers: the bytes stay as many, and one text after another is both at once
pub length_written : (w : List ℕ) (a : ℕ) (s : List ℕ) → length (written w a s) ≡ length w
length_written w a s = go (leb (a + length s) (length w)) refl
  where
    go : (b : Bool) → leb (a + length s) (length w) ≡ b → length (written w a s) ≡ length w
    go true e =
        let h : a + length s ≤ length w = leb-true (a + length s) (length w) e in
        rw (written_fits w a s h) (simp (length-append, length-take, length-drop) (omega arith))
    go false e = rw (written_out w a s (leb-false (a + length s) (length w) e))

module _ (w : List ℕ) (a : ℕ) (s : List ℕ) (h : a + length s ≤ length w) where
  head_length : length (take a w ++ s) ≡ a + length s
  head_length = simp (length-append, length-take) (omega arith)

  -- what stands up to the place after a text
  pub take_written : take (a + length s) (written w a s) ≡ take a w ++ s
  take_written = rw (written_fits w a s h, ← append_assoc (take a w) s (drop (a + length s) w)) (take_at (take a w ++ s) (drop (a + length s) w) (a + length s) head_length)

  -- what stands past it stays
  pub drop_written : drop (a + length s) (written w a s) ≡ drop (a + length s) w
  drop_written = rw (written_fits w a s h, ← append_assoc (take a w) s (drop (a + length s) w)) (drop_at (take a w ++ s) (drop (a + length s) w) (a + length s) head_length)

module _ (w : List ℕ) (a : ℕ) (s u : List ℕ) (h : a + length (s ++ u) ≤ length w) where
  fits_first : a + length s ≤ length w
  fits_first = omega (arith, length-append s u)

  fits_next : a + length s + length u ≤ length (written w a s)
  fits_next = omega (arith, length-append s u, length_written w a s)

  drop_next : drop (a + length s + length u) (written w a s) ≡ drop (a + length s + length u) w
  drop_next =
      sym (drop-drop (length u) (a + length s) (written w a s))
      ∙ ap (λ (r : List ℕ). drop (length u) r) (drop_written w a s fits_first)
      ∙ drop-drop (length u) (a + length s) w

  pub written_next : written (written w a s) (place_after w a s) u ≡ written w a (s ++ u)
  written_next =
      let n : a + length (s ++ u) ≡ a + length s + length u = omega (arith, length-append s u) in
      let left = written_fits (written w a s) (a + length s) u fits_next in
      let right = written_fits w a (s ++ u) h in
      rw (place_fits w a s fits_first, left, right, take_written w a s fits_first, drop_next, n) (simp append_assoc)
