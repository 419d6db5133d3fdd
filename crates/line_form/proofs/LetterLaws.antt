-- Laws of the letters of tags, meters and kinds.
use mathlib.Core.Path.{◌≡◌, refl}
use mathlib.Core.List.{List, [], ◌∷◌}
use Prim.Native.Nat.{ℕ}
use native.Mathlib.Omega.{arith}
use lib.ListN.{length, get_or}
use Rattle.std.specs.Prelude.{Option, Some, None, Result, Ok, Err}
use Rattle.std.specs.Result.{result_ok}
use Rattle.meaning.specs.Filing.{Meter, no_meter, curve_meter, index_meter, no_kind}
use Rattle.meaning.specs.Line.{other, tag_of_field, tag_of_letter, meter_of, meter_of_letter, kind_of, kind_of_letter}
use Rattle.readings.specs.declared.Kind.{Kind}
use Rattle.readings.specs.declared.Kind.TheVariants.{R, C, E}
use Rattle.readings.specs.declared.UnknownKind.{UnknownKind}
use Rattle.readings.specs.Readings.{kind_view, Reads}
use Rattle.line_form.specs.declared.Meter as form
use Rattle.line_form.specs.declared.Meter.TheVariants.{Curve, Index}
use Rattle.line_form.specs.Views.{meter_view, meter_repr}
use Rattle.line_form.specs.Reads.{kind_where}

-- a meter is recovered from its form in the code
pub shown : (m : Meter) → meter_view (meter_repr m) ≡ m
shown no_meter = refl
shown curve_meter = refl
shown index_meter = refl

-- and the other way
pub meter_back : (m : Option form.Meter) → meter_repr (meter_view m) ≡ m
meter_back None = refl
meter_back (Some Curve) = refl
meter_back (Some Index) = refl

-- a kind is read from its letter
some_kind : (k : Kind) → Some k ≡ kind_where (kind_view k)
unfolding kind_where
some_kind R = refl
some_kind C = refl
some_kind E = refl

pub kind_known : (letter : ℕ) (r : Result Kind UnknownKind) → Reads letter r → result_ok r ≡ kind_where (kind_of_letter letter)
unfolding kind_where
kind_known letter (Ok k) h = rw (← h) (some_kind k)
kind_known letter (Err e) h = rw (← h.0)

-- ---- a field of a single byte, and any other
one_byte : (f : List ℕ) → length f ≡ 1 → f ≡ get_or f 0 0 ∷ []
one_byte [] h = absurd (omega arith)
one_byte (b ∷ []) h = refl
one_byte (b ∷ c ∷ f) h = absurd (omega arith)

not_one : {A : Type 0} (g : List ℕ → A) (d : A) → g [] ≡ d → ((b c : ℕ) (f : List ℕ) → g (b ∷ c ∷ f) ≡ d) → (f : List ℕ) → (length f ≡ 1 → ⊥) → g f ≡ d
not_one g d none more [] h = none
not_one g d none more (b ∷ []) h = absurd (h refl)
not_one g d none more (b ∷ c ∷ f) h = more b c f

pub tag_one : (f : List ℕ) → length f ≡ 1 → tag_of_field f ≡ tag_of_letter (get_or f 0 0)
unfolding tag_of_field
tag_one f h = rw (one_byte f h)

pub tag_none : (f : List ℕ) → (length f ≡ 1 → ⊥) → tag_of_field f ≡ other
unfolding tag_of_field
tag_none f h = not_one tag_of_field other refl (λ b c g. refl) f h

pub meter_one : (f : List ℕ) → length f ≡ 1 → meter_of f ≡ meter_of_letter (get_or f 0 0)
unfolding meter_of
meter_one f h = rw (one_byte f h)

pub meter_none : (f : List ℕ) → (length f ≡ 1 → ⊥) → meter_of f ≡ no_meter
unfolding meter_of
meter_none f h = not_one meter_of no_meter refl (λ b c g. refl) f h

pub kind_one : (f : List ℕ) → length f ≡ 1 → kind_of f ≡ kind_of_letter (get_or f 0 0)
unfolding kind_of
kind_one f h = rw (one_byte f h)

pub kind_none : (f : List ℕ) → (length f ≡ 1 → ⊥) → kind_of f ≡ no_kind
unfolding kind_of
kind_none f h = not_one kind_of no_kind refl (λ b c g. refl) f h
