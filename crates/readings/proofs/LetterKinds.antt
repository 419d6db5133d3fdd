-- A kind read from its letter: whether there is one, and E where there is none.
use mathlib.Core.Path.{◌≡◌, refl, sym, ap}
use mathlib.Core.Bool.{true}
use Prim.Native.Nat.{ℕ}
use Rattle.std.specs.Prelude.{Result, Ok, Err}
use Rattle.std.specs.Result.{is_ok, result_unwrap_or}
use Rattle.meaning.specs.Line.{kind_of_letter, is_kind}
use Rattle.readings.specs.declared.Kind.{Kind}
use Rattle.readings.specs.declared.Kind.TheVariants.{R, C, E}
use Rattle.readings.specs.declared.UnknownKind.{UnknownKind}
use Rattle.readings.specs.Readings.{kind_view, kind_repr, Reads}

any_kind : (k : Kind) → true ≡ is_kind (kind_view k)
any_kind R = refl
any_kind C = refl
any_kind E = refl

pub back : (k : Kind) → kind_repr (kind_view k) ≡ k
back R = refl
back C = refl
back E = refl

pub reads_ok : (letter : ℕ) (r : Result Kind UnknownKind) → Reads letter r → is_ok r ≡ is_kind (kind_of_letter letter)
reads_ok letter (Ok k) h = rw (← h) (any_kind k)
reads_ok letter (Err e) h = ap is_kind h.0

pub reads_kind : (letter : ℕ) (r : Result Kind UnknownKind) → Reads letter r → result_unwrap_or r E ≡ kind_repr (kind_of_letter letter)
reads_kind letter (Ok k) h = rw (← h) (sym (back k))
reads_kind letter (Err e) h = ap kind_repr h.0
