-- The readings stay in range and in order: a new one is at a later position, and its index is not lower.
use mathlib.Core.Path.{◌≡◌, refl, ap, sym, ◌∙◌}
use mathlib.Core.Bool.{Bool, true, false, not, ◌&&◌, cond}
use mathlib.Core.List.{List, [], ◌∷◌, ◌++◌, map, append-nil}
use mathlib.Core.Option
use mathlib.Core.Option.{Option, some, none}
use Prim.Native.Nat.{ℕ, ◌≤◌, ◌<◌}
use native.Mathlib.Omega.{arith}
use lib.Dec.{T, leb, ltb, le→leb, lt→ltb, nltb→le}
use Rattle.lists.specs.Lists.{all, or_else, latest, present, Each}
use Rattle.lists.proofs.Laws.{paired}
use Rattle.lists.proofs.Tables.{all_snoc, each_both, neighbours_snoc, latest_present, latest_some, latest_map}
use Rattle.lists.proofs.Tests.{and_parts, and_made}
use Rattle.calendar.specs.declared.Years.{Years}
use Rattle.calendar.specs.Places.{has_date}
use Rattle.calendar.specs.Spans.{among, position_of, year_at, place_at}
use Rattle.calendar.proofs.Laws.Positions.{among_words}
use Rattle.text.specs.Fields.{field_at}
use Rattle.meaning.specs.Filing.{Reading, reading}
use Rattle.meaning.specs.Line.{Line, X, is, tag_of, most_index, number_at, year_on, month_on, day_on, kind_of, is_kind, place_on}
use Rattle.meaning.specs.Refusals.{falling, holds}
use Rattle.meaning.specs.File.{axis_in, last_index_in, before_in, refusal_at, reading_on, readings_in}
use Rattle.meaning.specs.Record.{reading_fits, readings_fit}
use Rattle.meaning.specs.Calls.{position_on}
use Rattle.meaning.proofs.Passed.{passed}
use Rattle.meaning.proofs.Accepted.{AxisLine}
use Rattle.demands.proofs.Held.Parts.{Dated}
use Rattle.demands.proofs.Held.Earlier.{Short, short_key, date_key_lem}
use Rattle.demands.proofs.Held.Contents.{axis_placed}
use Rattle.demands.proofs.Held.Readings.{readings_snoc}

-- what an X line says, as a reading on the axis
abbrev said : Years → Line → Reading
said axis l = reading (position_on axis l) (number_at l 4) (kind_of (field_at l 5))

said_fits : (axis : Years) (l : Line) → AxisLine axis most_index l → T (is_kind (kind_of (field_at l 5))) → T (reading_fits axis (said axis l))
unfolding reading_fits
said_fits axis l a k =
    let p = axis_placed a in
    and_made (among axis (year_at axis (position_on axis l)) && has_date (year_at axis (position_on axis l)) (place_at (position_on axis l))) _
    (and_made (among axis (year_at axis (position_on axis l))) _ p.year p.date)
    (and_made (leb (number_at l 4) most_index) (is_kind (kind_of (field_at l 5))) (le→leb (number_at l 4) most_index a.number) k)

-- ---- the last reading before: of a line whose date is earlier
said_by : (axis : Years) (m : Line) (z : Reading) → reading_on axis m ≡ some z → T (is X (tag_of m)) × (position_on axis m ≡ z.position)
unfolding reading_on position_on
said_by axis m z e = go (is X (tag_of m)) e
  where
    go : (b : Bool) → cond b (some (reading (position_of axis (year_on m) (month_on m) (day_on m)) (number_at m 4) (kind_of (field_at m 5)))) none ≡ some z
        → T b × (position_of axis (year_on m) (month_on m) (day_on m) ≡ z.position)
    go true h = (tt, ap (λ (r : Reading). r.position) (inner h))
      where
        inner : some (reading (position_of axis (year_on m) (month_on m) (day_on m)) (number_at m 4) (kind_of (field_at m 5))) ≡ some z
            → reading (position_of axis (year_on m) (month_on m) (day_on m)) (number_at m 4) (kind_of (field_at m 5)) ≡ z
        inner h = cc
    go false h = let c : ◌≡◌ {A = ℕ} 0 1 = cc in absurd (omega arith)

later_position : (axis : Years) (l m : Line) → axis.first ≤ year_on l → axis.first ≤ year_on m → T (is X (tag_of m)) → Short X l m → position_on axis m < position_on axis l
unfolding position_on position_of place_on
later_position axis l m a b x short = omega (arith, short_key X l m x short, date_key_lem X l tt, date_key_lem X m tt)

last_position : (axis : Years) (ls : List Line) (l : Line) (z : Reading) → axis.first ≤ year_on l → Each (Dated axis) ls → Each (Short X l) ls
    → latest (reading_on axis) ls ≡ some z → z.position < position_on axis l
last_position axis ls l z a d short e =
    let (m, h, g) = paired (latest_some (reading_on axis) ls z e) (each_both d short) in
    let p = said_by axis m z h in
    rw p.1 at (later_position axis l m a (g.0.year p.0) p.0 g.1)

-- ---- and whose index is the last index
index_said : (axis : Years) (m : Line) → Option.map (λ (r : Reading). r.index) (reading_on axis m) ≡ cond (is X (tag_of m)) (some (number_at m 4)) none
unfolding reading_on
index_said axis m = go (is X (tag_of m))
  where
    go : (b : Bool) → Option.map (λ (r : Reading). r.index) (cond b (some (reading (position_of axis (year_on m) (month_on m) (day_on m)) (number_at m 4) (kind_of (field_at m 5)))) none)
        ≡ cond b (some (number_at m 4)) none
    go true = refl
    go false = refl

last_index_lem : (axis : Years) (ls : List Line) (z : Reading) → latest (reading_on axis) ls ≡ some z → last_index_in ls ≡ z.index
unfolding last_index_in
last_index_lem axis ls z e =
    ap (λ (o : Option ℕ). or_else o 0)
    (sym (λ i. latest (λ (m : Line). index_said axis m i) ls) ∙ latest_map (λ (r : Reading). r.index) (reading_on axis) ls ∙ ap (Option.map (λ (r : Reading). r.index)) e)

pub not_falling : (ls : List Line) (l : Line) → refusal_at ls l ≡ none → T (is X (tag_of l)) → last_index_in ls ≤ number_at l 4
unfolding refusal_at holds before_in
not_falling ls l e x = go (is X (tag_of l)) x (passed (before_in ls) l e falling)
  where
    go : (b : Bool) → T b → T (not (b && ltb (number_at l 4) (last_index_in ls))) → last_index_in ls ≤ number_at l 4
    go true t n = nltb→le (number_at l 4) (last_index_in ls) n
    go false t n = absurd t

-- ---- so they fit with one more
abbrev in_order : Reading × Reading → Bool
in_order p = ltb p.0.position p.1.position && leb p.0.index p.1.index

more_fits : (axis : Years) (ls : List Line) (l : Line) → AxisLine axis most_index l → T (is_kind (kind_of (field_at l 5))) → Each (Dated axis) ls → Each (Short X l) ls
    → last_index_in ls ≤ number_at l 4 → T (readings_fit axis (present (map (reading_on axis) ls))) → T (readings_fit axis (present (map (reading_on axis) ls) ++ (said axis l ∷ [])))
unfolding readings_fit
more_fits axis ls l a k d short i fit =
    let p = and_parts (all (reading_fits axis) (present (map (reading_on axis) ls))) _ fit in
    and_made (all (reading_fits axis) (present (map (reading_on axis) ls) ++ (said axis l ∷ []))) _
    (all_snoc (reading_fits axis) (present (map (reading_on axis) ls)) (said axis l) p.0 (said_fits axis l a k))
    (neighbours_snoc in_order (present (map (reading_on axis) ls)) (said axis l) p.1
    (λ z e. let f : latest (reading_on axis) ls ≡ some z = sym (latest_present (reading_on axis) ls) ∙ e in
    and_made (ltb z.position (position_on axis l)) (leb z.index (number_at l 4))
    (lt→ltb z.position (position_on axis l) (last_position axis ls l z ((among_words axis (year_on l)).0 a.year).0 d short f))
    (le→leb z.index (number_at l 4) (omega (arith, last_index_lem axis ls z f)))))

pub sequence_step : (ls : List Line) (l : Line) → axis_in (ls ++ (l ∷ [])) ≡ axis_in ls → (T (is X (tag_of l)) → AxisLine (axis_in ls) most_index l)
    → (T (is X (tag_of l)) → T (is_kind (kind_of (field_at l 5)))) → Each (Dated (axis_in ls)) ls → (T (is X (tag_of l)) → Each (Short X l) ls)
    → (T (is X (tag_of l)) → last_index_in ls ≤ number_at l 4) → T (readings_fit (axis_in ls) (readings_in ls)) → T (readings_fit (axis_in ls) (readings_in (ls ++ (l ∷ []))))
unfolding reading_on position_on readings_in present
sequence_step ls l longer a k d short i fit = rw (readings_snoc ls l longer) (go (is X (tag_of l)) a k short i)
  where
    go : (b : Bool) → (T b → AxisLine (axis_in ls) most_index l) → (T b → T (is_kind (kind_of (field_at l 5)))) → (T b → Each (Short X l) ls) → (T b → last_index_in ls ≤ number_at l 4)
        → T (readings_fit (axis_in ls) (readings_in ls ++ present (cond b (some (said (axis_in ls) l)) none ∷ [])))
    go true a k short i = more_fits (axis_in ls) ls l (a tt) (k tt) d (short tt) (i tt) fit
    go false a k short i = rw (append-nil (readings_in ls)) fit
