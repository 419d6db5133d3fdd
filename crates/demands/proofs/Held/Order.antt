-- File order: what an accepted line's tag is, and that the tags that may follow it are those that no line of the file stops.
use mathlib.Core.Path.{◌≡◌, refl, ap, sym, ◌∙◌}
use mathlib.Core.Bool.{Bool, true, false, not, ◌&&◌, ◌||◌, cond}
use mathlib.Core.List.{List, [], ◌∷◌, ◌++◌}
use mathlib.Core.Option.{Option, some, none}
use Prim.Native.Nat.{ℕ, zero, suc, ◌+◌, ◌≤◌, ◌<◌}
use native.Mathlib.Omega.{arith}
use lib.Dec.{T, ltb, eqb, ltb→lt, lt→ltb, nltb→le}
use borrow.Author.Tests.{ne_eqb}
use Rattle.lists.specs.Lists.{any, or, or_else, seek, Each, each_nil}
use Rattle.lists.proofs.Laws.{any_snoc, or_none, seek_snoc, seek_none, each_map, any_each, any_some, paired}
use Rattle.lists.proofs.Tests.{or_absorb, or_split, both_not}
use Rattle.text.specs.Fields.{tabs}
use Rattle.meaning.specs.Filing.{Meter, Site, no_site}
use Rattle.meaning.specs.Line.{Line, Tag, S, C, X, D, P, B, R, E, other, rank, is, size, tag_of, site_on}
use Rattle.meaning.specs.Refusals.{Before, unknown, holds, is_unknown, refusal}
use Rattle.meaning.specs.File.{site_in, rules_out, is_index_meter, misplaced_in}
use Rattle.meaning.specs.Record.{misplaced_by}
use Rattle.meaning.proofs.Passed.{passed}

-- ---- an accepted line's tag is known
not_none : (n : ℕ) → T (not (not (eqb (n + 1) 0))) → ⊥
not_none n t = rw (ne_eqb (n + 1) 0 (λ e. omega arith)) at t

pub known_tag_lem : (b : Before) (l : Line) → refusal b l ≡ none → T (not (eqb (rank (tag_of l)) 0))
unfolding holds is_unknown
known_tag_lem b l e = go (tag_of l) (passed b l e unknown)
  where
    go : (t : Tag) → T (not (not (eqb (tabs l + 1) (size t)))) → T (not (eqb (rank t) 0))
    go S h = tt
    go C h = tt
    go X h = tt
    go D h = tt
    go P h = tt
    go B h = tt
    go R h = tt
    go E h = tt
    go other h = not_none (tabs l) h

-- ---- first and later lines, by the rank of the last tag
pub first_line : (n : ℕ) (m : Meter) (t : Tag) → T (not (misplaced_by n m t)) → T (is S t) → n ≡ 0
unfolding misplaced_by
first_line zero m t h u = refl
first_line (suc n) m t h u = absurd (go (ltb (rank t) (suc n)) (is S t) (eqb 8 (suc n)) (is C t && is_index_meter m) u h)
  where
    go : (a b c d : Bool) → T b → T (not ((a || (b || c)) || d)) → ⊥
    go true b c d u h = h
    go false true c d u h = h
    go false false c d u h = u

pub later_line : (n : ℕ) (m : Meter) (t : Tag) → T (not (misplaced_by n m t)) → T (not (is S t)) → T (not (eqb n 0))
unfolding misplaced_by
later_line zero m t h u = absurd (go (is S t) h u)
  where
    go : (b : Bool) → T (not (not b)) → T (not b) → ⊥
    go true h u = u
    go false h u = h
later_line (suc n) m t h u = rw (ne_eqb (suc n) 0 (λ e. omega arith)) tt

-- ---- what rules out a tag
-- no earlier line rules out an accepted one
pub clear : (ls : List Line) (t : Tag) → T (not (misplaced_in ls t)) → Each (λ (m : Line). T (not (rules_out (tag_of m) t))) ls
unfolding misplaced_in
clear [] t h = each_nil
clear (k ∷ ls) t h = any_each (λ (m : Line). rules_out (tag_of m) t) (k ∷ ls) (or_split (any (λ (m : Line). rules_out (tag_of m) t) (k ∷ ls)) _ h).0

lift : (a b c d e : Bool) → (T a → T b) → T (not d) → T (a || (c || d)) → T (b || (c || e))
lift true true c d e f n h = tt
lift true false c d e f n h = absurd (f tt)
lift false true c d e f n h = tt
lift false false true d e f n h = tt
lift false false false d e f n h = absurd (both_not d h n)

-- what rules out a tag rules it out too through any tag that it lets pass
stops_on : (k t u : Tag) → T (not (rules_out k t)) → T (rules_out k u) → T (rules_out t u)
unfolding rules_out
stops_on k t u n h =
    let a = or_split (ltb (rank t) (rank k)) (is S t || is E k) n in
    let c : rank k ≤ rank t = nltb→le _ _ a.0 in
    lift (ltb (rank u) (rank k)) (ltb (rank u) (rank t)) (is S u) (is E k) (is E t)
    (λ g. let d : rank u < rank k = ltb→lt (rank u) (rank k) g in lt→ltb (rank u) (rank t) (omega arith)) (or_split (is S t) (is E k) a.1).1 h

by_tag : (t : Tag) (m : Meter) (u : Tag) → T (not (eqb (rank t) 0)) → misplaced_by (rank t) m u ≡ (rules_out t u || (is C u && is_index_meter m))
unfolding misplaced_by rules_out
by_tag S m u h = refl
by_tag C m u h = refl
by_tag X m u h = refl
by_tag D m u h = refl
by_tag P m u h = refl
by_tag B m u h = refl
by_tag R m u h = refl
by_tag E m u h = refl
by_tag other m u h = absurd h

barred_snoc : (ls : List Line) (l : Line) (u : Tag)
    → misplaced_in (ls ++ (l ∷ [])) u ≡ (any (λ (m : Line). rules_out (tag_of m) u) (ls ++ (l ∷ [])) || (is C u && is_index_meter (site_in (ls ++ (l ∷ []))).meter))
unfolding misplaced_in
barred_snoc [] l u = refl
barred_snoc (k ∷ ls) l u = refl

stops_snoc : (ls : List Line) (l : Line) → T (not (misplaced_in ls (tag_of l))) → (u : Tag) → rules_out (tag_of l) u ≡ any (λ (m : Line). rules_out (tag_of m) u) (ls ++ (l ∷ []))
stops_snoc ls l n u =
    sym (any_snoc (λ (m : Line). rules_out (tag_of m) u) ls l ∙ or_absorb (any (λ (m : Line). rules_out (tag_of m) u) ls) (rules_out (tag_of l) u)
    (λ h. let (m, a, b) = paired (any_some (λ (m : Line). rules_out (tag_of m) u) ls h) (clear ls (tag_of l) n) in stops_on (tag_of m) (tag_of l) u b a))

pub barred_step : (ls : List Line) (l : Line) (m : Meter) → m ≡ (site_in (ls ++ (l ∷ []))).meter → T (not (eqb (rank (tag_of l)) 0)) → T (not (misplaced_in ls (tag_of l)))
    → (u : Tag) → misplaced_by (rank (tag_of l)) m u ≡ misplaced_in (ls ++ (l ∷ [])) u
barred_step ls l m e k n u = by_tag (tag_of l) m u k ∙ rw (barred_snoc ls l u, ← stops_snoc ls l n u, e)

-- ---- S is the first line, so what it says stays
site_clear : (m : Line) → T (not (rules_out (tag_of m) S)) → cond (is S (tag_of m)) (some (site_on m)) none ≡ none
unfolding rules_out
site_clear m h = absurd (or_split (ltb 1 (rank (tag_of m))) true h).1

site_by : (b : Bool) (x y : Site) (o : Option Site) → y ≡ or_else o no_site → (T b → o ≡ none) → cond b x y ≡ or_else (or o (cond b (some x) none)) no_site
site_by true x y o e n = rw (n tt)
site_by false x y o e n = rw (or_none o) e

pub site_step : (ls : List Line) (l : Line) (x : Site) → x ≡ site_in ls → (T (is S (tag_of l)) → T (not (misplaced_in ls S)))
    → cond (is S (tag_of l)) (site_on l) x ≡ site_in (ls ++ (l ∷ []))
unfolding site_in
site_step ls l x e n =
    site_by (is S (tag_of l)) (site_on l) x (seek (λ (m : Line). cond (is S (tag_of m)) (some (site_on m)) none) ls) e
    (λ t. seek_none (λ (m : Line). cond (is S (tag_of m)) (some (site_on m)) none) (each_map site_clear (clear ls S (n t))))
    ∙ ap (λ (o : Option Site). or_else o no_site) (sym (seek_snoc (λ (m : Line). cond (is S (tag_of m)) (some (site_on m)) none) ls l))
