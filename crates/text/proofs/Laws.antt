-- Laws of fields: of a line split at its first tab, and the definitions in words.
use mathlib.Core.Path.{◌≡◌, refl, ap, sym, subst, ◌∙◌}
use mathlib.Core.Logic.{◌↔◌, ◌⊎◌, inl, inr, ⊎_elim}
use mathlib.Core.Bool.{Bool, true, false, not, ◌&&◌, ◌||◌, cond}
use mathlib.Core.List.{List, [], ◌∷◌, ◌++◌}
use Prim.Native.Nat.{ℕ, zero, suc, ◌+◌, ◌-◌, ◌≤◌, ◌<◌}
use native.Mathlib.Numerals.{add-one}
use native.Mathlib.Omega.{arith}
use lib.Dec.{T, eqb, ltb}
use lib.ListN.{length, take, drop, get_or, drop_of_length-le, length-drop}
use lib.Seq.{take-length, take_all, take-suc}
use borrow.Author.Tests.{ne_eqb, eq-eqb, eqb-true, eqb-false, ltb-false}
use denote.Ref.{Bor}
use denote.Param.Members.{Mut}
use Rattle.std.specs.declared.slice.Chunks.{Chunks}
use Rattle.std.specs.Prelude.{Option, Some, None}
use Rattle.std.specs.Fn.{Called}
use Rattle.std.specs.Option.{MatchOption}
use Rattle.std.specs.Iterator.{ChecksAny, YieldsThen}
use Rattle.std.specs.Slice.Iter.{chunks_rest, chunks_steps}
use Rattle.std.specs.List.{FoldsTo, fold, position, position_or_len, before_first, after_first}
use Rattle.std.specs.Cmp.Lexicographic.{pointwise}
use Rattle.std.proofs.lemmas.List.{length-append}
use Rattle.lists.specs.Lists.{any, Each, each_nil, each_cons}
use Rattle.lists.proofs.Reflect.{of_eq, of_and}
use Rattle.lists.proofs.Tests.{or_false, or_assoc}
use Rattle.text.specs.Fields.{is_invalid, up_to, past, tabs, rest_at, field_at, reads}
use Rattle.text.proofs.NumberLaws.{any_end}

-- ---- a line split at its first tab
up_first : (l : List ℕ) → up_to l ≡ before_first (λ b. eqb b 9) l
unfolding up_to
up_first [] = refl
up_first (x ∷ l) = go (eqb x 9) (up_first l)
  where
    go : (b : Bool) → up_to l ≡ before_first (λ y. eqb y 9) l → cond b [] (x ∷ up_to l) ≡ take (cond (not b) (1 + position_or_len (λ y. eqb y 9) l) 0) (x ∷ l)
    go true e = refl
    go false e = let n : 1 + position_or_len (λ y. eqb y 9) l ≡ suc (position_or_len (λ y. eqb y 9) l) = omega arith in rw n (ap (λ (r : List ℕ). x ∷ r) e)

past_first : (l : List ℕ) → past l ≡ after_first (λ b. eqb b 9) l
unfolding past
past_first [] = refl
past_first (x ∷ l) = go (eqb x 9) (past_first l)
  where
    go : (b : Bool) → past l ≡ after_first (λ y. eqb y 9) l → cond b l (past l) ≡ drop (cond (not b) (1 + position_or_len (λ y. eqb y 9) l) 0 + 1) (x ∷ l)
    go true e = refl
    go false e = let n : 1 + position_or_len (λ y. eqb y 9) l + 1 ≡ suc (position_or_len (λ y. eqb y 9) l + 1) = omega arith in rw n e

-- what `&t[a..]` holds
pub rest_of_lem : (t : List ℕ) (a : ℕ) → take (length t - a) (drop a t) ≡ drop a t
rest_of_lem t a = rw (← length-drop a t) (take-length (drop a t))

-- the place of the first tab, where there is one
found : (l : List ℕ) (k : ℕ) → Some k ≡ position (λ b. eqb b 9) l → k ≡ position_or_len (λ b. eqb b 9) l
found l k e = go (ltb (position_or_len (λ b. eqb b 9) l) (length l)) e
  where
    go : (b : Bool) → Some k ≡ cond b (Some (position_or_len (λ y. eqb y 9) l)) None → k ≡ position_or_len (λ y. eqb y 9) l
    go true q = cc
    go false q = absurd (cc)

missing : (l : List ℕ) → ◌≡◌ {A = Option ℕ} None (position (λ b. eqb b 9) l) → length l ≤ position_or_len (λ b. eqb b 9) l
missing l e = go (ltb (position_or_len (λ b. eqb b 9) l) (length l)) refl e
  where
    go : (b : Bool) → ltb (position_or_len (λ y. eqb y 9) l) (length l) ≡ b → ◌≡◌ {A = Option ℕ} None (cond b (Some (position_or_len (λ y. eqb y 9) l)) None) → length l ≤ position_or_len (λ y. eqb y 9) l
    go true q r = absurd (cc)
    go false q r = ltb-false (position_or_len (λ y. eqb y 9) l) (length l) q

pub field_found : (l : List ℕ) (k : ℕ) → Some k ≡ position (λ b. eqb b 9) l → take k l ≡ up_to l
field_found l k e = rw (found l k e) (sym (up_first l))

pub rest_found : (l : List ℕ) (k : ℕ) → Some k ≡ position (λ b. eqb b 9) l → take (length l - (k + 1)) (drop (k + 1) l) ≡ past l
rest_found l k e = rest_of_lem l (k + 1) ∙ rw (found l k e) (sym (past_first l))

pub field_alone : (l : List ℕ) → ◌≡◌ {A = Option ℕ} None (position (λ b. eqb b 9) l) → l ≡ up_to l
field_alone l e = sym (up_first l ∙ take_all (position_or_len (λ b. eqb b 9) l) l (missing l e))

pub rest_empty : (l : List ℕ) → ◌≡◌ {A = Option ℕ} None (position (λ b. eqb b 9) l) → take (length l - length l) (drop (length l) l) ≡ past l
rest_empty l e =
    let h : length l ≤ position_or_len (λ b. eqb b 9) l = missing l e in
    rest_of_lem l (length l) ∙ drop_of_length-le l {i = length l} (omega arith) ∙ sym (past_first l ∙ drop_of_length-le l {i = position_or_len (λ b. eqb b 9) l + 1} (omega arith))

-- what the proof of the split needs
pub ruleset split_parts = (field_found, rest_found, field_alone, rest_empty)

-- ---- tabs counted: those of the first i bytes
tabs_snoc : (l : List ℕ) (x : ℕ) → tabs (l ++ (x ∷ [])) ≡ tabs l + cond (eqb x 9) 1 0
unfolding tabs
tabs_snoc [] x = go (eqb x 9)
  where
    go : (b : Bool) → cond b 1 0 ≡ 0 + cond b 1 0
    go true = refl
    go false = refl
tabs_snoc (y ∷ l) x = go (eqb y 9) (tabs_snoc l x)
  where
    go : (b : Bool) → tabs (l ++ (x ∷ [])) ≡ tabs l + cond (eqb x 9) 1 0 → cond b (suc (tabs (l ++ (x ∷ [])))) (tabs (l ++ (x ∷ []))) ≡ cond b (suc (tabs l)) (tabs l) + cond (eqb x 9) 1 0
    go true e = omega arith
    go false e = e

pub tab_counted : (l : List ℕ) (i n : ℕ) → i < length l → n ≡ tabs (take i l) → get_or l i 0 ≡ 9 → n + 1 ≡ tabs (take (i + 1) l)
tab_counted l i n h e q = rw (add-one i, take-suc l i 0 h, tabs_snoc (take i l) (get_or l i 0), eq-eqb (get_or l i 0) 9 q, ← e)

pub other_passed : (l : List ℕ) (i n : ℕ) → i < length l → n ≡ tabs (take i l) → (get_or l i 0 ≡ 9 → ⊥) → n ≡ tabs (take (i + 1) l)
other_passed l i n h e q = rw (add-one i, take-suc l i 0 h, tabs_snoc (take i l) (get_or l i 0), ne_eqb (get_or l i 0) 9 q, ← e) (omega arith)

pub tabs_all : (l : List ℕ) (i n : ℕ) → length l ≤ i → n ≡ tabs (take i l) → n ≡ tabs l
tabs_all l i n h e = e ∙ ap tabs (take_all i l h)

-- what the proof of the count needs
pub ruleset tab_steps = (tab_counted, other_passed, tabs_all)

-- ---- tabs counted in parts
pub tabs_few : (l : List ℕ) → tabs l ≤ length l
unfolding tabs
tabs_few [] = omega arith
tabs_few (x ∷ l) = go (eqb x 9) (tabs_few l)
  where
    go : (b : Bool) → tabs l ≤ length l → cond b (suc (tabs l)) (tabs l) ≤ suc (length l)
    go true h = omega arith
    go false h = omega arith

tabs-append : (l m : List ℕ) → tabs (l ++ m) ≡ tabs l + tabs m
unfolding tabs
tabs-append [] m = omega arith
tabs-append (x ∷ l) m = go (eqb x 9) (tabs-append l m)
  where
    go : (b : Bool) → tabs (l ++ m) ≡ tabs l + tabs m → cond b (suc (tabs (l ++ m))) (tabs (l ++ m)) ≡ cond b (suc (tabs l)) (tabs l) + tabs m
    go true e = omega arith
    go false e = e

-- the part a of what is left, t, is counted, and b is left
pub part_counted : (l t a b : List ℕ) (n m : ℕ) → n + tabs t ≡ tabs l → t ≡ a ++ b → m ≡ tabs a → n + m + tabs b ≡ tabs l
part_counted l t a b n m h p q = let e : tabs t ≡ tabs a + tabs b = ap tabs p ∙ tabs-append a b in omega (arith, h, e, q)

pub few_left : (l t a b : List ℕ) (n m : ℕ) → n + length t ≤ length l → t ≡ a ++ b → m ≡ tabs a → n + m + length b ≤ length l
few_left l t a b n m h p q = let e : length t ≡ length a + length b = ap length p ∙ length-append a b in omega (arith, h, e, q, tabs_few a)

pub none_left : (l t : List ℕ) (n : ℕ) → n + tabs t ≡ tabs l → length t ≡ 0 → n ≡ tabs l
unfolding tabs
none_left l [] n h q = omega arith
none_left l (x ∷ t) n h q = absurd (omega arith)

-- ---- invalid bytes
pub any_folded : (l : List ℕ) → fold (λ found b. found || is_invalid b) false l ≡ any is_invalid l
unfolding any
any_folded l = go false l
  where
    go : (a : Bool) (l : List ℕ) → fold (λ found b. found || is_invalid b) a l ≡ (a || any is_invalid l)
    go a [] = sym (or_false a)
    go a (x ∷ l) = go (a || is_invalid x) l ∙ or_assoc a (is_invalid x) (any is_invalid l)

any-append : (p : ℕ → Bool) (l m : List ℕ) → any p (l ++ m) ≡ (any p l || any p m)
unfolding any
any-append p [] m = refl
any-append p (x ∷ l) m = ap (λ b. p x || b) (any-append p l m) ∙ sym (or_assoc (p x) (any p l) (any p m))

-- a search of one part after the other, which ends at the first that has some
module _ {F : Type 0} {g : Mut F (Bor (List ℕ) × Unit {0}) Bool} (p : ℕ → Bool) (f : F) (r : Bool) (u : Chunks ℕ)
    (part : (x : Bor (List ℕ)) (b : Bool) (q : F) → Called g f (x, tt) b q → (q ≡ f) × (b ≡ any p x.now)) where
  from_part : (xs : List (Bor (List ℕ))) (o : Option (Bor (List ℕ))) (s : Chunks ℕ) (i j : F) → i ≡ f → YieldsThen chunks_steps s xs o u → FoldsTo (λ k x q. Called g k (x, tt) false q) i xs j
      → MatchOption o (r ≡ false) (λ x. (r ≡ true) × ((q : F) × Called g j (x, tt) true q)) → r ≡ any p (chunks_rest s)
  from_part [] None s i j e y z m = m ∙ sym (rw y.1 (any_end p (chunks_rest y.0) 0 (omega (arith, y.2.1.0))))
  from_part [] (Some x) s i j e y z m =
      let k = part x true m.1.0 (subst (λ q. Called g q (x, tt) true m.1.0) (sym z ∙ e) m.1.1) in
      m.0 ∙ sym (rw (y.1, y.2.1.0, any-append p x.now (chunks_rest u), ← k.1))
  from_part (x ∷ xs) o s i j e y z m =
      let k = part x false z.0 (subst (λ q. Called g q (x, tt) false z.0) e z.1) in
      let n = y.1 in
      from_part xs o n.0 z.0 j k.0 (y.0, n.2, y.2) z.2 m ∙ sym (rw (n.1.1.0, any-append p x.now (chunks_rest n.0), ← k.1))

  pub any_parts : (l : List ℕ) (s : Chunks ℕ) → ChecksAny chunks_steps g s f r u → chunks_rest s ≡ l → r ≡ any p l
  any_parts l s d e = from_part d.0 d.1 s f d.2 refl d.3 d.4 d.5 ∙ ap (any p) e

-- ---- fields in words
-- no byte of a field is a tab
pub up_no_tab : (l : List ℕ) → Each (λ b. b ≡ 9 → ⊥) (up_to l)
unfolding up_to
up_no_tab [] = each_nil
up_no_tab (x ∷ l) = go (eqb x 9) refl (up_no_tab l)
  where
    go : (b : Bool) → eqb x 9 ≡ b → Each (λ y. y ≡ 9 → ⊥) (up_to l) → Each (λ y. y ≡ 9 → ⊥) (cond b [] (x ∷ up_to l))
    go true e r = each_nil
    go false e r = each_cons {x = x} (eqb-false x 9 e) r

-- a field and a tab stand in front of what is past them; with no tab the first field is the line
pub line_parts : (l : List ℕ) → ((l ≡ up_to l) × (past l ≡ []) × (tabs l ≡ 0)) ⊎ ((l ≡ up_to l ++ (9 ∷ past l)) × (tabs l ≡ suc (tabs (past l))))
unfolding up_to past tabs
line_parts [] = inl (refl, refl, refl)
line_parts (x ∷ l) = go (eqb x 9) refl (line_parts l)
  where
    Parts : List ℕ → List ℕ → List ℕ → ℕ → Type 0
    Parts m f r n = ((m ≡ f) × (r ≡ []) × (n ≡ 0)) ⊎ ((m ≡ f ++ (9 ∷ r)) × (n ≡ suc (tabs r)))

    go : (b : Bool) → eqb x 9 ≡ b → Parts l (up_to l) (past l) (tabs l) → Parts (x ∷ l) (cond b [] (x ∷ up_to l)) (cond b l (past l)) (cond b (suc (tabs l)) (tabs l))
    go true e p = inr (ap (λ (y : ℕ). y ∷ l) (eqb-true x 9 e), refl)
    go false e p = ⊎_elim (λ w. inl (ap (λ (m : List ℕ). x ∷ m) w.0, w.1, w.2)) (λ w. inr (ap (λ (m : List ℕ). x ∷ m) w.0, w.1)) p

-- a text with no tab is a field, alone or before a tab
pub up_alone : (f : List ℕ) → Each (λ b. b ≡ 9 → ⊥) f → (up_to f ≡ f) × (past f ≡ [])
unfolding up_to past
up_alone [] each_nil = (refl, refl)
up_alone (x ∷ f) (each_cons h r) = let k = up_alone f r in rw (ne_eqb x 9 h) (ap (λ (m : List ℕ). x ∷ m) k.0, k.1)

pub up_joined : (f r : List ℕ) → Each (λ b. b ≡ 9 → ⊥) f → (up_to (f ++ 9 ∷ r) ≡ f) × (past (f ++ 9 ∷ r) ≡ r)
unfolding up_to past
up_joined [] r each_nil = (refl, refl)
up_joined (x ∷ f) r (each_cons h t) = let k = up_joined f r t in rw (ne_eqb x 9 h) (ap (λ (m : List ℕ). x ∷ m) k.0, k.1)

-- a line has one field more than tabs, and none past them
pub rest_none : (n : ℕ) → rest_at [] n ≡ []
unfolding rest_at past
rest_none zero = refl
rest_none (suc n) = rest_none n

pub rest_beyond : (l : List ℕ) (n : ℕ) → tabs l < n → rest_at l n ≡ []
unfolding rest_at
rest_beyond l zero h = absurd (omega arith)
rest_beyond l (suc n) h = ⊎_elim (λ w. rw w.1 (rest_none n)) (λ w. rest_beyond (past l) n (omega arith)) (line_parts l)

pub field_beyond : (l : List ℕ) (n : ℕ) → tabs l < n → field_at l n ≡ []
unfolding field_at up_to
field_beyond l n h = rw (rest_beyond l n h)

-- the first field, and the n-th past the first
pub field_first : (l : List ℕ) → field_at l 0 ≡ up_to l
unfolding field_at rest_at
field_first l = refl

pub field_next : (l : List ℕ) (n : ℕ) → field_at l (n + 1) ≡ field_at (past l) n
unfolding field_at rest_at
field_next l n = rw (add-one n)

-- a field reads as a text where it is that text
pub of_reads : (f t : List ℕ) → T (reads f t) ↔ (f ≡ t)
unfolding reads
of_reads [] [] = (λ _. refl, λ _. tt)
of_reads [] (y ∷ t) = (λ h. absurd h, λ e. let z : ◌≡◌ {A = ℕ} 0 1 = cc in absurd (omega arith))
of_reads (x ∷ f) [] = (λ h. absurd h, λ e. let z : ◌≡◌ {A = ℕ} 0 1 = cc in absurd (omega arith))
of_reads (x ∷ f) (y ∷ t) = both (of_and (eqb x y) (reads f t) (of_eq x y) (of_reads f t))
  where
    both : T (eqb x y && reads f t) ↔ ((x ≡ y) × (f ≡ t)) → T (eqb x y && reads f t) ↔ (◌≡◌ {A = List ℕ} (x ∷ f) (y ∷ t))
    both r = (λ h. let p : x ≡ y = (r.0 h).0 in let q : f ≡ t = (r.0 h).1 in cc, λ e. let p : x ≡ y = cc in let q : f ≡ t = cc in r.1 (p, q))

-- two texts compared byte by byte
pub reads_lem : (f t : List ℕ) → reads f t ≡ pointwise eqb f t
unfolding reads
reads_lem [] [] = refl
reads_lem [] (y ∷ t) = refl
reads_lem (x ∷ f) [] = refl
reads_lem (x ∷ f) (y ∷ t) = ap (λ b. eqb x y && b) (reads_lem f t)
