-- Lines that are accepted one after the other: the sheet, the answers and the points that they lead to.
use mathlib.Core.Path.{◌≡◌, refl, ap, sym, subst, ◌∙◌}
use mathlib.Core.Bool.{Bool, true, false, ◌&&◌, cond}
use mathlib.Core.List.{List, [], ◌∷◌, ◌++◌, map, append_assoc, append-nil}
use mathlib.Core.Option.{Option, some, none}
use Prim.Native.Nat.{ℕ}
use lib.Dec.{T, eqb, ltb, ltb→lt}
use lib.ListN.{length}
use Rattle.lists.specs.Lists.{or, or_else, seek, Each, each_nil, each_cons, Some, here, there}
use Rattle.lists.proofs.Tests.{is_true}
use Rattle.meaning.specs.Filing.{Filing}
use Rattle.meaning.specs.Line.{Line, C, is, tag_of, year_on, point_of, winter_on}
use Rattle.meaning.specs.Refusals.{Reason}
use Rattle.meaning.specs.File.{before_in, refusal_at, point_on, point_in, filing_in}
use Rattle.meaning.specs.Level.{report_of}
use Rattle.meaning.specs.Closing.{CloseReason, closing_refusal}
use Rattle.meaning.specs.Blocks.{Blocks, sizes_fit, fresh_blocks}
use Rattle.meaning.specs.Record.{Rec, fresh_rec}
use Rattle.meaning.specs.Calls.{accepted, reported, Out, out, leaves, opening_of, rec_after, blocks_after, line_by, line_of, close_by, close_of}
use Rattle.meaning.specs.Sheet.{Outcome, level, closing_by, closing_of, outcome_by, outcome_from, outcome_of, sheet_of}
use Rattle.demands.specs.CallLists.{Call, opening, line, close, called, file_after, Answered, answers_from, answers_of}
use Rattle.meaning.proofs.Accepted.{PointFits, point_in_lem, is_tag}
use Rattle.demands.proofs.Held.Rec.{rec_step}
use Rattle.demands.proofs.Held.Blocks.{blocks_step, blocks_is}
use Rattle.demands.proofs.Demand2.{Held, held_fresh, line_is, close_is}

-- after the accepted lines es, each of the lines ls is accepted
pub data Taken : List Line → List Line → Type 0 where
  ended : {es : List Line} → Taken es []
  after : {es ls : List Line} {l : Line} → refusal_at es l ≡ none → Taken (es ++ (l ∷ [])) ls → Taken es (l ∷ ls)

joined : (es ls : List Line) (l : Line) → (es ++ (l ∷ [])) ++ ls ≡ es ++ (l ∷ ls)
joined es ls l = append_assoc es (l ∷ []) ls

-- ---- the sheet is the close's
outcome_taken : {es ls : List Line} → Taken es ls → outcome_from es ls ≡ closing_of (filing_in (es ++ ls)) (length (es ++ ls))
unfolding outcome_from outcome_by
outcome_taken (ended {es = es}) = rw (append-nil es)
outcome_taken (after {es = es} {ls = ls} {l = l} e r) = rw (e, ← joined es ls l) (outcome_taken r)

pub taken_level : (ls : List Line) → Taken [] ls → closing_refusal (filing_in ls) ≡ none → sheet_of ls ≡ level (report_of (filing_in ls))
unfolding sheet_of outcome_of closing_of closing_by
taken_level ls t e =
    ap (λ (o : Outcome). o.sheet) (outcome_taken t) ∙ ap (λ (o : Option CloseReason). (closing_by o (filing_in ls) (length ls)).sheet) e

-- ---- the answer of a close that follows them
abbrev pub Reported : List Line → Answered → Type 0
Reported f a = (a.file ≡ f) × (a.answer ≡ reported (report_of (filing_in f)))

close_answer : (f : List Line) (s : Rec) (w : Blocks) → Held f s w → closing_refusal (filing_in f) ≡ none → (close_of s w).answer ≡ reported (report_of (filing_in f))
unfolding close_by
close_answer f s w h e =
    ap (λ (o : Out). o.answer) (close_is f s w h ∙ ap (λ (o : Option CloseReason). close_by o s w) e)
    ∙ ap (λ (F : Filing). reported (report_of F)) (blocks_is h.rec h.blocks)

line_taken : (f : List Line) (s : Rec) (w : Blocks) (l : Line) → Held f s w → refusal_at f l ≡ none → line_of s l w ≡ line_by none s l w
line_taken f s w l h e = line_is f s w l h ∙ ap (λ (o : Option Reason). line_by o s l w) e

line_held : (f : List Line) (s : Rec) (w : Blocks) (l : Line) → Held f s w → refusal_at f l ≡ none
    → Held (f ++ (l ∷ [])) (rec_after (tag_of l) l s) (blocks_after (tag_of l) l s w)
line_held f s w l h e = record { rec = rec_step f l s h.rec e; blocks = blocks_step f l s w h.rec h.blocks e }

-- the calls after a line that is taken
past_line : {P : Answered → Type 0} (f : List Line) (s : Rec) (w : Blocks) (l : Line) (ks : List Call) → line_of s l w ≡ line_by none s l w
    → Some P (answers_from (rec_after (tag_of l) l s) (blocks_after (tag_of l) l s w) (f ++ (l ∷ [])) ks)
    → Some P (answers_from s w f (line l ∷ ks))
unfolding answers_from called line_by file_after
past_line {P} f s w l ks e r =
    subst (λ (o : Out). Some P (record { file = f; answer = o.answer } ∷ answers_from o.after o.blocks (file_after (line l) o.answer f) ks)) (sym e) (there r)

answers_taken : {es ls : List Line} → Taken es ls → (s : Rec) (w : Blocks) → Held es s w → closing_refusal (filing_in (es ++ ls)) ≡ none
    → Some (Reported (es ++ ls)) (answers_from s w es (map line ls ++ (close ∷ [])))
unfolding answers_from called
answers_taken (ended {es = es}) s w h k = rw (append-nil es) (here (refl, close_answer es s w h (rw (append-nil es) at k)))
answers_taken (after {es = es} {ls = ls} {l = l} e r) s w h k =
    past_line es s w l (map line ls ++ (close ∷ [])) (line_taken es s w l h e)
    (rw (joined es ls l) at (answers_taken r (rec_after (tag_of l) l s) (blocks_after (tag_of l) l s w) (line_held es s w l h e) (rw (joined es ls l) k)))

-- on whatever record and blocks of the right sizes
pub taken_answers : (ls : List Line) → Taken [] ls → closing_refusal (filing_in ls) ≡ none → (s : Rec) (w : Blocks) → T (sizes_fit w)
    → Some (Reported ls) (answers_of s w (map line ls ++ (close ∷ [])))
unfolding answers_of answers_from called opening_of file_after
taken_answers ls t e s w fit =
    subst (λ (o : Out). Some (Reported ls) (record { file = []; answer = o.answer } ∷ answers_from o.after o.blocks (file_after opening o.answer []) (map line ls ++ (close ∷ []))))
    (sym (ap (λ (b : Bool). cond b (out accepted fresh_rec fresh_blocks) (leaves 1 s w)) (is_true (sizes_fit w) fit)))
    (there (answers_taken t fresh_rec fresh_blocks held_fresh e))

-- ---- a point of theirs is at most 100,000,000 W
unfoldable Fits : Option (Option ℕ) → Type 0
Fits none = Unit {0}
Fits (some o) = PointFits o

fits_line : (es : List Line) (l : Line) → refusal_at es l ≡ none → (y w h : ℕ) → Fits (point_on y w h l)
unfolding point_on refusal_at Fits
fits_line es l e y w h = go (is C (tag_of l)) (eqb (year_on l) y) (eqb (winter_on l) w) (ltb h 20) refl refl
  where
    go : (a b c d : Bool) → is C (tag_of l) ≡ a → ltb h 20 ≡ d → Fits (cond (a && (b && (c && d))) (some (point_of l h)) none)
    go false b c d u v = tt
    go true false c d u v = tt
    go true true false d u v = tt
    go true true true false u v = tt
    go true true true true u v = point_in_lem (before_in es) l e (sym (is_tag C (tag_of l) (rw u tt))) h (ltb→lt h 20 (rw v tt))

each_taken : {es ls : List Line} → Taken es ls → (y w h : ℕ) → Each (λ l. Fits (point_on y w h l)) ls
each_taken ended y w h = each_nil
each_taken (after {es = es} {l = l} e r) y w h = each_cons (fits_line es l e y w h) (each_taken r y w h)

first_fits : (f : Line → Option (Option ℕ)) {ls : List Line} → Each (λ l. Fits (f l)) ls → PointFits (or_else (seek f ls) none)
unfolding seek PointFits Fits
first_fits f each_nil = tt
first_fits f (each_cons {x = l} {xs = ls} p r) = go (f l) p (first_fits f r)
  where
    go : (o : Option (Option ℕ)) → Fits o → PointFits (or_else (seek f ls) none) → PointFits (or_else (or o (seek f ls)) none)
    go none p q = q
    go (some o) p q = p

pub taken_points : (ls : List Line) → Taken [] ls → (y w h : ℕ) → PointFits (point_in ls y w h)
unfolding point_in
taken_points ls t y w h = first_fits (point_on y w h) (each_taken t y w h)
