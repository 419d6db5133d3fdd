-- Profile values: after a P line the slot block holds what the lines say.
use mathlib.Core.Path.{◌≡◌, refl, sym, ◌∙◌}
use mathlib.Core.Bool.{not, ◌&&◌}
use mathlib.Core.List.{List, [], ◌∷◌, ◌++◌}
use Prim.Native.Nat.{ℕ, ◌-◌, ◌<◌}
use native.Mathlib.Omega.{arith}
use lib.Dec.{T, ltb, eqb}
use lib.ListN.{length, get_or}
use Rattle.lists.specs.Lists.{or_else, Each}
use Rattle.lists.proofs.Laws.{each_map, length_tab, get_d_tab0}
use Rattle.lists.proofs.Tables.{each_both, found}
use Rattle.lists.proofs.Tests.{is_true}
use Rattle.calendar.specs.declared.Years.{Years}
use Rattle.calendar.specs.Spans.{among}
use Rattle.meaning.specs.Line.{Line, P, is, tag_of, year_on, value_at, winter_on}
use Rattle.meaning.specs.File.{profile_on, profile_in}
use Rattle.meaning.specs.Blocks.{Blocks, slots_start}
use Rattle.meaning.specs.Record.{Rec, history_of_site, history_of_rec, profile_held}
use Rattle.meaning.specs.Calls.{profile_values, blocks_after}
use Rattle.meaning.proofs.Accepted.{WinterLine}
use Rattle.demands.proofs.Held.Parts.{Dated}
use Rattle.demands.proofs.Held.Spans.{history_row}
use Rattle.demands.proofs.Held.Earlier.{Short, names, unnamed, at_place, is_place_lem, line_placed, winter_free}
use Rattle.demands.proofs.Held.Rows.{where_same, stored_or_not, within, is_within_lem, row_stored, row_kept}
use Rattle.meaning.proofs.Sizes.{Sizes}

pub length_values : (l : Line) → length (profile_values l) ≡ 20
unfolding profile_values
length_values l = length_tab 20 0 (value_at l)

pub value_of : (l : Line) (h : ℕ) → h < 20 → get_or (profile_values l) h 0 ≡ value_at l h
unfolding profile_values
value_of l h k = get_d_tab0 20 (value_at l) h 0 k

module _ (s : Rec) (w : Blocks) (l : Line) (z : Sizes w) (same : history_of_rec s ≡ history_of_site s.site) where
  profile_stored : T (is P (tag_of l)) → WinterLine (history_of_site s.site) l → (h : ℕ) → h < 20
      → profile_held (history_of_site s.site) (blocks_after (tag_of l) l s w) (year_on l) (winter_on l) h ≡ value_at l h
  unfolding profile_held blocks_after slots_start
  profile_stored p a h k =
      rw (is_within_lem (among (history_of_site s.site) (year_on l)) (winter_on l) h a.year (line_placed a).below k, is_true (is P (tag_of l)) p, same)
      (row_stored w.slots (profile_values l) (year_on l - (history_of_site s.site).first) (winter_on l) h 0 (length_values l) (line_placed a).below k
      (omega (arith, history_row s.site (year_on l) a.year, z.slots)) ∙ value_of l h k)

  profile_kept : (T (is P (tag_of l)) → WinterLine (history_of_site s.site) l) → (y v h : ℕ)
      → T (not (is P (tag_of l) && (eqb (year_on l) y && (eqb (winter_on l) v && ltb h 20))))
      → profile_held (history_of_site s.site) (blocks_after (tag_of l) l s w) y v h ≡ profile_held (history_of_site s.site) w y v h
  unfolding profile_held blocks_after slots_start
  profile_kept a y v h n =
      rw same (where_same (among (history_of_site s.site) y && (ltb v 152 && ltb h 20)) _ _ 0
      (λ t. let i = within (among (history_of_site s.site) y) v h t in
      stored_or_not (is P (tag_of l)) w.slots _ _ 0
      (λ c. row_kept w.slots (profile_values l) (year_on l - (history_of_site s.site).first) (winter_on l) (y - (history_of_site s.site).first) v h 0
      (length_values l) (line_placed (a c)).below i.place i.half
      (λ e k. unnamed P l y (eqb (winter_on l) v && ltb h 20) n c (omega (arith, history_row s.site (year_on l) (a c).year, history_row s.site y i.year)) (is_place_lem l v h (sym k) i.half)))))

pub profile_step : {axis : Years} (ls : List Line) (l : Line) (s : Rec) (w : Blocks) → Sizes w → history_of_rec s ≡ history_of_site s.site → Each (Dated axis) ls
    → (T (is P (tag_of l)) → WinterLine (history_of_site s.site) l) → (T (is P (tag_of l)) → Each (Short P l) ls) → (y v h : ℕ)
    → profile_held (history_of_site s.site) w y v h ≡ profile_in ls y v h
    → profile_held (history_of_site s.site) (blocks_after (tag_of l) l s w) y v h ≡ profile_in (ls ++ (l ∷ [])) y v h
unfolding profile_in profile_on
profile_step ls l s w z same k a short y v h e =
    found (λ o. or_else o 0) (profile_on y v h) ls l (is P (tag_of l) && (eqb (year_on l) y && (eqb (winter_on l) v && ltb h 20))) (value_at l h)
    (profile_held (history_of_site s.site) (blocks_after (tag_of l) l s w) y v h) (profile_held (history_of_site s.site) w y v h) refl e
    (λ t. let n = names P l y (eqb (winter_on l) v && ltb h 20) t in let p = at_place l v h n.date in
    each_map (λ m g. rw (winter_free P l m y v h tt tt (a n.tag) g.0 g.1 n.year p.0)) (each_both k (short n.tag)))
    (λ t. let n = names P l y (eqb (winter_on l) v && ltb h 20) t in let p = at_place l v h n.date in
    rw (← n.year, ← p.0) (profile_stored s w l z same n.tag (a n.tag) h p.1))
    (profile_kept s w l z same a y v h)
