-- Points: after a C line the near and far blocks hold what the lines say.
use mathlib.Core.Path.{◌≡◌, refl, ap, sym, ◌∙◌}
use mathlib.Core.Bool.{Bool, true, false, not, ◌&&◌, cond}
use mathlib.Core.List.{List, [], ◌∷◌, ◌++◌}
use mathlib.Core.Option.{Option, some, none}
use Prim.Native.Nat.{ℕ, ◌-◌, ◌<◌}
use native.Mathlib.Omega.{arith}
use lib.Dec.{T, ltb, eqb}
use lib.ListN.{length, get_or}
use lib.Seq.{sets}
use borrow.Author.Tests.{ne_eqb}
use Rattle.lists.specs.Lists.{or_else, Each}
use Rattle.lists.proofs.Laws.{each_map, length_tab, get_d_tab0}
use Rattle.lists.proofs.Tables.{each_both, found}
use Rattle.lists.proofs.Tests.{is_true}
use Rattle.calendar.specs.declared.Years.{Years}
use Rattle.calendar.specs.Spans.{among}
use Rattle.meaning.specs.Line.{Line, C, is, tag_of, year_on, point_of, winter_on}
use Rattle.meaning.specs.File.{point_on, point_in}
use Rattle.meaning.specs.Blocks.{Blocks, missing_point, code_of_point, point_of_code, is_near, near_start, far_start, code_at}
use Rattle.meaning.specs.Record.{Rec, history_of_site, point_held}
use Rattle.meaning.specs.Calls.{point_codes, blocks_after}
use Rattle.meaning.proofs.Accepted.{WinterLine, PointFits}
use Rattle.demands.proofs.Held.Parts.{Dated}
use Rattle.demands.proofs.Held.Spans.{near_row, far_row}
use Rattle.demands.proofs.Held.Earlier.{Short, names, unnamed, at_place, is_place_lem, line_placed, winter_free}
use Rattle.demands.proofs.Held.Rows.{where_same, within, is_within_lem, row_stored, row_kept}
use Rattle.meaning.proofs.Sizes.{Sizes}

-- ---- a point and its code
pub length_codes : (l : Line) → length (point_codes l) ≡ 20
unfolding point_codes
length_codes l = length_tab 20 0 (λ h. code_of_point (point_of l h))

pub code_of : (l : Line) (h : ℕ) → h < 20 → get_or (point_codes l) h missing_point ≡ code_of_point (point_of l h)
unfolding point_codes
code_of l h k = get_d_tab0 20 (λ h. code_of_point (point_of l h)) h missing_point k

code_back : (o : Option ℕ) → PointFits o → point_of_code (code_of_point o) ≡ o
unfolding point_of_code code_of_point PointFits
code_back none f = refl
code_back (some v) f = rw (ne_eqb v missing_point (λ e. omega arith))

-- ---- the code after a line, by whether it is a C line (c), of a near year (a), and looked up in a near year (n)
stored_by : (n : Bool) (near far vs : List ℕ) (p i q j d x : ℕ) → (T n → get_or (sets near p vs) i d ≡ x) → (T (not n) → get_or (sets far q vs) j d ≡ x)
    → cond n (get_or (cond (true && n) (sets near p vs) near) i d) (get_or (cond (true && not n) (sets far q vs) far) j d) ≡ x
stored_by true near far vs p i q j d x f g = f tt
stored_by false near far vs p i q j d x f g = g tt

kept_by : (c a n : Bool) (near far vs : List ℕ) (p i q j d : ℕ) → (T c → T a → T n → get_or (sets near p vs) i d ≡ get_or near i d)
    → (T c → T (not a) → T (not n) → get_or (sets far q vs) j d ≡ get_or far j d)
    → cond n (get_or (cond (c && a) (sets near p vs) near) i d) (get_or (cond (c && not a) (sets far q vs) far) j d) ≡ cond n (get_or near i d) (get_or far j d)
kept_by true true true near far vs p i q j d f g = f tt tt tt
kept_by true true false near far vs p i q j d f g = refl
kept_by true false true near far vs p i q j d f g = refl
kept_by true false false near far vs p i q j d f g = g tt tt tt
kept_by false a n near far vs p i q j d f g = refl

module _ (s : Rec) (w : Blocks) (l : Line) (z : Sizes w) where
  code_stored : T (is C (tag_of l)) → WinterLine (history_of_site s.site) l → (h : ℕ) → h < 20
      → code_at s.site.al (blocks_after (tag_of l) l s w) (year_on l) (winter_on l) h ≡ code_of_point (point_of l h)
  unfolding code_at blocks_after near_start far_start
  code_stored c a h k =
      rw (is_true (is C (tag_of l)) c) (stored_by (is_near s.site.al (year_on l)) w.near w.far (point_codes l) _ _ _ _ missing_point (code_of_point (point_of l h))
      (λ n. row_stored w.near (point_codes l) (year_on l - (s.site.al - 9)) (winter_on l) h missing_point (length_codes l) (line_placed a).below k
      (omega (arith, near_row s.site (year_on l) a.year n, z.near)) ∙ code_of l h k)
      (λ n. row_stored w.far (point_codes l) (year_on l - (s.site.al - 14)) (winter_on l) h missing_point (length_codes l) (line_placed a).below k
      (omega (arith, far_row s.site (year_on l) a.year n, z.far)) ∙ code_of l h k))

  code_kept : (T (is C (tag_of l)) → WinterLine (history_of_site s.site) l) → (y v h : ℕ)
      → T (not (is C (tag_of l) && (eqb (year_on l) y && (eqb (winter_on l) v && ltb h 20)))) → T (among (history_of_site s.site) y) → v < 152 → h < 20
      → code_at s.site.al (blocks_after (tag_of l) l s w) y v h ≡ code_at s.site.al w y v h
  unfolding code_at blocks_after near_start far_start
  code_kept a y v h n b i j =
      kept_by (is C (tag_of l)) (is_near s.site.al (year_on l)) (is_near s.site.al y) w.near w.far (point_codes l) _ _ _ _ missing_point
      (λ c f g. row_kept w.near (point_codes l) (year_on l - (s.site.al - 9)) (winter_on l) (y - (s.site.al - 9)) v h missing_point (length_codes l)
      (line_placed (a c)).below i j
      (λ e k. unnamed C l y (eqb (winter_on l) v && ltb h 20) n c (omega (arith, near_row s.site (year_on l) (a c).year f, near_row s.site y b g)) (is_place_lem l v h (sym k) j)))
      (λ c f g. row_kept w.far (point_codes l) (year_on l - (s.site.al - 14)) (winter_on l) (y - (s.site.al - 14)) v h missing_point (length_codes l)
      (line_placed (a c)).below i j
      (λ e k. unnamed C l y (eqb (winter_on l) v && ltb h 20) n c (omega (arith, far_row s.site (year_on l) (a c).year f, far_row s.site y b g)) (is_place_lem l v h (sym k) j)))

  -- ---- and so the point
  point_stored : T (is C (tag_of l)) → WinterLine (history_of_site s.site) l → ((h : ℕ) → h < 20 → PointFits (point_of l h)) → (h : ℕ) → h < 20
      → point_held s.site (blocks_after (tag_of l) l s w) (year_on l) (winter_on l) h ≡ point_of l h
  unfolding point_held
  point_stored c a f h k =
      rw (is_within_lem (among (history_of_site s.site) (year_on l)) (winter_on l) h a.year (line_placed a).below k, code_stored c a h k)
      (code_back (point_of l h) (f h k))

  point_kept : (T (is C (tag_of l)) → WinterLine (history_of_site s.site) l) → (y v h : ℕ)
      → T (not (is C (tag_of l) && (eqb (year_on l) y && (eqb (winter_on l) v && ltb h 20))))
      → point_held s.site (blocks_after (tag_of l) l s w) y v h ≡ point_held s.site w y v h
  unfolding point_held
  point_kept a y v h n =
      where_same (among (history_of_site s.site) y && (ltb v 152 && ltb h 20)) (point_of_code (code_at s.site.al (blocks_after (tag_of l) l s w) y v h))
      (point_of_code (code_at s.site.al w y v h)) none
      (λ t. let i = within (among (history_of_site s.site) y) v h t in ap point_of_code (code_kept a y v h n i.year i.place i.half))

pub point_step : {axis : Years} (ls : List Line) (l : Line) (s : Rec) (w : Blocks) → Sizes w → Each (Dated axis) ls
    → (T (is C (tag_of l)) → WinterLine (history_of_site s.site) l) → (T (is C (tag_of l)) → (h : ℕ) → h < 20 → PointFits (point_of l h))
    → (T (is C (tag_of l)) → Each (Short C l) ls) → (y v h : ℕ) → point_held s.site w y v h ≡ point_in ls y v h
    → point_held s.site (blocks_after (tag_of l) l s w) y v h ≡ point_in (ls ++ (l ∷ [])) y v h
unfolding point_in point_on
point_step {axis} ls l s w z k a f short y v h e =
    found (λ o. or_else o none) (point_on y v h) ls l (is C (tag_of l) && (eqb (year_on l) y && (eqb (winter_on l) v && ltb h 20))) (point_of l h)
    (point_held s.site (blocks_after (tag_of l) l s w) y v h) (point_held s.site w y v h) refl e
    (λ t. let n = names C l y (eqb (winter_on l) v && ltb h 20) t in let p = at_place l v h n.date in
    each_map (λ m g. rw (winter_free C l m y v h tt tt (a n.tag) g.0 g.1 n.year p.0)) (each_both k (short n.tag)))
    (λ t. let n = names C l y (eqb (winter_on l) v && ltb h 20) t in let p = at_place l v h n.date in
    rw (← n.year, ← p.0) (point_stored s w l z n.tag (a n.tag) (f n.tag) h p.1))
    (point_kept s w l z a y v h)
