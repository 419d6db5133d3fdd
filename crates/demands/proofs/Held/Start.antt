-- The opening, and the line S: record and blocks say what the lines say.
use mathlib.Core.Path.{◌≡◌, refl, ap, sym, ◌∙◌}
use mathlib.Core.List.{List, [], ◌∷◌, ◌++◌}
use native.Mathlib.Omega.{arith}
use lib.Dec.{T}
use lib.ListN.{length, length-append}
use Rattle.lists.specs.Lists.{tab, each_nil, each_cons}
use Rattle.calendar.specs.declared.Years.{Years}
use Rattle.meaning.specs.Filing.{no_site}
use Rattle.meaning.specs.Line.{Line, S, tag_of, site_on}
use Rattle.meaning.specs.File.{axis_in, filing_in}
use Rattle.meaning.specs.Blocks.{Blocks, fresh_blocks, readings_of}
use Rattle.meaning.specs.Record.{Rec, empty_rec, fresh_rec, is_taken, site_of_rec, history_of_rec, axis_of_rec, contents_fit, filing_of}
use Rattle.meaning.specs.Sheet.{no_curve}
use Rattle.meaning.specs.Calls.{tallies_after, rec_after, blocks_after}
use Rattle.demands.proofs.Held.Parts.{HeldBlocks, Dated}
use Rattle.meaning.proofs.Sizes.{sizes_fit_lem}
use Rattle.demands.proofs.Held.Sizes.{fresh_sizes}
use Rattle.demands.proofs.Held.Contents.{contents_fit_lem, fresh_contents}
use Rattle.demands.proofs.Held.Opening.{fresh_held, none_in, first_in}

-- ---- no line yet
fresh_curve : fresh_blocks.curve ≡ no_curve
unfolding fresh_blocks no_curve
fresh_curve = refl

pub blocks_fresh : HeldBlocks [] fresh_rec fresh_blocks
unfolding filing_of fresh_rec empty_rec site_of_rec is_taken readings_of tab
blocks_fresh = record {
  sized = sizes_fit_lem fresh_blocks fresh_sizes;
  filing = fresh_held no_site ∙ sym none_in;
  contents = contents_fit_lem fresh_rec fresh_blocks (fresh_contents (history_of_rec fresh_rec) (axis_of_rec fresh_rec) no_site.al);
  curve = fresh_curve;
  unread = λ e. (refl, refl);
  dated = each_nil;
}

pub never_nil : (ls : List Line) (l : Line) → ls ++ (l ∷ []) ≡ [] → ⊥
never_nil ls l e = omega (arith, ap length e, length-append ls (l ∷ []))

-- ---- S is taken
first_world : (l : Line) (s : Rec) (w : Blocks) → blocks_after S l s w ≡ w
unfolding blocks_after
first_world l s w = refl

first_filing : (l : Line) → tag_of l ≡ S → filing_of (rec_after S l fresh_rec) fresh_blocks ≡ filing_in (l ∷ [])
unfolding filing_of rec_after tallies_after fresh_rec empty_rec site_of_rec is_taken
first_filing l u = fresh_held (site_on l) ∙ sym (first_in l u)

first_contents : (l : Line) → T (contents_fit (rec_after S l fresh_rec) fresh_blocks)
unfolding rec_after fresh_rec empty_rec readings_of tab
first_contents l =
    contents_fit_lem (rec_after S l fresh_rec) fresh_blocks (fresh_contents (history_of_rec (rec_after S l fresh_rec)) (axis_of_rec (rec_after S l fresh_rec)) (site_on l).al)

first_dated : (axis : Years) (l : Line) → tag_of l ≡ S → Dated axis l
first_dated axis l u = record { day = λ t. absurd (rw u at t); winter = λ t. absurd (rw u at t); year = λ t. absurd (rw u at t) }

pub blocks_first : (l : Line) → tag_of l ≡ S → HeldBlocks ([] ++ (l ∷ [])) (rec_after (tag_of l) l fresh_rec) (blocks_after (tag_of l) l fresh_rec fresh_blocks)
blocks_first l u = rw (u, first_world l fresh_rec fresh_blocks) (record {
  sized = sizes_fit_lem fresh_blocks fresh_sizes;
  filing = first_filing l u;
  contents = first_contents l;
  curve = fresh_curve;
  unread = λ e. absurd (never_nil [] l e);
  dated = each_cons {x = l} (first_dated (axis_in (l ∷ [])) l u) each_nil;
})
