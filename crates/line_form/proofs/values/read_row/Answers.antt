use mathlib.Core.Path.{refl, ◌∙◌, sym}
use native.Mathlib.Omega.{arith}
use lib.ListN.{length-set}
use Rattle.line_form.proofs.Rows.{no_row, row_more, row_read}
use Rattle.line_form.proofs.values.read_row.Goals as goal

pub loop-h-init : goal.loop-h-init
loop-h-init g c = record { all_places = refl; so_far = no_row _ _ _ _ }

pub loop-h-preserved : goal.loop-h-preserved
loop-h-preserved g c =
    let inv = c.loop-h.invariant in
    record {
      all_places = length-set c.loop-h.values c.loop-h.h _ ∙ inv.all_places;
      so_far = row_more _ _ _ _ _ _ _ inv.so_far c.split-value.ensures.first _ _ c.split-value.ensures.after (omega arith) (sym c.in_ok-values.was ∙ c.read.ensures);
    }

pub returns : goal.returns
returns g c = let inv = c.loop-h.invariant in row_read _ _ _ _ _ c.loop-h.h inv.so_far inv.all_places (omega arith) (omega arith)
