use mathlib.Core.Path.{◌≡◌}
use lib.ListN.{length}
use Rattle.line_form.proofs.Rows.{RowSoFar}
use Rattle.line_form.proofs.values.read_row.Given as goal

abbrev pub invariant-loop-h : goal.invariant-loop-h
invariant-loop-h g l = record { all_places : length l.values ≡ 20; so_far : RowSoFar g.V.Value.form g.V.Value.value_in l.after_date l.rest l.values l.h }
