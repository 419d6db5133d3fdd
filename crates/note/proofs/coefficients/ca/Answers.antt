use Rattle.std.proofs.Common.{rules}
use mathlib.Core.Path.{sym}
use Prim.Native.Nat.{◌≤◌}
use Rattle.note.specs.Coefficients.{column_of, ca_table, ca_of}
use Rattle.note.proofs.Annual.{entry}
use Rattle.note.proofs.coefficients.ca.Goals as goal

pub returns : goal.returns
unfolding ca_of ca_table
returns c =
    let l : 2007 ≤ c.args.year = search rules in
    let m : c.args.year ≤ 2024 = search rules in
    rw c.column-c.ensures (sym (entry ca_table c.args.year (column_of c.args.filiere) l m (rw c.column-c.ensures at c.if-c-ge7.false)))
