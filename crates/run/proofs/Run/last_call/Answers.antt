use mathlib.Core.Path.{◌≡◌, sym, ◌∙◌}
use lib.ListN.{length}
use borrow.Author.Rules.{rules}
use Rattle.readings.specs.Readings.{readings_view}
use Rattle.readings.specs.Columns.{lent_blocks}
use Rattle.record_calls.specs.Views.{call_view}
use Rattle.run.proofs.Ends.{ended_answered, ended_empty, ended_last}
use Rattle.run.proofs.Run.last_call.Goals.{then-is_final-via-then-is_final, then-is_final-via-else-is_final+then-is_empty}
use Rattle.run.proofs.Run.last_call.Goals as goal

pub returns-then-is_final : goal.returns-then-is_final
returns-then-is_final c =
    let a = c.args in
    let p = a.self.pending in
    let o = call_view a.self.call (lent_blocks a.near.now a.far.now a.slots.now a.daily.now (readings_view a.readings.now) a.curve.now) in
    elim c.then-is_final.branch [
      | then-is_final-via-then-is_final w ↦ ended_answered o _ (sym c.is_final.ensures ∙ w.if-is_final.true)
      | then-is_final-via-else-is_final+then-is_empty w ↦ ended_empty o p (sym c.is_final.ensures ∙ w.if-is_final.false) (sym w.is_empty.ensures ∙ w.if-is_empty.true)
    ]

pub returns : goal.returns
returns c =
    let a = c.args in
    let p = a.self.pending in
    let o = call_view a.self.call (lent_blocks a.near.now a.far.now a.slots.now a.daily.now (readings_view a.readings.now) a.curve.now) in
    let n : length p.line ≡ 321 = (let g = c.well_formed in search rules) in
    ended_last o p _ n (sym c.is_final.ensures ∙ c.if-is_final.false) (sym c.is_empty.ensures ∙ c.if-is_empty.false) (rw c.bytes-last.ensures at c.line.ensures)
