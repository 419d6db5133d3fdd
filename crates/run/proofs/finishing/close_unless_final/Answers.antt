use mathlib.Core.Path.{ap, sym, ◌∙◌}
use Rattle.readings.specs.Readings.{readings_view}
use Rattle.readings.specs.Columns.{lent_blocks}
use Rattle.close.specs.Ends.{no_years, close_repr}
use Rattle.record_calls.specs.Views.{view, call_view}
use Rattle.run.proofs.Ends.{back_answered, shut_open}
use Rattle.run.proofs.finishing.close_unless_final.Goals as goal

pub returns-then-is_final : goal.returns-then-is_final
unfolding no_years
returns-then-is_final c =
    let a = c.args in
    let w = lent_blocks a.near.now a.far.now a.slots.now a.daily.now (readings_view a.readings.now) a.curve.now in
    back_answered a.call.answer (view a.call.«record») w (sym c.is_final.ensures ∙ c.if-is_final.true)

pub returns : goal.returns
returns c =
    let a = c.args in
    let w = lent_blocks a.near.now a.far.now a.slots.now a.daily.now (readings_view a.readings.now) a.curve.now in
    c.close.ensures ∙ ap close_repr (sym (shut_open (call_view a.call w) (sym c.is_final.ensures ∙ c.if-is_final.false)))
