use mathlib.Core.Path.{◌≡◌, ap, sym, ◌∙◌}
use native.Mathlib.Omega.{arith}
use lib.ListN.{length, length-take}
use borrow.Author.Rules.{rules}
use Rattle.pieces.specs.Run as meant
use Rattle.pieces.specs.Run.{fed}
use Rattle.pieces.proofs.Feeding.{kept}
use Rattle.readings.specs.Readings.{readings_view}
use Rattle.readings.specs.Columns.{lent_blocks}
use Rattle.record_calls.specs.Views.{call_view}
use Rattle.run.specs.RunViews.{run_view}
use Rattle.run.proofs.Feeds.{join_fits, join_on, join_given, none_begun}
use Rattle.run.proofs.Run.fed.Goals as goal

pub returns-then-is_final : goal.returns-then-is_final
returns-then-is_final c =
    let a = c.args in
    sym (kept (run_view a.self (lent_blocks a.near.now a.far.now a.slots.now a.daily.now (readings_view a.readings.now) a.curve.now)) a.piece.now (sym c.is_final.ensures ∙ c.if-is_final.true))

pub returns-then-is_empty : goal.returns-then-is_empty
returns-then-is_empty c =
    let a = c.args in
    let o = call_view a.self.call (lent_blocks a.near.now a.far.now a.slots.now a.daily.now (readings_view a.readings.now) a.curve.now) in
    c.feed_lines.ensures ∙ ap (λ (r : meant.Run). fed r a.piece.now) (sym (none_begun o a.self.pending (sym c.is_empty.ensures ∙ c.if-is_empty.true)))

pub slice_bounds-line-end : goal.slice_bounds-line-end
slice_bounds-line-end c =
    let p = c.args.self.pending in
    let n : length p.line ≡ 321 = (let g = c.well_formed in search rules) in
    omega (arith, n, join_fits p c.args.piece.now _ _ _ (sym c.join.ensures ∙ c.in-Whole.is))

pub slice_bounds-whole-end : goal.slice_bounds-whole-end
slice_bounds-whole-end c =
    let p = c.args.self.pending in
    let n : length p.line ≡ 321 = (let g = c.well_formed in search rules) in
    omega (arith, n, length-take c.in-Whole.bytes c.in-Whole.line, join_fits p c.args.piece.now _ _ _ (sym c.join.ensures ∙ c.in-Whole.is))

pub slice_bounds-rest-count : goal.slice_bounds-rest-count
slice_bounds-rest-count c = (join_fits c.args.self.pending c.args.piece.now _ _ _ (sym c.join.ensures ∙ c.in-Whole.is)).2

pub slice_bounds-rest-start : goal.slice_bounds-rest-start
slice_bounds-rest-start c = omega (arith, join_fits c.args.self.pending c.args.piece.now _ _ _ (sym c.join.ensures ∙ c.in-Whole.is))

pub returns-in-Begun : goal.returns-in-Begun
returns-in-Begun c =
    let a = c.args in
    let p = a.self.pending in
    let n : length p.line ≡ 321 = (let g = c.well_formed in search rules) in
    join_on p a.piece.now (call_view a.self.call (lent_blocks a.near.now a.far.now a.slots.now a.daily.now (readings_view a.readings.now) a.curve.now)) n (sym c.is_final.ensures ∙ c.if-is_final.false) c.in-Begun.pending (sym c.join.ensures ∙ c.in-Begun.is)

pub returns-in-Whole : goal.returns-in-Whole
returns-in-Whole c =
    let a = c.args in
    let p = a.self.pending in
    let n : length p.line ≡ 321 = (let g = c.well_formed in search rules) in
    c.feed_lines-in-Whole.ensures
    ∙ join_given p a.piece.now (call_view a.self.call (lent_blocks a.near.now a.far.now a.slots.now a.daily.now (readings_view a.readings.now) a.curve.now)) n (sym c.is_final.ensures ∙ c.if-is_final.false) _ _ _ (sym c.join.ensures ∙ c.in-Whole.is) _ c.line-call.ensures
