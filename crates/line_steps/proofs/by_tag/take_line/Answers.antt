use mathlib.Core.Path.{ap, sym, ◌∙◌}
use Rattle.meaning.specs.Line.{S, C, X, D, P, B, R, E}
use Rattle.line_form.specs.Views.{tag_view}
use Rattle.line_form.proofs.TagLaws.{unknown}
use Rattle.progress.specs.ProgressViews.{open_rec, without_reading}
use Rattle.progress.specs.Steps.{line_blocks}
use Rattle.progress.proofs.Steps.{step_2, step_3, stay_s, stay_c, stay_x, stay_d, stay_p, stay_b, stay_r, stay_e}
use Rattle.progress.proofs.Rows.{few_profiles, few_sums}
use Rattle.line_steps.proofs.Dispatch.{known_as}
use Rattle.line_steps.proofs.by_tag.take_line.Goals as goal

pub returns-then-is_illegible : goal.returns-then-is_illegible
returns-then-is_illegible c =
    let a = c.args in
    step_2 (open_rec a.count a.progress.now) a.line.now (line_blocks a.near.now a.far.now a.slots.now a.daily.now) (sym c.is_illegible.ensures ∙ c.if-is_illegible.true)

pub returns-in_default : goal.returns-in_default
returns-in_default c =
    let a = c.args in
    step_3 (open_rec a.count a.progress.now) a.line.now (line_blocks a.near.now a.far.now a.slots.now a.daily.now) (sym c.is_illegible.ensures ∙ c.if-is_illegible.false) (unknown a.line.now (sym c.in_default.ensures))

pub site_line-requires : goal.site_line-requires
site_line-requires c = known_as S c.args.line.now _ c.in-Some.tag c.is_illegible.ensures c.if-is_illegible.false c.in-Some.ensures (ap tag_view c.in-S.is) tt

pub points_line-requires : goal.points_line-requires
points_line-requires c = (known_as C c.args.line.now _ c.in-Some.tag c.is_illegible.ensures c.if-is_illegible.false c.in-Some.ensures (ap tag_view c.in-C.is) tt, (c.requires.1.near, c.requires.1.far))

pub reading_line-requires : goal.reading_line-requires
reading_line-requires c = known_as X c.args.line.now _ c.in-Some.tag c.is_illegible.ensures c.if-is_illegible.false c.in-Some.ensures (ap tag_view c.in-X.is) tt

pub daily_line-requires : goal.daily_line-requires
daily_line-requires c = (known_as D c.args.line.now _ c.in-Some.tag c.is_illegible.ensures c.if-is_illegible.false c.in-Some.ensures (ap tag_view c.in-D.is) tt, few_sums (open_rec c.args.count c.args.progress.now) c.requires.0, c.requires.1.daily)

pub profiles_line-requires : goal.profiles_line-requires
profiles_line-requires c = (known_as P c.args.line.now _ c.in-Some.tag c.is_illegible.ensures c.if-is_illegible.false c.in-Some.ensures (ap tag_view c.in-P.is) tt, few_profiles (open_rec c.args.count c.args.progress.now) c.requires.0, c.requires.1.slots)

pub break_line-requires : goal.break_line-requires
break_line-requires c = known_as B c.args.line.now _ c.in-Some.tag c.is_illegible.ensures c.if-is_illegible.false c.in-Some.ensures (ap tag_view c.in-B.is) tt

pub rate_line-requires : goal.rate_line-requires
rate_line-requires c = known_as R c.args.line.now _ c.in-Some.tag c.is_illegible.ensures c.if-is_illegible.false c.in-Some.ensures (ap tag_view c.in-R.is) tt

pub end_line-requires : goal.end_line-requires
end_line-requires c = known_as E c.args.line.now _ c.in-Some.tag c.is_illegible.ensures c.if-is_illegible.false c.in-Some.ensures (ap tag_view c.in-E.is) tt

pub returns-in-S : goal.returns-in-S
returns-in-S c =
    let a = c.args in
    rw c.no_reading.ensures (stay_s a.count a.progress.now _ a.line.now (without_reading c.site_line.result) (line_blocks a.near.now a.far.now a.slots.now a.daily.now) (known_as S c.args.line.now _ c.in-Some.tag c.is_illegible.ensures c.if-is_illegible.false c.in-Some.ensures (ap tag_view c.in-S.is) tt).tag (c.site_line.ensures a.count))

pub returns-in-C : goal.returns-in-C
returns-in-C c =
    let a = c.args in
    rw c.no_reading-in-C.ensures (stay_c a.count a.progress.now _ a.line.now (without_reading c.points_line.result) (line_blocks a.near.now a.far.now a.slots.now a.daily.now) _ _ (known_as C c.args.line.now _ c.in-Some.tag c.is_illegible.ensures c.if-is_illegible.false c.in-Some.ensures (ap tag_view c.in-C.is) tt).tag (c.points_line.ensures a.count))

pub returns-in-X : goal.returns-in-X
returns-in-X c =
    let a = c.args in
    stay_x a.count a.progress.now _ a.line.now c.reading_line.result (line_blocks a.near.now a.far.now a.slots.now a.daily.now) (known_as X c.args.line.now _ c.in-Some.tag c.is_illegible.ensures c.if-is_illegible.false c.in-Some.ensures (ap tag_view c.in-X.is) tt).tag (c.reading_line.ensures a.count)

pub returns-in-D : goal.returns-in-D
returns-in-D c =
    let a = c.args in
    rw c.no_reading-in-D.ensures (stay_d a.count a.progress.now _ a.line.now (without_reading c.daily_line.result) (line_blocks a.near.now a.far.now a.slots.now a.daily.now) _ (known_as D c.args.line.now _ c.in-Some.tag c.is_illegible.ensures c.if-is_illegible.false c.in-Some.ensures (ap tag_view c.in-D.is) tt).tag (c.daily_line.ensures a.count))

pub returns-in-P : goal.returns-in-P
returns-in-P c =
    let a = c.args in
    rw c.no_reading-in-P.ensures (stay_p a.count a.progress.now _ a.line.now (without_reading c.profiles_line.result) (line_blocks a.near.now a.far.now a.slots.now a.daily.now) _ (known_as P c.args.line.now _ c.in-Some.tag c.is_illegible.ensures c.if-is_illegible.false c.in-Some.ensures (ap tag_view c.in-P.is) tt).tag (c.profiles_line.ensures a.count))

pub returns-in-B : goal.returns-in-B
returns-in-B c =
    let a = c.args in
    rw c.no_reading-in-B.ensures (stay_b a.count a.progress.now _ a.line.now (without_reading c.break_line.result) (line_blocks a.near.now a.far.now a.slots.now a.daily.now) (known_as B c.args.line.now _ c.in-Some.tag c.is_illegible.ensures c.if-is_illegible.false c.in-Some.ensures (ap tag_view c.in-B.is) tt).tag (c.break_line.ensures a.count))

pub returns-in-R : goal.returns-in-R
returns-in-R c =
    let a = c.args in
    rw c.no_reading-in-R.ensures (stay_r a.count a.progress.now _ a.line.now (without_reading c.rate_line.result) (line_blocks a.near.now a.far.now a.slots.now a.daily.now) (known_as R c.args.line.now _ c.in-Some.tag c.is_illegible.ensures c.if-is_illegible.false c.in-Some.ensures (ap tag_view c.in-R.is) tt).tag (c.rate_line.ensures a.count))

pub returns-in-E : goal.returns-in-E
returns-in-E c =
    let a = c.args in
    rw c.no_reading-in-E.ensures (stay_e a.count a.progress.now _ a.line.now (without_reading c.end_line.result) (line_blocks a.near.now a.far.now a.slots.now a.daily.now) (known_as E c.args.line.now _ c.in-Some.tag c.is_illegible.ensures c.if-is_illegible.false c.in-Some.ensures (ap tag_view c.in-E.is) tt).tag c.end_line.ensures)
