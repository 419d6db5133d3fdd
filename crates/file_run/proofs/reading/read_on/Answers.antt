use Rattle.std.proofs.Common.{refl, sym, ◌∙◌, arith}
use lib.ListN.{length-take}
use Rattle.file_run.proofs.ReadLoop.{waiting_first, waiting_next, at_input, at_answer, used_up}
use Rattle.file_run.proofs.reading.read_on.Goals as goal

pub loop-init : goal.loop-init
loop-init g c = (refl, waiting_first _ _)

pub returns-then-bytes-eq0 : goal.returns-then-bytes-eq0
returns-then-bytes-eq0 g c =
    let t = c.in_ok-bytes.ensures.bytes in
    at_input _ _ _ _ _ c.loop.invariant.1 _ (rw c.if-bytes-eq0.true at t.0) (t.1 c.if-bytes-eq0.true (omega (arith, c.loop.invariant.0)))

pub loop-preserved : goal.loop-preserved
loop-preserved g c =
    (omega (arith, c.loop.invariant.0), waiting_next _ _ _ _ _ c.loop.invariant.1 _ _ _ c.feed.ensures c.in_ok-bytes.ensures.bytes.0 (omega (arith, length-take c.in_ok-bytes.bytes c.read_piece.new.buf, c.in_ok-bytes.ensures.bound, c.if-bytes-eq0.false)) (sym c.is_final.ensures ∙ c.if-is_final.false))

pub returns-after-loop : goal.returns-after-loop
returns-after-loop g c = used_up _ _ _ _ _ c.loop.invariant.1 (omega (arith, c.loop-test.false))

pub returns-then-is_final : goal.returns-then-is_final
returns-then-is_final g c =
    at_answer _ _ _ _ _ c.loop.invariant.1 _ _ _ c.feed.ensures c.in_ok-bytes.ensures.bytes.0
    (omega (arith, length-take c.in_ok-bytes.bytes c.read_piece.new.buf, c.in_ok-bytes.ensures.bound, c.loop.invariant.0))
    (sym c.is_final.ensures ∙ c.if-is_final.true)
