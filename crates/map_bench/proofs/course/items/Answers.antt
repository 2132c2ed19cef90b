use Rattle.std.proofs.Common.{arith}
use Rattle.map_items.proofs.Numbered.{contents_push}
use Rattle.map_bench.proofs.course.items.Goals as goal

pub loop-number-preserved : goal.loop-number-preserved
loop-number-preserved c =
    rw (c.in_ok-push.ensures.ok, c.live.ensures) (contents_push 0 c.loop-number.number c.loop-number.items c.point-point.result (omega arith) c.loop-number.invariant)
