use Rattle.std.proofs.Common.{ap}
use Rattle.kd_update.specs.Detached.{PartAt}
use Rattle.rebuild_parts.proofs.OtherParts.{paths_next}
use Rattle.rebuild_parts.proofs.part.paths_of.Goals as goal

pub loop-part-preserved : goal.loop-part-preserved
loop-part-preserved c =
    paths_next c.args.parts.now c.loop-part.part-index c.part-item.result c.part.inside.path c.loop-part.paths.items
    c.push.new.self.items c.loop-part-test.true c.part-item.is (ap (λ (p : PartAt). p.path) c.part.view_is)
    c.loop-part.invariant
    c.in_ok-push.ensures.items
