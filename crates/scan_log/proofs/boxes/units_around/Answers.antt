use Rattle.std.proofs.Common.{arith}
use Rattle.std.proofs.lemmas.List.{map_more}
use Rattle.point_geom.specs.Boxes.{unit_box}
use Rattle.scan_log.proofs.boxes.units_around.Goals as goal

pub loop-point-preserved : goal.loop-point-preserved
loop-point-preserved c =
    let more = map_more unit_box c.args.points.now c.loop-point.point-index c.point-item.result (omega arith) in
    cc (more, c.in_ok-push.ensures.items, c.unit.ensures.value, c.loop-point.invariant, c.point-item.is)
