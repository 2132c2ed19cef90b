use Rattle.std.proofs.Common.{◌∷◌, sym, ◌∙◌}
use Rattle.scan_log.proofs.Fronts.{boxes_more}
use Rattle.scan_log.proofs.boxes.all_boxes.Goals as goal

pub loop-x-preserved : goal.loop-x-preserved
loop-x-preserved c =
    let before = rw c.in-Some.ensures at c.loop-x.invariant in
    rw c.in_ok-push.ensures.items (sym (boxes_more c.args.format c.loop-x.boxes.items c.in_ok-cuboid.cuboid
    (c.in-Some.x.now ∷ c.next.new.self) c.box_from.new.fields c.in_ok-cuboid.ensures.value) ∙ before)
