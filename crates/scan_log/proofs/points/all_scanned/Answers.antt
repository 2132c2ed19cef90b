use Rattle.std.proofs.Common.{◌≤◌, length, length-drop, sym, ◌∙◌, arith}
use Rattle.scan_log.proofs.Fronts.{scanned_next}
use Rattle.scan_log.proofs.points.all_scanned.Goals as goal

pub loop-preserved : goal.loop-preserved
loop-preserved c =
    let fields = c.loop.fields in
    let p = c.in_ok-point.ensures in
    let some : 4 ≤ length fields = omega (arith, c.loop.invariant.count, c.loop-test.true) in
    record {
      left = rw (c.in_ok-push.ensures.items, p.rest) (sym (scanned_next c.loop.points.items fields c.in_ok-point.point some (sym p.value)) ∙ c.loop.invariant.left);
      count = rw p.rest (omega (arith, length-drop 4 fields, some, c.loop.invariant.count));
    }
