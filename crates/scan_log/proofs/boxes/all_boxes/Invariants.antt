use Rattle.std.proofs.Common.{◌≡◌, length}
use Rattle.scan_log.specs.Reading.{boxes_of}
use Rattle.scan_log.proofs.Fronts.{with_front}
use Rattle.scan_log.proofs.boxes.all_boxes.Given as goal

abbrev pub invariant-loop-x : goal.invariant-loop-x
invariant-loop-x l = with_front l.boxes.items (boxes_of l.format l.fields) ≡ boxes_of l.fn.format l.fn.fields

abbrev pub decreases-loop-x : goal.decreases-loop-x
decreases-loop-x l = length l.fields
