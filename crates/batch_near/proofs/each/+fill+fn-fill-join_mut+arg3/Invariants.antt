use Rattle.std.proofs.Common.{◌*◌, ◌-◌}
use Rattle.batch_near.proofs.each.+fill+fn-fill-join_mut+arg3.Given as goal

abbrev pub decreases-fill : goal.decreases-fill
decreases-fill g l = 2 * l.pieces

abbrev pub decreases-join_mut+arg3 : goal.decreases-join_mut+arg3
decreases-join_mut+arg3 g l = 2 * l.pieces - 1
