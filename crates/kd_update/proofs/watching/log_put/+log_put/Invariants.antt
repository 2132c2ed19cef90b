use Rattle.std.proofs.Common.{length}
use Rattle.kd_update.proofs.watching.log_put.+log_put.Given as goal

abbrev pub decreases-log_put : goal.decreases-log_put
decreases-log_put l = length l.sides.now
