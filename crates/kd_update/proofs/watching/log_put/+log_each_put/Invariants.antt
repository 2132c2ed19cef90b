use Rattle.std.proofs.Common.{length}
use Rattle.kd_update.proofs.watching.log_put.+log_each_put.Given as goal

abbrev pub decreases-log_each_put : goal.decreases-log_each_put
decreases-log_each_put l = length l.watches.now
