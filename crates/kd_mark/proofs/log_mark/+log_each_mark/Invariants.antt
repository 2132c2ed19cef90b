use Rattle.std.proofs.Common.{length}
use Rattle.kd_mark.proofs.log_mark.+log_each_mark.Given as goal

abbrev pub decreases-log_each_mark : goal.decreases-log_each_mark
decreases-log_each_mark l = length l.watches.now
