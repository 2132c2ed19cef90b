use Rattle.std.proofs.Common.{length}
use Rattle.kd_mark.proofs.log_mark.+log_mark.Given as goal

abbrev pub decreases-log_mark : goal.decreases-log_mark
decreases-log_mark l = length l.sides.now
