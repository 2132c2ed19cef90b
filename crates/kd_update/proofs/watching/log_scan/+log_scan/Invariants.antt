use Rattle.std.proofs.Common.{length}
use Rattle.kd_update.proofs.watching.log_scan.+log_scan.Given as goal

abbrev pub decreases-log_scan : goal.decreases-log_scan
decreases-log_scan l = length l.sides.now
