use Rattle.std.proofs.Common.{length}
use Rattle.kd_update.proofs.watching.log_scan.+log_each_scan.Given as goal

abbrev pub decreases-log_each_scan : goal.decreases-log_each_scan
decreases-log_each_scan l = length l.watches.now
