use Rattle.std.proofs.Common.{length}
use Rattle.rebuild_parts.proofs.logs.+add_logs.Given as goal

abbrev pub decreases-add_logs : goal.decreases-add_logs
decreases-add_logs l = length l.parts.now
