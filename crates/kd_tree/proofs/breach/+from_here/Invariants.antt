use Rattle.std.proofs.Common.{length}
use Rattle.kd_tree.proofs.breach.+from_here.Given as goal

abbrev pub decreases-from_here : goal.decreases-from_here
decreases-from_here l = length l.except.now
