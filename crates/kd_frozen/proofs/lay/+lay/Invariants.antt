use Rattle.std.proofs.Common.{length}
use Rattle.kd_frozen.proofs.lay.+lay.Given as goal

abbrev pub decreases-lay : goal.decreases-lay
decreases-lay l = length l.cells.now
