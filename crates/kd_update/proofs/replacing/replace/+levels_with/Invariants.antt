use Rattle.std.proofs.Common.{length}
use Rattle.kd_update.proofs.replacing.replace.+levels_with.Given as goal

abbrev pub decreases-levels_with : goal.decreases-levels_with
decreases-levels_with l = length l.sides.now
