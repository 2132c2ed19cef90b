use Rattle.std.proofs.Common.{length}
use Rattle.kd_update.proofs.replacing.replace.+replaced_along.Given as goal

abbrev pub decreases-replaced_along : goal.decreases-replaced_along
decreases-replaced_along g l = length l.sides.now
