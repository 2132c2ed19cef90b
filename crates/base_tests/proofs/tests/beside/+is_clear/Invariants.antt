use Rattle.std.proofs.Common.{length}
use Rattle.base_tests.proofs.tests.beside.+is_clear.Given as goal

abbrev pub decreases-is_clear : goal.decreases-is_clear
decreases-is_clear l = length l.watches.now
