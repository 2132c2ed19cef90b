use Rattle.std.proofs.Common.{length}
use Rattle.base_tests.proofs.tests.beside.+are_all_apart.Given as goal

abbrev pub decreases-are_all_apart : goal.decreases-are_all_apart
decreases-are_all_apart l = length l.watches.now
