use Rattle.std.proofs.Common.{length}
use Rattle.base_tests.proofs.tests.watching.+are_large.Given as goal

abbrev pub decreases-are_large : goal.decreases-are_large
decreases-are_large l = length l.watches.now
