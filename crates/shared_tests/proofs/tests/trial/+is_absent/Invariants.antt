use Rattle.std.proofs.Common.{length}
use Rattle.shared_tests.proofs.tests.trial.+is_absent.Given as goal

abbrev pub decreases-is_absent : goal.decreases-is_absent
decreases-is_absent g l = length l.passes.now
