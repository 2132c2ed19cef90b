use Rattle.std.proofs.Common.{length}
use Rattle.map_update.proofs.draft.Draft.+without_full.Given as goal

abbrev pub decreases-without_full : goal.decreases-without_full
decreases-without_full g l = length l.self.watches
