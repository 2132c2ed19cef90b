use Rattle.std.proofs.Common.{length}
use Rattle.published_map.proofs.marked_subtree.+index_of.Given as goal

abbrev pub decreases-index_of : goal.decreases-index_of
decreases-index_of g l = length l.marked.now
