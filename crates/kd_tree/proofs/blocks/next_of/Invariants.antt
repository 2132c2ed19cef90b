use Rattle.std.proofs.Common.{length}
use Rattle.kd_tree.proofs.blocks.next_of.Given as goal

abbrev pub decreases-loop-tree : goal.decreases-loop-tree
decreases-loop-tree l = length l.trees.items
