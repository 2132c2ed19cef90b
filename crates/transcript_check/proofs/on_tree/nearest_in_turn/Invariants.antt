use Rattle.std.proofs.Common.{◌≡◌, take}
use Rattle.kd_tree.specs.Contents.{contents}
use Rattle.map_fold.specs.Answers.{nears}
use Rattle.transcript_check.proofs.on_tree.nearest_in_turn.Given as goal

abbrev pub invariant-loop-point : goal.invariant-loop-point
invariant-loop-point l = l.lists ≡ nears (contents l.tree) l.k (take l.point-index l.points)
