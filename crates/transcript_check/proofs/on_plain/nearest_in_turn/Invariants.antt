use Rattle.std.proofs.Common.{◌≡◌, take}
use Rattle.map_fold.specs.Answers.{nears}
use Rattle.transcript_check.proofs.on_plain.nearest_in_turn.Given as goal

abbrev pub invariant-loop-point : goal.invariant-loop-point
invariant-loop-point l = l.lists ≡ nears l.map.items l.k (take l.point-index l.points)
