use Rattle.std.proofs.Common.{All, take}
use Rattle.scan_log.specs.declared.format.Format.TheVariants.{Two}
use Rattle.scan_log.specs.Scripts.{IsCallerBox}
use Rattle.history_log.proofs.fitting.are_each.Given as goal

abbrev pub invariant-loop-cuboid : goal.invariant-loop-cuboid
invariant-loop-cuboid l = All (IsCallerBox Two) (take l.cuboid-index l.boxes)
