use Rattle.std.proofs.Common.{◌≡◌, map, take}
use Rattle.point_geom.specs.Boxes.{unit_box}
use Rattle.scan_log.proofs.boxes.units_around.Given as goal

abbrev pub invariant-loop-point : goal.invariant-loop-point
invariant-loop-point l = l.units.items ≡ map unit_box (take l.point-index l.points)
