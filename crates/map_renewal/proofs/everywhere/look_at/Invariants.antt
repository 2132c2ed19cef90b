use Rattle.std.proofs.Common.{All, take}
use Rattle.point_geom.specs.Place.{IsPlace}
use Rattle.map_renewal.proofs.everywhere.look_at.Given as goal

abbrev pub invariant-loop-point : goal.invariant-loop-point
invariant-loop-point l = All IsPlace (take l.point-index l.points)
