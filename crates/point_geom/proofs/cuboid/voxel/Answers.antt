use Rattle.std.proofs.Common.{arith}
use Rattle.std.proofs.lemmas.Int.{to_z-of_z}
use Rattle.point_geom.proofs.Laws.{voxel_held, voxel_on_grid}
use Rattle.point_geom.proofs.cuboid.voxel.Goals as goal

pub returns-clause-value : goal.returns-clause-value
returns-clause-value c = grind (arith, to_z-of_z)

pub returns-clause-inside : goal.returns-clause-inside
returns-clause-inside c = rw (returns-clause-value c) (voxel_held c.args.length c.args.p.now c.requires.positive)

pub returns-clause-grid : goal.returns-clause-grid
returns-clause-grid c = rw (returns-clause-value c) (voxel_on_grid c.args.length c.args.p.now c.requires.positive)
