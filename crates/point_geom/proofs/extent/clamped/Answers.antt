use Rattle.std.proofs.Common.{arith}
use Rattle.std.proofs.lemmas.Int.{ints, clamps}
use Rattle.point_geom.proofs.extent.clamped.Goals as goal

pub returns-clause-range : goal.returns-clause-range
returns-clause-range c = (omega (arith, ints, clamps, c.max.ensures, c.min.ensures), omega (arith, ints, clamps, c.max.ensures, c.min.ensures))
