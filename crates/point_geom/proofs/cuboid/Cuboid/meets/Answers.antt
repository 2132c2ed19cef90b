use Rattle.std.proofs.Common.{arith}
use Rattle.std.proofs.lemmas.Int.{to_z-of_z}
use Rattle.point_geom.proofs.Laws.{held_meets, meets_held}
use Rattle.point_geom.proofs.cuboid.Cuboid.meets.Goals as goal

pub returns-clause-value : goal.returns-clause-value
returns-clause-value c = grind (arith, to_z-of_z)

pub returns-clause-meaning : goal.returns-clause-meaning
returns-clause-meaning c =
    rw (returns-clause-value c) (
      λ h. meets_held c.args.self.now c.args.e.now c.lo-low.ensures.below h,
      λ h. held_meets c.args.self.now c.args.e.now h.point h.held h.inside,
    )
