use Rattle.std.proofs.Common.{List, All, subst}
use Rattle.std.proofs.lemmas.List.{take_all}
use Rattle.std.proofs.lemmas.List.Elements.{All-more}
use Rattle.point_geom.specs.Place.{Bounds}
use Rattle.scan_log.specs.declared.format.Format.TheVariants.{Two}
use Rattle.scan_log.specs.Scripts.{IsCallerBox}
use Rattle.history_log.proofs.fitting.are_each.Goals as goal

pub loop-cuboid-preserved : goal.loop-cuboid-preserved
loop-cuboid-preserved c =
    All-more (IsCallerBox Two) c.args.boxes.now c.loop-cuboid.cuboid-index c.cuboid-item.result c.loop-cuboid-test.true c.loop-cuboid.invariant
    (subst (IsCallerBox Two) c.cuboid-item.is (c.is_box.ensures.yes c.if-not-is_box.false))

pub returns-clause-yes : goal.returns-clause-yes
returns-clause-yes c is = subst (λ (z : List Bounds). All (IsCallerBox Two) z) (take_all c.loop-cuboid.cuboid-index c.args.boxes.now c.loop-cuboid-test.false) c.loop-cuboid.invariant
