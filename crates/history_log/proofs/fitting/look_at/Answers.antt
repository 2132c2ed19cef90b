use Rattle.std.proofs.Common.{List, All, subst}
use Rattle.std.proofs.lemmas.List.{take_all}
use Rattle.std.proofs.lemmas.List.Elements.{All-more}
use Rattle.point_geom.specs.Place.{Place, IsPlace}
use Rattle.history_log.proofs.fitting.look_at.Goals as goal

pub loop-point-preserved : goal.loop-point-preserved
loop-point-preserved c =
    All-more IsPlace c.args.points.now c.loop-point.point-index c.point-item.result c.loop-point-test.true c.loop-point.invariant (subst IsPlace c.point-item.is c.intensity.ensures.place)

pub returns : goal.returns
returns c = subst (λ (z : List Place). All IsPlace z) (take_all c.loop-point.point-index c.args.points.now c.loop-point-test.false) c.loop-point.invariant
