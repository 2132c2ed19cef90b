use Rattle.std.proofs.Common.{◌∙◌, ap, subst, List, arith}
use Rattle.std.proofs.lemmas.List.{take_all}
use Rattle.point_geom.specs.Extents.{joined_span}
use Rattle.kd_search.specs.Points.{AreIn}
use Rattle.kd_frozen.specs.declared.cell.Cell.{Cell}
use Rattle.kd_frozen.specs.Cells.{items_of}
use Rattle.kd_frozen.proofs.Hulls.{hull_grown, hull_keeps}
use Rattle.kd_frozen.proofs.hull.hull_with.Goals as goal

pub loop-cell-preserved : goal.loop-cell-preserved
loop-cell-preserved c =
    let is = c.join-hull.ensures.value ∙ ap (λ s. joined_span c.loop-cell.hull s) c.of.ensures in
    record {
      first = hull_keeps c.loop-cell.hull c.join-hull.result c.args.first.now c.cell-item.result.point is c.loop-cell.invariant.first;
      rest = hull_grown c.loop-cell.hull c.join-hull.result c.args.rest.now c.loop-cell.cell-index c.cell-item.result (omega arith) c.cell-item.is is c.loop-cell.invariant.rest;
    }

pub returns-clause-rest : goal.returns-clause-rest
returns-clause-rest c =
    subst (λ (z : List Cell). AreIn c.loop-cell.hull (items_of z)) (take_all c.loop-cell.cell-index c.args.rest.now (omega arith)) c.loop-cell.invariant.rest
