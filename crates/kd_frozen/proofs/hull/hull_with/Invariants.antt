use Rattle.std.proofs.Common.{take}
use Rattle.point_geom.specs.Extents.{IsIn}
use Rattle.kd_search.specs.Points.{AreIn}
use Rattle.kd_frozen.specs.Cells.{items_of}
use Rattle.kd_frozen.proofs.hull.hull_with.Given as goal

abbrev pub invariant-loop-cell : goal.invariant-loop-cell
invariant-loop-cell l = record {
  first : IsIn l.hull l.first;
  rest : AreIn l.hull (items_of (take l.cell-index l.rest));
}
