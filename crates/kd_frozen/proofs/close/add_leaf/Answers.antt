use Rattle.std.proofs.Common.{arith}
use Rattle.kd_frozen.proofs.CloseBounds.{cell_close}
use Rattle.kd_frozen.proofs.Round.{next_cell}
use Rattle.kd_frozen.proofs.close.add_leaf.Goals as goal

pub add-drawn-requires-clause-close : goal.add-drawn-requires-clause-close
add-drawn-requires-clause-close c = cell_close c.args.cells.now c.args.query.now.point c.loop-cell.cell-index c.cell-item.result (omega arith) c.cell-item.is c.requires.close

pub loop-cell-preserved : goal.loop-cell-preserved
loop-cell-preserved c =
    let query = c.args.query.now in
    record {
      bound = c.add-drawn.ensures.bound;
      found = next_cell query.k query.point query.within c.args.cells.now c.loop-cell.cell-index c.cell-item.result c.args.list.now c.loop-cell.list c.add-drawn.new.list c.requires.distinct (omega arith) c.cell-item.is c.loop-cell.invariant.found c.add-drawn.ensures.found;
    }
