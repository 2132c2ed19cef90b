use Rattle.std.proofs.Common.{arith}
use Rattle.kd_frozen.proofs.Round.{next_cell}
use Rattle.kd_frozen.proofs.search.add_leaf.Goals as goal

pub loop-cell-preserved : goal.loop-cell-preserved
loop-cell-preserved c =
    let query = c.args.query.now in
    record {
      bound = c.in_ok-add.ensures.bound;
      found =
          next_cell query.k query.point query.within c.args.cells.now c.loop-cell.cell-index c.cell-item.result
          c.args.found.now.hits c.loop-cell.found.hits c.add.new.found.hits c.requires.distinct (omega arith)
          c.cell-item.is c.loop-cell.invariant.found c.in_ok-add.ensures.found;
    }
