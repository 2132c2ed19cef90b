use Rattle.std.proofs.Common.{◌≡◌, List, subst, rules}
use Rattle.kd_tree.specs.Contents.{AreDistinct, by_number}
use Rattle.kd_search.specs.Points.{AreIn}
use Rattle.kd_frozen.specs.declared.cell.Cell.{Cell}
use Rattle.kd_frozen.specs.Cells.{items_of}
use Rattle.kd_frozen.specs.Segments.{AreParted}
use Rattle.kd_frozen.proofs.Laid.{laid_all}
use Rattle.kd_frozen.proofs.frozen.Frozen.laid.Goals as goal
use Rattle.kd_frozen.proofs.frozen.Frozen.laid.Goals.{In_ok-lay}

all : (c : In_ok-lay) → AreParted c.lay.new.laid.items × AreDistinct (items_of c.lay.new.laid.items) × (by_number (items_of c.lay.new.laid.items) ≡ by_number (items_of c.args.cells.now))
all c = laid_all c.args.cells.now c.in_ok-laid.laid.items c.lay.new.laid.items c.in_ok-lay.ensures (search rules) c.requires

pub invariant_of-result : goal.invariant_of-result
invariant_of-result c =
    let is = c.as_slice.ensures.value in
    let s = all (goal.at.invariant_of-result c).In_ok-lay in
    (s.0, s.1, subst (λ (z : List Cell). AreIn c.hull_of-hull.result (items_of z)) is c.hull_of-hull.ensures)

pub returns : goal.returns
returns c = (all (goal.at.returns c).In_ok-lay).2
