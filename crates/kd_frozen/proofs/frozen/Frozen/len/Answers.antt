use Rattle.std.proofs.Common.{◌≡◌, length, ap, arith}
use Rattle.kd_tree.specs.Contents.{by_number}
use Rattle.kd_frozen.specs.Cells.{items_of}
use Rattle.kd_frozen.proofs.Laid.{cell_count}
use Rattle.kd_frozen.proofs.frozen.Frozen.len.Goals as goal

pub returns : goal.returns
returns c =
    let cells = c.self.inside.cells in
    let seen : length (by_number (items_of cells.items)) ≡ length c.args.self.now = ap length c.self.view_is in
    omega (arith, c.len.ensures, cell_count cells.items, seen, cells.ok.0)
