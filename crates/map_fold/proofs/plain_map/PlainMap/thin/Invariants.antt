use Rattle.std.proofs.Common.{◌≡◌, ◌+◌, ◌≤◌, length, drop}
use Rattle.map_items.specs.Contents.{AreContents}
use Rattle.map_items.specs.Fold.{thin_points}
use Rattle.map_fold.proofs.plain_map.PlainMap.thin.Given as goal

abbrev pub invariant-loop-point : goal.invariant-loop-point
invariant-loop-point l = record {
  held : AreContents 0 l.next l.items.items;
  room : l.next + length (drop l.point-index l.points) ≤ 4194304;
  rest : thin_points l.edge (drop l.point-index l.points) (record { items = l.items.items; next = l.next }) ≡ thin_points l.edge l.points l.fn.self;
}
