use Rattle.std.proofs.Common.{◌≡◌, ◌+◌, ◌≤◌, length, drop}
use Rattle.map_items.specs.Contents.{AreContents}
use Rattle.map_items.specs.Fold.{add_points}
use Rattle.map_fold.proofs.plain_map.PlainMap.add.Given as goal

abbrev pub invariant-loop-point : goal.invariant-loop-point
invariant-loop-point l = record {
  numbered : AreContents 0 l.next l.items.items;
  room : l.next + length (drop l.point-index l.points) ≤ 4194304;
  rest : add_points (drop l.point-index l.points) (record { items = l.items.items; next = l.next }) ≡ add_points l.points l.fn.self;
}
