use Rattle.std.proofs.Common.{◌≡◌, ◌++◌, map, take, drop, length}
use Rattle.map_items.specs.Contents.{chosen_by, marked_item}
use Rattle.map_fold.proofs.plain_map.relabel.Given as goal

abbrev pub invariant-loop-i : goal.invariant-loop-i
invariant-loop-i l = record {
  long : length l.items.items ≡ length l.fn.items.items;
  mapped : l.items.items ≡ map (marked_item (chosen_by l.choice) l.tag) (take l.i l.fn.items.items) ++ drop l.i l.fn.items.items;
}
