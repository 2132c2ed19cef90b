use Rattle.std.proofs.Common.{length, ◌-◌, ◌≡◌, ◌≤◌, ◌++◌, take, drop}
use Rattle.kd_tree.specs.Contents.{insert_item}
use Rattle.kd_search.proofs.by_number.index_of.Given as goal

abbrev pub invariant-loop-at : goal.invariant-loop-at
invariant-loop-at l = record {
  within : l.at ≤ length l.items;
  put : take l.at l.items ++ insert_item l.item (drop l.at l.items) ≡ insert_item l.item l.items;
}

abbrev pub decreases-loop-at : goal.decreases-loop-at
decreases-loop-at l = length l.items - l.at
