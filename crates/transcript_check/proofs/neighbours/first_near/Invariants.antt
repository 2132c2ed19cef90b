use Rattle.std.proofs.Common.{◌≡◌, ◌-◌, ◌≤◌, ◌++◌, length, take, drop}
use Rattle.transcript_check.proofs.Found.{found_in}
use Rattle.transcript_check.proofs.neighbours.first_near.Given as goal

abbrev pub invariant-loop-item : goal.invariant-loop-item
invariant-loop-item l = record {
  few : length l.found ≤ l.most;
  rest : l.found ++ take (l.most - length l.found) (found_in l.point l.limit (drop l.item-index l.items)) ≡ take l.most (found_in l.point l.limit l.items);
}
