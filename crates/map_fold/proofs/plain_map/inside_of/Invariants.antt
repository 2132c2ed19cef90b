use Rattle.std.proofs.Common.{◌≡◌, ◌-◌, ◌≤◌, ◌++◌, length, take, drop}
use Rattle.map_fold.specs.Answers.{inside, inside_all}
use Rattle.map_fold.proofs.plain_map.inside_of.Given as goal

abbrev pub invariant-loop-item : goal.invariant-loop-item
invariant-loop-item l = record {
  few : length l.found ≤ l.most;
  rest : l.found ++ take (l.most - length l.found) (inside_all (drop l.item-index l.items) l.c) ≡ inside l.items l.c l.most;
}
