use Rattle.std.proofs.Common.{◌≡◌, ◌+◌, ◌++◌, drop}
use Rattle.kd_update.specs.Scan.{live_from}
use Rattle.kd_update.proofs.scans.numbered.live_items.Given as goal

abbrev pub invariant-loop-point : goal.invariant-loop-point
invariant-loop-point l = record {
  number : l.number ≡ l.first + l.point-index;
  rest : l.items.items ++ live_from l.number (drop l.point-index l.points) ≡ live_from l.first l.points;
}
