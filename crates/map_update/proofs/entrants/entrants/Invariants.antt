use Rattle.std.proofs.Common.{◌≡◌, ◌+◌, ◌++◌, drop, map}
use Rattle.kd_update.specs.Scan.{live_from}
use Rattle.map_update.specs.Ranks.{entrant_of}
use Rattle.map_update.proofs.entrants.entrants.Given as goal

abbrev pub invariant-loop-point : goal.invariant-loop-point
invariant-loop-point l = record {
  number : l.number ≡ l.next + l.point-index;
  rest : l.entrants.items ++ map (entrant_of l.edge) (live_from l.number (drop l.point-index l.points)) ≡ map (entrant_of l.edge) (live_from l.next l.points);
}
