use Rattle.std.proofs.Common.{◌-◌}
use Rattle.mapper_base.proofs.Scans.{HasSeen}
use Rattle.mapper_base.proofs.generated.scan_points.Given as goal

abbrev pub invariant-loop : goal.invariant-loop
invariant-loop l = HasSeen l.scan l.fn.draws (2000 - l.counter) l.draws l.points
