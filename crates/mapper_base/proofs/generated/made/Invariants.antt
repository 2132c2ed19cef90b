use Rattle.std.proofs.Common.{◌-◌}
use Rattle.mapper_base.proofs.Scans.{HasMade}
use Rattle.mapper_base.proofs.generated.made.Given as goal

abbrev pub invariant-loop-scan : goal.invariant-loop-scan
invariant-loop-scan l = HasMade l.scans (l.scans - l.scan) l.scan l.draws l.script
