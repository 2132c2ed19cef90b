use Rattle.std.proofs.Common.{◌≡◌, ◌+◌, ◌≤◌, drop}
use Rattle.scan_log.specs.Scripts.{points_of}
use Rattle.mapper_base.proofs.summing.points_in.Given as goal

abbrev pub invariant-loop-command : goal.invariant-loop-command
invariant-loop-command l = (l.points + points_of (drop l.command-index l.script.commands) ≡ points_of l.script.commands) × (points_of l.script.commands ≤ 4194304)
