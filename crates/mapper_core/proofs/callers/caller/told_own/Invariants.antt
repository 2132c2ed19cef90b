use Rattle.std.proofs.Common.{◌≡◌, ◌+◌, drop}
use Rattle.mapper_core.specs.Mine.{RanTo}
use Rattle.mapper_core.proofs.callers.caller.told_own.Given as goal

abbrev pub invariant-loop-command : goal.invariant-loop-command
invariant-loop-command g l = record {
  index : l.index ≡ l.signals.from + l.command-index;
  ran : RanTo g.L.MapName.voxel l.commands (drop l.command-index l.commands) l.fn.pass l.pass l.replies;
}
