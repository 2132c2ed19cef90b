use Rattle.std.proofs.Common.{◌≡◌, ◌≤◌, ◌-◌, length, take, drop}
use Rattle.std.specs.List.{AllByRecursion}
use Rattle.mapper_core.specs.Meetings.{IsOfCallers, Standing}
use Rattle.mapper_core.proofs.callers.script.run_commands.Given as goal

abbrev pub invariant-loop-command : goal.invariant-loop-command
invariant-loop-command g l = record {
  at : l.at ≡ l.command-index;
  from : l.from ≤ l.at;
  named : AllByRecursion (IsOfCallers g.L.MapName.callers) (take (l.at - l.from) (drop l.from l.commands));
  all : length l.passes.items ≡ g.L.MapName.callers;
  standing : Standing g.L.MapName.voxel (take l.from l.commands) l.passes.items l.replies;
}
