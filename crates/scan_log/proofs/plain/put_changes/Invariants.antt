use Rattle.std.proofs.Common.{◌≡◌, ◌++◌, take, drop, length}
use Rattle.std.specs.List.{AllByRecursion}
use Rattle.scan_log.specs.declared.format.Format.TheVariants.{Two}
use Rattle.scan_log.specs.Poses.{plain, plain_from}
use Rattle.scan_log.specs.Scripts.{IsCommand}
use Rattle.scan_log.proofs.plain.put_changes.Given as goal

abbrev pub invariant-loop-command : goal.invariant-loop-command
invariant-loop-command l = record {
  eight : length l.regions.items ≡ 8;
  left : AllByRecursion (IsCommand Two) (drop l.command-index l.commands);
  put : take l.command-index l.commands ++ plain_from l.regions.items (drop l.command-index l.commands) ≡ plain l.fn.commands;
}
