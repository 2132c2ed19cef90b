use Rattle.std.proofs.Common.{◌≡◌, ◌++◌, drop}
use Rattle.scan_log.proofs.script.copies.Given as goal

abbrev pub invariant-loop-command : goal.invariant-loop-command
invariant-loop-command l = l.copies.items ++ drop l.command-index l.commands ≡ l.commands
