use Rattle.std.proofs.Common.{◌≡◌, ◌++◌, drop}
use Rattle.scan_log.specs.Transcript.{lines_text}
use Rattle.mapper_base.proofs.serial_run.whole_script.transcript.Given as goal

abbrev pub invariant-loop-command : goal.invariant-loop-command
invariant-loop-command l = l.out.items ++ lines_text l.script.format (drop l.command-index l.script.commands) l.left ≡ lines_text l.script.format l.script.commands l.replies
