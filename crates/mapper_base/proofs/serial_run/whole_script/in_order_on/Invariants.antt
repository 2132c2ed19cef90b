use Rattle.std.proofs.Common.{drop}
use Rattle.mapper_base.proofs.InOrder.{Ran}
use Rattle.mapper_base.proofs.serial_run.whole_script.in_order_on.Given as goal

abbrev pub invariant-loop-command : goal.invariant-loop-command
invariant-loop-command l = Ran l.script (drop l.command-index l.script.commands) l.state.state l.replies
