use Rattle.mapper_base.proofs.Turns.{change_follows}
use Rattle.mapper_base.proofs.serial_run.one_command.change.Goals as goal

pub returns-clause-follows : goal.returns-clause-follows
returns-clause-follows c = change_follows c.args.caller c.args.update.now _ _ _ (rw c.in_ok-copy.ensures at c.in_ok-mark.ensures.stepped) c.in_ok-maintained.ensures
