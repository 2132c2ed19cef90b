use Rattle.std.proofs.lemmas.Result.{IfOk-weaker}
use Rattle.scan_log.proofs.Whose.{makes_none}
use Rattle.mapper_base.specs.Turns.{Follows}
use Rattle.mapper_base.proofs.Turns.{query_follows}
use Rattle.mapper_base.proofs.serial_run.one_command.answer.Goals as goal

pub returns-in_default-clause-follows : goal.returns-in_default-clause-follows
returns-in_default-clause-follows c =
    let s = c.args.state.now.state in
    let command = c.args.command.now in
    IfOk-weaker c.query.result _ (λ _. Follows command s s) (λ _ _. query_follows command s (makes_none command (λ caller u e. c.in_default.not-Change caller u e))) c.query.ensures
