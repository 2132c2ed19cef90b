use Rattle.scan_log.proofs.Whose.{makes_none}
use Rattle.mapper_core.proofs.callers.caller.answer.Goals as goal

pub query-requires-clause-unchanging : goal.query-requires-clause-unchanging
query-requires-clause-unchanging g c κs within = makes_none c.args.command.now (λ caller u e. c.in_default.not-Change caller u e)
