use Rattle.std.proofs.Common.{refl}
use Rattle.scan_log.proofs.Whose.{makes_none}
use Rattle.scan_log.proofs.command.Command.points.Goals as goal

pub returns-in_default : goal.returns-in_default
returns-in_default c = rw (makes_none c.args.self.now (λ caller u e. c.in_default.not-Change caller u e)) refl
