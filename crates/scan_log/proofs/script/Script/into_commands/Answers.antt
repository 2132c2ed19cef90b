use Rattle.scan_log.proofs.Wider.{commands_widen}
use Rattle.scan_log.proofs.script.Script.into_commands.Goals as goal

pub returns-clause-wide : goal.returns-clause-wide
returns-clause-wide c = commands_widen c.self.inside.format c.self.inside.commands.items c.self.invariant.each
