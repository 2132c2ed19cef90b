use Rattle.scan_log.proofs.Wider.{commands_widen}
use Rattle.scan_log.proofs.script.Script.commands.Goals as goal

pub returns-clause-wide : goal.returns-clause-wide
returns-clause-wide c = rw c.as_slice.ensures.value (commands_widen c.self.inside.format c.self.inside.commands.items c.self.invariant.each)
