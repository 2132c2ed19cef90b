use Rattle.std.proofs.Common.{subst}
use Rattle.scan_log.specs.declared.command.Command.TheVariants as command_of
use Rattle.scan_log.specs.declared.reply.Reply.TheVariants as reply
use Rattle.mapper_core.specs.Mine.{Answered}
use Rattle.mapper_core.proofs.OneCaller.{change_tried}
use Rattle.mapper_core.proofs.callers.caller.change.Goals as goal

pub returns-in-Ok : goal.returns-in-Ok
returns-in-Ok g c =
    let p = c.args.pass.now in
    subst (λ z. Answered g.L.MapName.voxel (command_of.Change p.caller z) p c.update.new.pass (reply.Done c.in-Ok.mark)) c.in_ok-copy.ensures
    (change_tried g.L.MapName.voxel p c.update.new.pass c.in_ok-copy.copy c.in-Ok.mark c.in-Ok.ensures)
