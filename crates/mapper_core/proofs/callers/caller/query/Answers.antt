use Rattle.std.proofs.Common.{subst, sym}
use Rattle.mapper_core.specs.Mine.{Answered}
use Rattle.mapper_core.proofs.OneCaller.{query_answered}
use Rattle.mapper_core.proofs.callers.caller.query.Goals as goal

pub returns : goal.returns
returns g c =
    let v = c.version-version.result.now in
    subst (λ r. Answered g.L.MapName.voxel c.args.command.now c.args.pass.now c.renew.new.self r) (sym c.in_ok-reply.ensures)
    (query_answered g.L.MapName.voxel c.args.pass.now c.renew.new.self c.args.command.now v c.renew.ensures c.version-version.ensures c.requires.unchanging)
