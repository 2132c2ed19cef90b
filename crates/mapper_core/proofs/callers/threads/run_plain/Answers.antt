use Rattle.std.proofs.Common.{subst}
use Rattle.scan_log.specs.Legal.{AreLegalReplies}
use Rattle.mapper_core.specs.Ended.{HaveEnded}
use Rattle.mapper_core.specs.Meetings.{StandingAtEnd}
use Rattle.mapper_core.proofs.AtEnd.{ended_is_legal, have_ended}
use Rattle.mapper_core.proofs.CameBack.{answer_gives}
use Rattle.mapper_core.proofs.callers.threads.run_plain.Goals as goal

pub returns-clause-legal : goal.returns-clause-legal
returns-clause-legal g c =
    let s = c.args.script.now in
    answer_gives (λ r. StandingAtEnd g.L.MapName.voxel g.L.MapName.callers s.commands r.0.items r.1) (λ r. AreLegalReplies s r.1)
    (λ r e. ended_is_legal g.L.MapName.callers s r.0.items r.1
    (subst (λ z. StandingAtEnd z g.L.MapName.callers s.commands r.0.items r.1) c.requires.ready.voxel e))
    c.beside_worker.result c.beside_worker.ensures

pub returns-clause-ended : goal.returns-clause-ended
returns-clause-ended g c =
    let s = c.args.script.now in
    answer_gives (λ r. StandingAtEnd g.L.MapName.voxel g.L.MapName.callers s.commands r.0.items r.1) (λ r. HaveEnded g.L.MapName.callers s r.0.items r.1)
    (λ r e. have_ended g.L.MapName.callers s r.0.items r.1
    (subst (λ z. StandingAtEnd z g.L.MapName.callers s.commands r.0.items r.1) c.requires.ready.voxel e))
    c.beside_worker.result c.beside_worker.ensures
