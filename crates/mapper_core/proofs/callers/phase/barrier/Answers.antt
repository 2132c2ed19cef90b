use Rattle.std.proofs.Common.{rules, ◌≡◌, ◌∙◌, ◌∷◌, [], ◌++◌, ◌+◌, subst, take, add-one}
use Rattle.scan_log.specs.declared.command.Command.TheVariants as command_of
use Rattle.mapper_core.specs.Meetings.{Standing, IsTotal}
use Rattle.mapper_core.proofs.Beginnings.{take_next}
use Rattle.mapper_core.proofs.Meeting.{standing_distinct, standing_sync, standing_again, grown_length}
use Rattle.mapper_core.proofs.callers.phase.barrier.Goals as goal

pub all_meet-requires-clause-distinct : goal.all_meet-requires-clause-distinct
all_meet-requires-clause-distinct g c = standing_distinct g.L.MapName.voxel _ _ _ c.requires.standing

pub returns-clause-standing : goal.returns-clause-standing
returns-clause-standing g c =
    let voxel = g.L.MapName.voxel in
    let cs = c.args.commands.now in
    let k = c.args.at in
    let ps = c.args.passes.items in
    let rs = c.args.replies.now in
    let r = c.held.result in
    let same : c.as_slice.result.now ≡ ps = search rules in
    let total : IsTotal voxel ps r = subst (λ z. IsTotal voxel z r) same c.held.ensures in
    let passed : Standing voxel (take k cs ++ command_of.Sync ∷ []) ps (rs ++ r ∷ []) = standing_sync voxel (take k cs) ps rs r c.requires.standing total in
    let here : take (k + 1) cs ≡ take k cs ++ command_of.Sync ∷ [] = rw add-one (take_next cs k command_of.Sync c.requires.barrier) in
    rw (here, c.in_ok-push.ensures.ok) (standing_again voxel (take k cs ++ command_of.Sync ∷ []) ps c.all_meet.result.items (rs ++ r ∷ []) passed c.all_meet.ensures)

pub returns-clause-all : goal.returns-clause-all
returns-clause-all g c = grown_length c.args.passes.items c.all_meet.result.items c.all_meet.ensures.0 ∙ c.requires.all
